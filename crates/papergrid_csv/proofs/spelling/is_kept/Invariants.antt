use Rattle.std.proofs.Common.{◌≡◌}
use Rattle.std.specs.Prelude.{flat_map}
use Rattle.papergrid_csv.specs.Spelling.{spelled_character}
use Rattle.papergrid_csv.proofs.spelling.is_kept.Given as goal

abbrev pub invariant-loop-c : goal.invariant-loop-c
invariant-loop-c l = flat_map (spelled_character l.reading) l.yielded ≡ l.yielded
