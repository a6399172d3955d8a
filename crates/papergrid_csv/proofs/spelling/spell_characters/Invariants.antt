use Rattle.std.proofs.Common.{◌≡◌}
use Rattle.std.specs.Prelude.{encode_utf8_all, flat_map, string_bytes}
use Rattle.papergrid_csv.specs.Spelling.{spelled_character}
use Rattle.papergrid_csv.proofs.spelling.spell_characters.Given as goal

abbrev pub invariant-loop-c : goal.invariant-loop-c
invariant-loop-c l = string_bytes l.text ≡ encode_utf8_all (flat_map (spelled_character l.reading) l.yielded)
