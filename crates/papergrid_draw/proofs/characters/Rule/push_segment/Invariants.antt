use Rattle.std.proofs.Common.{◌≡◌, ◌++◌, map, string_bytes}
use Rattle.std.specs.List.{flat_map, range_with_len}
use Rattle.papergrid_draw.specs.Bytes.{mark_bytes}
use Rattle.papergrid_draw.specs.Characters.{overridden_mark}
use Rattle.papergrid_draw.proofs.characters.Rule.push_segment.Given as goal

abbrev pub invariant-loop-k : goal.invariant-loop-k
invariant-loop-k l =
    string_bytes l.line ≡ string_bytes l.initial.line ++ flat_map mark_bytes (map (overridden_mark l.config l.fn.shape l.position l.width) (range_with_len 0 l.k))
