use Rattle.std.proofs.Common.{◌≡◌, ◌++◌, take, length}
use Rattle.std.specs.Prelude.{fold}
use Rattle.std.specs.List.{flat_map}
use Rattle.std.specs.Hash as fed
use Rattle.papergrid_text.specs.TextOrder.{line_hash}
use Rattle.papergrid_text.proofs.text.Text.hash_lines.Given as goal

abbrev pub invariant-loop-line : goal.invariant-loop-line
invariant-loop-line g l =
    l.state ≡ fold g.H.Hasher.write l.fn.state (fed.usize (length l.self.lines) ++ flat_map line_hash (take l.line l.self.lines))
