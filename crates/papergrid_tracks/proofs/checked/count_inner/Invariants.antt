use Rattle.std.proofs.Common.{◌≡◌, ◌+◌, ◌-◌, ◌≤◌, count_by}
use Rattle.std.specs.List.{range_with_len}
use Rattle.papergrid_tracks.proofs.checked.count_inner.Given as goal

abbrev pub invariant-loop-i : goal.invariant-loop-i
invariant-loop-i g l =
    (l.inner ≡ count_by (g.A.Axis.line l.axis) (range_with_len (l.fn.start + 1) (l.i - (l.fn.start + 1)))) × (l.inner ≤ l.i)
