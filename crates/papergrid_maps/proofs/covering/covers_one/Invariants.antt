use Rattle.std.proofs.Common.{◌≡◌, ℕ, ◌<◌, ◌≤◌, false, get_or, length}
use Rattle.papergrid_values.specs.declared.position.Position.{Position}
use Rattle.papergrid_values.specs.Positions.{along}
use Rattle.papergrid_maps.specs.ForProofs.SpanIndex.{covers}
use Rattle.papergrid_maps.proofs.covering.covers_one.Given as goal

-- none is covered so far, and the others are not before the anchor
abbrev pub invariant-loop-i : goal.invariant-loop-i
invariant-loop-i l =
    ((k : ℕ) (p : Position) → k < l.i → covers l.anchor l.columns l.rows (get_or l.positions k p) ≡ false)
    × ((k : ℕ) (p : Position) → l.i ≤ k → k < length l.positions → along l.direction l.anchor ≤ along l.direction (get_or l.positions k p))
