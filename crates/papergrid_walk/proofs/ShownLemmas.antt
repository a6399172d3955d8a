-- What a walk knows of the visible positions, step by step.
use Rattle.std.proofs.Common.{◌≡◌, ℕ, List, Some, slice_get, arith}
use Rattle.papergrid_maps.specs.Grids.{Grid}
use Rattle.papergrid_maps.specs.declared.anchors.Anchor.{Anchor}
use Rattle.papergrid_maps.specs.Hidden.{AreAnchorsOf}
use Rattle.papergrid_walk.specs.ForProofs.Shown.{Shows, anchor_in}

-- the start of a walk
pub shows_first : (grid : Grid) (anchors : List Anchor) (columns : ℕ) → AreAnchorsOf grid anchors →
    Shows grid record { anchors = anchors; columns = columns; passed = 0 } 0 0
shows_first grid anchors columns are = record { anchors = are; ahead = λ q below right k a passed is. absurd (omega (arith, passed)) }

-- the spans of an anchor are those of its position
pub anchor_of : (grid : Grid) (anchors : List Anchor) (k : ℕ) (a : Anchor) → AreAnchorsOf grid anchors → slice_get anchors k ≡ Some a →
    a ≡ anchor_in grid a.position
anchor_of grid anchors k a are is = λ i. record { position = a.position; rows = are.spans.has_rows k a is i; cols = are.spans.has_cols k a is i }
