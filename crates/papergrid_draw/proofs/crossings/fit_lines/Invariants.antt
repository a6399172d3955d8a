use Rattle.std.proofs.Common.{◌≡◌, ◌<◌, ◌≤◌, ◌-◌, vec_len}
use Rattle.papergrid_draw.specs.Drawings.{layout_of}
use Rattle.papergrid_draw.specs.Crossings.{bare_drawing}
use Rattle.papergrid_draw.specs.ForProofs.Crossings.{AreFittedBefore, AreOwners}
use Rattle.papergrid_draw.proofs.crossings.fit_lines.Given as goal

abbrev pub invariant-loop-row : goal.invariant-loop-row
invariant-loop-row l =
    (vec_len l.above ≡ l.shape.1) × (vec_len l.below ≡ l.shape.1)
    × (0 < l.row → l.row ≤ l.shape.0 → AreOwners (layout_of (bare_drawing l.config l.shape)) (l.row - 1) l.above.items)
    × AreFittedBefore l.config l.shape l.junctions l.row 0 l.settings.items
