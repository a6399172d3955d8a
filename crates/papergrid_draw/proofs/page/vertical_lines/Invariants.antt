use Rattle.std.proofs.Common.{◌≡◌, ◌<◌, Bool, ℕ, get_or, length}
use Rattle.papergrid_draw.specs.Drawn.{draws_vertical}
use Rattle.papergrid_draw.specs.ForProofs.Pages.{Texts, drawing_of}
use Rattle.papergrid_draw.proofs.page.vertical_lines.Given as goal

abbrev pub invariant-loop-col : goal.invariant-loop-col
invariant-loop-col l =
    (length l.lines.items ≡ l.col)
    × ((texts : Texts) (i : ℕ) (other : Bool) → i < l.col → get_or l.lines.items i other ≡ draws_vertical (drawing_of l.table texts) i)
