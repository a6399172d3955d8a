use Rattle.std.proofs.Common.{◌∙◌, refl, sym}
use Rattle.papergrid_text.specs.LineCache.{answered_lines}
use Rattle.papergrid_text.specs.Measured.{measured_text}
use Rattle.papergrid_text.specs.Text.{split_lines}
use Rattle.papergrid_text.proofs.Widths.{all_answered}
use Rattle.papergrid_draw.specs.Cells.{text_lines}
use Rattle.papergrid.specs.Compact.{first_line, first_text}
use Rattle.papergrid.proofs.FirstLines.{one_line, same_drawing}
use Rattle.papergrid.proofs.laws.one_picture_for_grids.Goals as goal

pub returns-clause-measured : goal.returns-clause-measured
returns-clause-measured g c = λ texts parts color.
    let text = g.S.AsStr.text in
    sym (same_drawing (measured_text text) (λ t. answered_lines (text t.text) t.width t.lines) (λ x. text_lines (text x))
    (λ x. sym (all_answered (text x) (split_lines (text x)) refl)) texts parts color)

pub returns-clause-compact : goal.returns-clause-compact
returns-clause-compact g c = λ records compact widths color d drawn.
    let text = g.R.Iter.Cell.AsStr.text in
    drawn.is ∙ same_drawing (λ cell. first_text (text cell)) text_lines (λ cell. first_line (text cell)) (λ cell. one_line (text cell)) drawn.cells _ color
