use Rattle.std.proofs.Common.{ap, refl, ◌∙◌}
use Rattle.std.proofs.lemmas.Result.{IfOk-weaker}
use Rattle.std.specs.Prelude.{string_bytes}
use Rattle.std.specs.Slice.Iter.{iter_rest}
use Rattle.papergrid_text.specs.Text.{text_width}
use Rattle.papergrid_layout_checks.proofs.ColumnWidths.{from_told}
use Rattle.papergrid_layout_checks.proofs.tests.record_callers.of_row_iter.Goals as goal

pub returns : goal.returns
returns c =
    let rest = ap (λ s. iter_rest s) c.new.ensures ∙ c.iter.ensures.rest in
    IfOk-weaker c.of_rows.result _ _ (λ w t. from_told (λ cell. cell.now) (λ cell. text_width (string_bytes cell)) (λ row. row.items) t.0 _ _ _ _ w.items (c.vectors_tell_rows.ensures.told _ t.0 t.1) rest refl t.2) c.of_rows.ensures
