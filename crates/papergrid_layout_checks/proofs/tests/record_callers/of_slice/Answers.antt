use Rattle.std.proofs.Common.{refl}
use Rattle.std.proofs.lemmas.Result.{IfOk-weaker}
use Rattle.std.specs.Prelude.{string_bytes}
use Rattle.papergrid_text.specs.Text.{text_width}
use Rattle.papergrid_layout_checks.proofs.ColumnWidths.{from_told}
use Rattle.papergrid_layout_checks.proofs.tests.record_callers.of_slice.Goals as goal

pub returns : goal.returns
returns c = IfOk-weaker c.of_rows.result _ _ (λ w t. from_told (λ cell. cell.now) (λ cell. text_width (string_bytes cell)) (λ row. row.items) t.0 _ _ _ _ w.items t.1 refl refl t.2) c.of_rows.ensures
