use Rattle.std.proofs.Common.{ap, ap₂, refl, sym, subst, ◌∙◌, ◌<◌}
use Rattle.std.proofs.lemmas.Result.{IfOk-weaker}
use Rattle.std.specs.Prelude.{string_bytes}
use Rattle.std.specs.Slice.Iter.{chunks_rest, chunks_size}
use Rattle.papergrid_text.specs.Cut.{cut_rows}
use Rattle.papergrid_text.specs.Text.{text_width}
use Rattle.papergrid_layout_checks.proofs.ColumnWidths.{from_lists}
use Rattle.papergrid_layout_checks.proofs.tests.record_callers.of_chunks.Goals as goal

pub returns : goal.returns
returns c =
    let is = c.new.ensures in
    let size = ap (λ s. chunks_size s) is ∙ c.chunks.ensures.size in
    IfOk-weaker c.of_rows.result _ _ (λ w t. from_lists (λ cell. cell.now) (λ cell. text_width (string_bytes cell)) t.0 _ _ _ w.items (c.chunks_tell_rows.ensures.told _ t.0 (subst (λ n. 0 < n) (sym size) c.requires) t.1 ∙ ap₂ cut_rows size (ap (λ s. chunks_rest s) is ∙ c.chunks.ensures.rest)) refl t.2) c.of_rows.ensures
