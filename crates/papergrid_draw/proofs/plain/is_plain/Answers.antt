use Rattle.std.proofs.Common.{◌∙◌, sym}
use Rattle.std.proofs.lemmas.Bool.{false≢true}
use Rattle.papergrid_draw.proofs.plain.is_plain.Goals as goal

pub returns-then-not-rows : goal.returns-then-not-rows
returns-then-not-rows c = (
  (λ so. record {
    columns = λ some. false≢true (sym c.if-not-columns.true ∙ c.has_column_spans-columns.ensures.1 some);
    rows = λ some. false≢true (sym c.if-not-rows.true ∙ c.has_row_spans-rows.ensures.1 some);
    lines = c.has_common_lines-lines.ensures.0 so;
  }),
  (λ plain. c.has_common_lines-lines.ensures.1 plain.lines),
)
