use Rattle.std.proofs.Common.{ap, subst, sym}
use Rattle.std.proofs.lemmas.Result.{IfOk-weaker}
use Rattle.papergrid_text.specs.declared.iter_records.IterRecords.{IterRecords}
use Rattle.papergrid_text.specs.Text.{text_width}
use Rattle.papergrid_layout_checks.proofs.ColumnWidths.{at_the_end}
use Rattle.papergrid_layout_checks.proofs.tests.record_callers.of_rows.Goals as goal

pub widest-requires : goal.widest-requires
widest-requires g c = subst (λ rows. g.I.IntoRecords.is_lawful rows) (sym (ap (λ (r : IterRecords _). r.iter) c.new.ensures)) c.requires

pub returns : goal.returns
returns g c =
    let same = ap (λ (r : IterRecords _). r.iter) c.new.ensures in
    let count = ap (λ (r : IterRecords _). r.count_columns) c.new.ensures in
    IfOk-weaker c.widest.result _ _ (λ w t. (
      t.0,
      subst (λ rows. g.I.IntoRecords.tells rows t.0) same t.1,
      at_the_end (λ cell. text_width (g.I.Cell.AsStr.text cell)) _ _ t.0 w.items t.2 count,
    )) c.widest.ensures
