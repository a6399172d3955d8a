use Rattle.papergrid_csv.proofs.ReadLemmas.{filled-next}
use Rattle.papergrid_csv.proofs.reading.filled_rows.Goals as goal

pub loop-row-preserved : goal.loop-row-preserved
loop-row-preserved c =
    filled-next c.args.columns c.loop-row.yielded c.in-Some.row c.in_ok-filled_up.field-0 c.loop-row.filled.items _ c.loop-row.invariant c.in_ok-push.ensures.items c.in_ok-filled_up.ensures
