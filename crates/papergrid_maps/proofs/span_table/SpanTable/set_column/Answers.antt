use Rattle.papergrid_values.proofs.ResultLemmas.{on_ok_map}
use Rattle.papergrid_maps.proofs.SpanHistory.{history_set_column}
use Rattle.papergrid_maps.proofs.span_table.SpanTable.set_column.Goals as goal

pub returns-clause-ok : goal.returns-clause-ok
returns-clause-ok c =
    rw (← c.self.view_is) (on_ok_map c.set_span.result (history_set_column _ _ _ c.args.position c.args.span) c.set_span.ensures.ok)
