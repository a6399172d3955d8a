use Rattle.std.proofs.Common.{◌∙◌, ap}
use Rattle.std.specs.Option.{option_or}
use Rattle.papergrid_values.specs.declared.direction.Direction.TheVariants.{Columns, Rows}
use Rattle.papergrid_tables.specs.BorderCalls.{edge_part, corner_part}
use Rattle.papergrid_tables.proofs.BorderHistory.{same_table, history_insert_border}
use Rattle.papergrid_values.proofs.ResultLemmas.{on_err}
use Rattle.papergrid_tables.proofs.border_table.BorderTable.insert_border.Goals as goal

pub returns-in_err-reserve-clause-err : goal.returns-in_err-reserve-clause-err
returns-in_err-reserve-clause-err g c =
    on_err _ (same_table c.self.inside.global c.self.inside.frame c.self.inside.horizontal_lines.values.entries c.self.inside.vertical_lines.values.entries c.self.inside.horizontal_edges.values.entries c.self.inside.vertical_edges.values.entries c.self.inside.corners.values.entries _ _ _ c.reserve.ensures.same_horizontal c.reserve.ensures.same_vertical c.reserve.ensures.same_corners ∙ c.self.view_is)

pub returns-clause-ok : goal.returns-clause-ok
returns-clause-ok g c =
    rw (← c.self.view_is)
    (history_insert_border c.self.inside.global c.self.inside.frame c.self.inside.horizontal_lines.values.entries c.self.inside.vertical_lines.values.entries c.self.inside.horizontal_edges.values.entries c.self.inside.vertical_edges.values.entries c.self.inside.corners.values.entries
    c.put_border.new.horizontal.values.entries c.put_border.new.vertical.values.entries c.put_border.new.corners.values.entries c.args.position c.args.border
    (λ q. c.put_border.ensures.horizontal q ∙ ap (option_or (edge_part Rows c.args.position c.args.border q)) (c.reserve.ensures.same_horizontal q))
    (λ q. c.put_border.ensures.vertical q ∙ ap (option_or (edge_part Columns c.args.position c.args.border q)) (c.reserve.ensures.same_vertical q))
    (λ q. c.put_border.ensures.corners q ∙ ap (option_or (corner_part c.args.position c.args.border q)) (c.reserve.ensures.same_corners q)))
