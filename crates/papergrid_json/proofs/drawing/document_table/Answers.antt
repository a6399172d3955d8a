use Rattle.std.proofs.Common.{◌∙◌, ap}
use Rattle.std.specs.List.{each_same}
use Rattle.papergrid_json.proofs.DrawLemmas.{table-found, table-own}
use Rattle.papergrid_json.proofs.drawing.document_table.Goals as goal

pub returns-in_ok-heights-in-Some : goal.returns-in_ok-heights-in-Some
returns-in_ok-heights-in-Some c =
    table-own c.args.document.now c.args.sizing c.args.config.now c.in-Some.own c.in_ok-widths-in-Some.widths.items c.in_ok-heights-in-Some.heights.items c.from_sizes.result c.in-Some.is
    (each_same c.in-Some.own.widths.items c.in_ok-widths-in-Some.widths.items c.in_ok-widths-in-Some.ensures.cases.0)
    (each_same c.in-Some.own.heights.items c.in_ok-heights-in-Some.heights.items c.in_ok-heights-in-Some.ensures.cases.0) c.from_sizes.ensures

pub returns-in-None : goal.returns-in-None
returns-in-None c =
    table-found c.args.document.now c.args.sizing c.args.config.now (λ cell. cell.now) _ _ c.new.result c.in-None.is
    (ap (λ r. r.iter.now) c.new-records.ensures ∙ c.as_slice.ensures.value) (ap (λ r. r.count_columns) c.new-records.ensures) c.new.ensures
