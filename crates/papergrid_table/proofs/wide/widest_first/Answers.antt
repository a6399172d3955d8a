use Rattle.std.proofs.Common.{◌<◌, All, arith, subst, sym}
use Rattle.std.proofs.lemmas.List.Elements.{All-map}
use Rattle.papergrid_csv.specs.Rows.{held_texts}
use Rattle.papergrid_table.specs.Wide.{asked_at}
use Rattle.papergrid_table.specs.declared.wide.Asking.{Asking}
use Rattle.papergrid_table.proofs.wide.widest_first.Goals as goal

pub sort_widest_first-requires : goal.sort_widest_first-requires
sort_widest_first-requires c =
    let asked = asked_at c.args.read.request.now (held_texts c.args.read.rows.now.rows) in
    subst (All (λ (cell : Asking). cell.width < 18446744073709551616)) (sym c.in_ok-asking.ensures)
    (All-map (λ (cell : Asking). cell.width < 18446744073709551616) asked c.args.cells.now (λ k d within. omega arith))
