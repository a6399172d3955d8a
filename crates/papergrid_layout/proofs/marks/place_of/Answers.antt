use Rattle.papergrid_values.specs.declared.direction.Direction.TheVariants.{Columns, Rows}
use Rattle.papergrid_layout.proofs.PlaceSums.{none-of}
use Rattle.papergrid_layout.proofs.PlacingLemmas.{place-found}
use Rattle.papergrid_layout.proofs.marks.place_of.Goals as goal

pub returns-in_err-left : goal.returns-in_err-left
returns-in_err-left c = λ table marked e.
    none-of c.from_residual.result _ _ c.from_residual.ensures
    (λ inside. c.in_err-left.ensures table.widths (table.grid.draws Columns table.shape.1) table.shape.1 marked.wide inside.0)

pub returns-in_err-top : goal.returns-in_err-top
returns-in_err-top c = λ table marked e.
    none-of c.from_residual-in_err-top.result _ _ c.from_residual-in_err-top.ensures
    (λ inside. c.in_err-top.ensures table.heights (table.grid.draws Rows table.shape.0) table.shape.0 marked.high inside.1)

pub returns : goal.returns
returns c = λ table marked e.
    let wide = c.in_ok-left.ensures table.widths (table.grid.draws Columns table.shape.1) table.shape.1 marked.wide in
    let high = c.in_ok-top.ensures table.heights (table.grid.draws Rows table.shape.0) table.shape.0 marked.high in
    ((wide.0, high.0), place-found table c.args.anchor c.in_ok-left.left c.in_ok-top.top c.in_ok-left.width c.in_ok-top.height e wide.1 high.1)
