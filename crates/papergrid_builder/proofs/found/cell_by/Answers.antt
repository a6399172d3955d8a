use Rattle.std.proofs.Common.{subst}
use Rattle.papergrid_layout.specs.Places.{IsFirstOver}
use Rattle.papergrid_layout.specs.Tables.{TableParts, view_of}
use Rattle.papergrid_builder.proofs.found.cell_by.Goals as goal

pub returns : goal.returns
returns c = subst (λ (t : TableParts). IsFirstOver (view_of t) c.args.column c.args.line c.cell_at.result) c.in_ok-table.ensures c.cell_at.ensures
