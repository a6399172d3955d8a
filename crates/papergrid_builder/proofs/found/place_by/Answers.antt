use Rattle.std.proofs.Common.{subst}
use Rattle.papergrid_layout.specs.Places.{HasPlace}
use Rattle.papergrid_layout.specs.Tables.{TableParts, view_of}
use Rattle.papergrid_builder.proofs.found.place_by.Goals as goal

pub returns-in-Ok : goal.returns-in-Ok
returns-in-Ok c = subst (λ (t : TableParts). HasPlace (view_of t) c.args.position c.in-Ok.place) c.in_ok-table.ensures c.in-Ok.ensures.exact
