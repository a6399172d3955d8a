use Rattle.std.proofs.Common.{◌∙◌, Global, List, None, Some, Vec, ap}
use Rattle.std.specs.Prelude.{option_and_then, slice_get}
use Rattle.std.specs.Option.{option_copied}
use Rattle.papergrid_draw.proofs.LentLemmas.{lent_at, made_at}
use Rattle.papergrid_draw.proofs.cells.cell_in.Goals as goal

pub returns-in_err-get : goal.returns-in_err-get
returns-in_err-get g c =
    let p = c.args.position in
    ap option_copied c.from_residual.ensures
    ∙ ap (option_and_then (λ (row : List g.row.T.Denot). slice_get row p.col))
    (made_at (λ (row : Vec g.row.T.Denot Global). row.items) c.args.rows.now p.row None c.in_err-get.ensures.lookup)

pub returns : goal.returns
returns g c =
    let p = c.args.position in
    let lookup = rw c.deref.ensures.value at c.get-2.ensures.lookup in
    lent_at c.in_ok-get.field-0.now.items p.col c.get-2.result lookup
    ∙ ap (option_and_then (λ (row : List g.row.T.Denot). slice_get row p.col))
    (made_at (λ (row : Vec g.row.T.Denot Global). row.items) c.args.rows.now p.row (Some c.in_ok-get.field-0) c.in_ok-get.ensures.lookup)
