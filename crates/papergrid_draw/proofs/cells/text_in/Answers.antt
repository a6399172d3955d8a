use Rattle.std.proofs.Common.{◌∙◌, ℕ, List, None, Some, ap}
use Rattle.std.specs.Prelude.{option_and_then, slice_get}
use Rattle.std.specs.Option.{option_copied}
use Rattle.papergrid_draw.proofs.LentLemmas.{made_at}
use Rattle.papergrid_draw.proofs.cells.text_in.Goals as goal

pub returns-in_err-get : goal.returns-in_err-get
returns-in_err-get g c =
    let p = c.args.position in
    ap option_copied c.from_residual.ensures
    ∙ ap (option_and_then (λ (row : List (List ℕ)). slice_get row p.col)) (made_at g.R.TextRow.texts c.args.rows.now p.row None c.in_err-get.ensures.lookup)

pub returns : goal.returns
returns g c =
    let p = c.args.position in
    c.text.ensures
    ∙ ap (option_and_then (λ (row : List (List ℕ)). slice_get row p.col)) (made_at g.R.TextRow.texts c.args.rows.now p.row (Some c.in_ok-get.field-0) c.in_ok-get.ensures.lookup)
