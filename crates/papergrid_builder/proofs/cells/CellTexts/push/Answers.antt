use Rattle.std.proofs.Common.{◌∙◌, ◌++◌, ◌∷◌, [], ap, length, string_bytes}
use Rattle.std.proofs.lemmas.Result.{err_from_is_err_and}
use Rattle.papergrid_builder.proofs.TextLemmas.{cells-kept, cells-more, texts-kept, texts-more}
use Rattle.papergrid_builder.proofs.cells.CellTexts.push.Goals as goal

pub invariant_of-self-in_err-push : goal.invariant_of-self-in_err-push
invariant_of-self-in_err-push c =
    let text = string_bytes c.self.inside.text in
    rw (c.in_ok-push_str.ensures.bytes, c.in_err-push.ensures.items) (cells-kept text c.args.cell.now c.utf8.cell c.self.inside.ranges.items c.self.invariant)

pub returns-in_err-push-clause-err : goal.returns-in_err-push-clause-err
returns-in_err-push-clause-err c =
    let text = string_bytes c.self.inside.text in
    let p = err_from_is_err_and c.from_residual-in_err-push.result c.from_residual-in_err-push.ensures.1 in
    rw (p.1, c.in_ok-push_str.ensures.bytes, c.in_err-push.ensures.items)
    (texts-kept text c.args.cell.now c.utf8.cell c.self.inside.ranges.items c.self.invariant.within ∙ c.self.view_is)

pub invariant_of-self-2 : goal.invariant_of-self-2
invariant_of-self-2 c =
    let text = string_bytes c.self.inside.text in
    rw (c.in_ok-push_str.ensures.bytes, c.in_ok-push.ensures.items)
    (cells-more text c.args.cell.now c.utf8.cell c.self.inside.ranges.items c.self.invariant c.len-start.result c.len.result (c.len-start.ensures ∙ c.self.inside.text.bytes.ok.0) (c.len.ensures ∙ c.push_str.new.self.bytes.ok.0 ∙ ap length c.in_ok-push_str.ensures.bytes))

pub returns-clause-ok : goal.returns-clause-ok
returns-clause-ok c =
    let text = string_bytes c.self.inside.text in
    rw (c.in_ok-push_str.ensures.bytes, c.in_ok-push.ensures.items)
    (texts-more text c.args.cell.now c.utf8.cell c.self.inside.ranges.items c.self.invariant c.len-start.result c.len.result (c.len-start.ensures ∙ c.self.inside.text.bytes.ok.0) (c.len.ensures ∙ c.push_str.new.self.bytes.ok.0 ∙ ap length c.in_ok-push_str.ensures.bytes)
    ∙ ap (λ cells. cells ++ c.args.cell.now ∷ []) c.self.view_is)
