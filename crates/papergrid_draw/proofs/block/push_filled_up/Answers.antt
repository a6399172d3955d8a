use Rattle.std.proofs.Common.{◌++◌, ◌∙◌, ap, string_bytes}
use Rattle.std.proofs.lemmas.Result.{on_ok_weaker}
use Rattle.papergrid_draw.specs.ForProofs.Pens.{fill_bytes}
use Rattle.papergrid_draw.proofs.BlockLemmas.{added_filled}
use Rattle.papergrid_draw.proofs.block.push_filled_up.Goals as goal

pub returns : goal.returns
returns c =
    let look = c.args.look.now in
    let old = string_bytes c.args.line.now in
    let l₄ = string_bytes c.push_colored_fill-3.new.line in
    let one = c.in_ok-push_colored_fill.ensures ∙ ap (λ o. old ++ fill_bytes o look.padding.now.left.fill look.padding.now.left.size) c.as_ref.ensures.value in
    let last = ap (λ o. l₄ ++ fill_bytes o look.padding.now.right.fill look.padding.now.right.size) c.as_ref-2.ensures.value in
    on_ok_weaker c.push_colored_fill-4.result (λ five. added_filled old _ _ _ l₄ _ _ _ _ _ _ one c.in_ok-push_colored_fill-2.ensures
    c.in_ok-push_colored.ensures c.in_ok-push_colored_fill-3.ensures (five ∙ last)) c.push_colored_fill-4.ensures
