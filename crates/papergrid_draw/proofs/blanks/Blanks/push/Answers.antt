use Rattle.std.proofs.Common.{◌≡◌, ◌-◌, ◌+◌, ◌∙◌, ◌++◌, ap, arith, string_bytes}
use Rattle.std.proofs.lemmas.Result.{on_ok_weaker}
use Rattle.papergrid_draw.specs.Contents.{free_before}
use Rattle.papergrid_draw.proofs.BlankLemmas.{stands_between}
use Rattle.papergrid_draw.proofs.PenLemmas.{added_three}
use Rattle.papergrid_draw.proofs.blanks.Blanks.push.Goals as goal

pub returns : goal.returns
returns c =
    let s = c.args.self.now in
    let columns : c.saturating_sub-inner.result ≡ c.args.width - (s.left + s.right) = omega arith in
    let free : c.saturating_sub-2.result ≡ (c.args.width - (s.left + s.right)) - c.args.own = omega (arith, columns) in
    let start = c.free_before-before.ensures ∙ ap (free_before c.args.horizontal) free in
    let rest : c.saturating_sub-after.result ≡ (c.args.width - (s.left + s.right)) - (c.free_before-before.result + c.args.own) = omega (arith, columns) in
    on_ok_weaker c.push_blanks-2.result (λ added look between same.
    added_three (string_bytes c.args.line.now) _ _ _ _ _ _ c.in_ok-push_blanks.ensures c.in_ok-push_str.ensures.bytes added
    ∙ ap (λ bytes. string_bytes c.args.line.now ++ bytes) (stands_between look s between c.args.text.now c.args.own c.args.width c.args.horizontal _ _ same start rest))
    c.push_blanks-2.ensures
