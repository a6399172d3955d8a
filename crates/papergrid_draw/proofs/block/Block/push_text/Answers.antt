use Rattle.std.proofs.Common.{◌≡◌, ◌-◌, ◌+◌, ◌∙◌, ◌++◌, ap, get_or, [], string_bytes}
use Rattle.std.proofs.lemmas.Result.{on_ok_weaker}
use Rattle.papergrid_draw.specs.Contents.{before, inner, shown_line}
use Rattle.papergrid_draw.specs.ForProofs.Blocks.{filled_up}
use Rattle.papergrid_draw.proofs.BlockLemmas.{Line, after_is, line-filled}
use Rattle.papergrid_draw.proofs.block.Block.push_text.Goals as goal

pub returns : goal.returns
returns g c =
    let b = c.args.self.now in
    let look = c.self.inside.look in
    let is = c.self.view_is in
    let line : Line = shown_line b.look.formatting.horizontal_trim (get_or b.lines c.args.index ([], 0)) in
    let shown : shown_line look.formatting.horizontal_trim (get_or (g.T.Cell.lines c.args.cell.now) c.args.index ([], 0)) ≡ line
    = λ i. shown_line ((is i).look.formatting.horizontal_trim) (get_or (c.requires.own i) c.args.index ([], 0)) in
    let text = c.shown_line-width.ensures.text ∙ ap (λ (l : Line). l.0) shown in
    let width : c.shown_line-width.result.1 ≡ line.1 = c.shown_line-width.ensures.width ∙ ap (λ (l : Line). l.1) shown in
    let start : c.before-before.result ≡ before b line = c.before-before.ensures line.0 ∙ ap (λ w. before b (line.0, w)) width in
    let after : c.saturating_sub-after.result ≡ inner b - (before b line + line.1)
    = after_is _ _ _ _ _ _ _ _ c.saturating_sub-after.ensures c.saturating_sub.ensures c.inner-inner.ensures start width in
    let old = string_bytes c.args.line.now in
    on_ok_weaker c.push_filled_up.result (λ added. added
    ∙ (λ i. old ++ filled_up ((is i).look) ((is i).color) (text i) (start i, after i))
    ∙ ap (λ bytes. old ++ bytes) (line-filled b line)) c.push_filled_up.ensures
