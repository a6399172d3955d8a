use Rattle.std.proofs.Common.{◌≡◌, ◌≤◌, ◌-◌, ◌++◌, ◌∙◌, ap, arith, string_bytes}
use Rattle.std.proofs.lemmas.Result.{on_ok_weaker}
use Rattle.papergrid_draw.specs.Contents.{lines_of}
use Rattle.papergrid_draw.specs.ForProofs.Pens.{fill_bytes}
use Rattle.papergrid_draw.proofs.BlockLemmas.{content-below, none_shown}
use Rattle.papergrid_draw.proofs.block.Block.push_line.Goals as goal
use Rattle.papergrid_draw.proofs.block.Block.push_line.Goals.{in_default-via-in-Some+else-index-self, in_default-via-in_default}

pub returns-in_default : goal.returns-in_default
returns-in_default g c =
    let inside = c.self.inside in
    let past : inside.count ≤ c.args.k - inside.above
    = elim c.in_default.branch [
      | in_default-via-in-Some+else-index-self w ↦ w.if-index-self.false
      | in_default-via-in_default w ↦ (let none : inside.count ≡ 0 = none_shown _ _ _ _ (ap (lines_of g.T.Cell.lines) w.in_default.is) c.self.invariant.shown in omega arith)
    ] in
    let old = string_bytes c.args.line.now in
    rw (← c.self.view_is) (on_ok_weaker c.push_colored_fill-in_default.result (λ added. added
    ∙ ap (λ o. old ++ fill_bytes o inside.look.padding.now.bottom.fill inside.width) c.as_ref-in_default.ensures.value
    ∙ ap (λ text. old ++ text) (content-below _ _ _ _ _ c.self.invariant c.args.k c.if-k-self.false past)) c.push_colored_fill-in_default.ensures)
