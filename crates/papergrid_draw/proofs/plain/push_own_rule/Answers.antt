use Rattle.std.proofs.Common.{◌∙◌, map, subst}
use Rattle.std.proofs.lemmas.Result.{on_ok_weaker}
use Rattle.papergrid_values.specs.Positions.{position_of}
use Rattle.papergrid_draw.specs.Characters.{segment}
use Rattle.papergrid_draw.specs.Drawn.{OnLine}
use Rattle.papergrid_draw.specs.ForProofs.Pages.{drawing_of}
use Rattle.papergrid_draw.specs.ForProofs.Pens.{AddsStretches}
use Rattle.papergrid_draw.proofs.LineLemmas.{frame-columns}
use Rattle.papergrid_draw.proofs.PlainLemmas.{plain-over}
use Rattle.papergrid_draw.proofs.RuleLemmas.{column-adds, column-in, columns-all, rule-done, stretch-line}
use Rattle.papergrid_draw.proofs.plain.push_own_rule.Goals as goal

pub loop-col-preserved : goal.loop-col-preserved
loop-col-preserved c = λ texts.
    let d = drawing_of c.args.frame.now.table.now texts in
    let row = c.args.row in
    let col = c.loop-col.col in
    let inside = column-in c.args.frame.now col c.loop-col-test.true in
    column-adds d row col (c.loop-col.invariant texts) (c.in_ok-push_plain_crossing.ensures texts)
    (subst (AddsStretches _ _ _ _) ((λ i. map OnLine (segment (c.args.frame.now.read.config_is i) (c.args.frame.now.read.shape_is i) (position_of (row, col)) (c.get_width-width.ensures i)))
    ∙ stretch-line d row col (plain-over d c.requires.plain row col inside)) c.in_ok-push_segment.ensures)

pub returns : goal.returns
returns c = on_ok_weaker c.end.result (λ ended texts.
    let all = columns-all c.args.frame.now c.loop-col.col c.loop-col-test.false c.loop-col.auto.col-end in
    rule-done (drawing_of c.args.frame.now.table.now texts) c.args.row c.loop-col.col c.args.frame.now.shape.1 all (frame-columns c.args.frame.now)
    (c.loop-col.invariant texts) (c.in_ok-push_plain_crossing-2.ensures texts) ended)
    c.end.ensures.bytes
