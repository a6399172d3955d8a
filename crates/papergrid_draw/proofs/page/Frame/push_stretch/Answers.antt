use Rattle.std.proofs.Common.{◌≡◌, ◌∙◌, false, map, subst, true}
use Rattle.std.proofs.lemmas.Result.{on_ok_weaker}
use Rattle.papergrid_draw.specs.Characters.{segment}
use Rattle.papergrid_draw.specs.Drawn.{OnLine, stands_over}
use Rattle.papergrid_draw.specs.ForProofs.Pages.{drawing_of, row_start}
use Rattle.papergrid_draw.specs.ForProofs.Pens.{AddsStretches}
use Rattle.papergrid_draw.proofs.RuleLemmas.{drawn-below, over-asked, over-not, over-so, slot-below, slot-over, slot-owner, stretch-line, stretch-over}
use Rattle.papergrid_draw.proofs.page.Frame.push_stretch.Goals as goal

pub push_cell_over-requires : goal.push_cell_over-requires
push_cell_over-requires g c =
    let told = c.requires in
    let row = c.args.position.row in
    let asked = over-so c.args.self.now row c.args.slot.now.owner c.is_over.result c.is_over.ensures c.if-is_over.true in
    drawn-below c.args.self.now told.0 row c.args.position.col c.args.slot.now asked.0 told.1.drawn (told.1.kept asked.0)

pub returns-then-is_over-clause-adds : goal.returns-then-is_over-clause-adds
returns-then-is_over-clause-adds g c = on_ok_weaker c.push_cell_over.result (λ added texts kept.
    let d = drawing_of c.args.self.now.table.now texts in
    let row = c.args.position.row in
    let col = c.args.position.col in
    let slot = c.args.slot.now in
    let asked = over-so c.args.self.now row slot.owner c.is_over.result c.is_over.ensures c.if-is_over.true in
    let over : stands_over d row col ≡ true =
    over-asked c.args.self.now row slot.owner c.is_over.result c.is_over.ensures texts col c.requires.1.column
    (λ below. slot-owner d row col (row_start d row) slot (kept below)) ∙ c.if-is_over.true in
    subst (AddsStretches _ _ _ _) (stretch-over d row col slot over (kept asked.0)) added)
    c.push_cell_over.ensures.adds

pub returns-then-is_over-clause-kept : goal.returns-then-is_over-clause-kept
returns-then-is_over-clause-kept g c = on_ok_weaker c.push_cell_over.result (λ more texts below line is.
    let row = c.args.position.row in
    let slot = c.args.slot.now in
    let asked = over-so c.args.self.now row slot.owner c.is_over.result c.is_over.ensures c.if-is_over.true in
    slot-over (drawing_of c.args.self.now.table.now texts) row c.args.position.col slot c.push_cell_over.new.slot line asked.1 is more)
    c.push_cell_over.ensures.kept

pub returns-clause-adds : goal.returns-clause-adds
returns-clause-adds g c = on_ok_weaker c.push_segment.result (λ added texts kept.
    let d = drawing_of c.args.self.now.table.now texts in
    let row = c.args.position.row in
    let col = c.args.position.col in
    let slot = c.args.slot.now in
    let free : stands_over d row col ≡ false =
    over-asked c.args.self.now row slot.owner c.is_over.result c.is_over.ensures texts col c.requires.1.column
    (λ below. slot-owner d row col (row_start d row) slot (kept below)) ∙ c.if-is_over.false in
    subst (AddsStretches _ _ _ _) ((λ i. map OnLine (segment (c.args.self.now.read.config_is i) (c.args.self.now.read.shape_is i) c.args.position (c.get_width-width.ensures i)))
    ∙ stretch-line d row col free) added)
    c.push_segment.ensures

pub returns-clause-kept : goal.returns-clause-kept
returns-clause-kept g c = on_ok_weaker c.push_segment.result (λ added texts below line is.
    let row = c.args.position.row in
    let slot = c.args.slot.now in
    slot-below (drawing_of c.args.self.now.table.now texts) row c.args.position.col slot
    (over-not c.args.self.now row slot.owner c.is_over.result c.is_over.ensures c.if-is_over.false below) is)
    c.push_segment.ensures
