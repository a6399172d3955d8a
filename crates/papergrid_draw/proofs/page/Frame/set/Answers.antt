use Rattle.std.proofs.Common.{◌∙◌, arith}
use Rattle.papergrid_draw.specs.ForProofs.Pages.{drawing_of}
use Rattle.papergrid_draw.proofs.SlotLemmas.{block-here, block-left, kept-new, kept-stays}
use Rattle.papergrid_draw.proofs.page.Frame.set.Goals as goal
use Rattle.papergrid_draw.proofs.page.Frame.set.Goals.{then-owner-position-2, else-owner-position-2}

pub owner-owner-requires : goal.owner-owner-requires
owner-owner-requires g c = c.requires

pub returns-then-owner-position : goal.returns-then-owner-position
returns-then-owner-position g c = λ texts are row_in col_in lines color.
    let position = c.args.position in
    let is = c.owner-owner.ensures texts are row_in col_in in
    kept-stays (drawing_of c.args.self.now.table.now texts) c.args.self.now.tiled position.row position.col c.args.slots.now (row_in, col_in) are c.owner-owner.result is c.if-owner-position.true

pub returns : goal.returns
returns g c = λ texts are row_in col_in lines color.
    let position = c.args.position in
    let d = drawing_of c.args.self.now.table.now texts in
    let o = c.owner-owner.result in
    let is = c.owner-owner.ensures texts are row_in col_in in
    let past = c.if-owner-position.false in
    kept-new d c.args.self.now.tiled position.row position.col c.args.slots.now (row_in, col_in) are o c.if-owner-position-2.block is (λ less. omega (arith, less, past))
    (elim c.if-owner-position-2.branch [
      | then-owner-position-2 w ↦
          block-here d c.args.self.now.tiled position.row position.col c.args.slots.now (row_in, col_in) are o c.if-owner-position-2.block is (λ less. omega (arith, less, past))
          w.if-owner-position-2.true (λ within. w.block-is ∙ w.block-block.ensures texts within lines color)
      | else-owner-position-2 w ↦
          block-left d c.args.self.now.tiled position.row position.col c.args.slots.now (row_in, col_in) are o c.if-owner-position-2.block w.if-owner-position-2.false w.block-is
    ])
