use Rattle.std.proofs.Common.{◌<◌, ◌-◌, sym, subst, arith}
use Rattle.papergrid_values.specs.declared.direction.Direction.TheVariants.{Columns, Rows}
use Rattle.papergrid_config.specs.Grids.{spanned_grid}
use Rattle.papergrid_maps.specs.Grids.{Grid}
use Rattle.papergrid_draw.proofs.TileLemmas.{owner-above, owner-left}
use Rattle.papergrid_draw.proofs.OwnerLemmas.{owns-itself}
use Rattle.papergrid_draw.proofs.crossings.next_owner.Goals as goal
use Rattle.papergrid_draw.proofs.crossings.next_owner.Goals.{else-above-row-via-then-above-row+else-row-above, else-above-row-via-else-above-row, else-left-row-via-then-left-row+then-left-col+else-col-left, else-left-row-via-then-left-row+else-left-col, else-left-row-via-else-left-row}

pub returns-then-row-above : goal.returns-then-row-above
returns-then-row-above c = λ table grid tiled inside upper beside.
    let row = c.args.position.row in
    let above = c.args.above in
    let past : above.row < row = c.if-above-row.true in
    let reach : row - above.row < (spanned_grid c.args.config.now).span Rows above = omega (arith, c.if-row-above.true, c.span.ensures.value) in
    owner-above table tiled row c.args.position.col above (omega arith) inside (upper (omega arith))
    (subst (λ (g : Grid). row - above.row < g.span Rows above) (sym grid) reach)

pub returns-then-col-left : goal.returns-then-col-left
returns-then-col-left c = λ table grid tiled inside upper beside.
    let col = c.args.position.col in
    let left = c.args.left in
    let past : left.col < col = c.if-left-col.true in
    let reach : col - left.col < (spanned_grid c.args.config.now).span Columns left = omega (arith, c.if-col-left.true, c.span-then-left-col.ensures.value) in
    owner-left table tiled c.args.position.row col left (omega arith) inside (beside (omega arith))
    (subst (λ (g : Grid). col - left.col < g.span Columns left) (sym grid) reach)

pub returns : goal.returns
returns c = λ table grid tiled inside upper beside.
    let row = c.args.position.row in
    let col = c.args.position.col in
    let above = c.args.above in
    let left = c.args.left in
    owns-itself table row col above left tiled inside upper beside
    (λ reach. let far = subst (λ (g : Grid). row - above.row < g.span Rows above) grid reach.1 in
    elim c.else-above-row.branch [
      | else-above-row-via-then-above-row+else-row-above w ↦ omega (arith, far, w.if-row-above.false, w.span.ensures.value)
      | else-above-row-via-else-above-row w ↦ omega (arith, reach.0, w.if-above-row.false)
    ])
    (λ reach. let far = subst (λ (g : Grid). col - left.col < g.span Columns left) grid reach.2 in
    elim c.else-left-row.branch [
      | else-left-row-via-then-left-row+then-left-col+else-col-left w ↦ omega (arith, far, w.if-col-left.false, w.span-then-left-col.ensures.value)
      | else-left-row-via-then-left-row+else-left-col w ↦ omega (arith, reach.1, w.if-left-col.false)
      | else-left-row-via-else-left-row w ↦ w.if-left-row.false reach.0
    ])
