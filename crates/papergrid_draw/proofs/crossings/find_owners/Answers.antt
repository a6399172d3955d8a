use Rattle.std.proofs.Common.{◌<◌, ◌+◌, ◌-◌, ◌≡◌, ◌∙◌, ap, length, arith}
use Rattle.papergrid_values.specs.Positions.{position_of}
use Rattle.papergrid_draw.specs.Tiles.{owner}
use Rattle.papergrid_draw.proofs.OwnerLemmas.{owners-more}
use Rattle.papergrid_draw.proofs.crossings.find_owners.Goals as goal

pub loop-col-preserved : goal.loop-col-preserved
loop-col-preserved c = λ table grid tiled in_rows many upper.
    let col = c.loop-col.col in
    let row = c.args.row in
    let inv = c.loop-col.invariant table grid tiled in_rows many upper in
    let in_col : col < table.shape.1 = omega (arith, c.loop-col-test.true, c.requires, many) in
    let in_above : col < length c.args.above.now = omega (arith, many) in
    let in_owners : col < length c.loop-col.owners = omega (arith, many, c.requires, c.loop-col.auto.owners) in
    let is = c.next_owner-left.ensures table grid tiled (in_rows, in_col) (λ begun. upper begun col _ in_above) inv.1 in
    let back : col + 1 - 1 ≡ col = omega arith in (
      owners-more table row col c.loop-col.owners c.next_owner-left.result in_owners inv.0 is,
      (λ _. ap (λ k. owner table (position_of (row, k))) back ∙ is),
    )

pub returns : goal.returns
returns c = λ table grid tiled in_rows many upper k other within.
    (c.loop-col.invariant table grid tiled in_rows many upper).0 k other (omega (arith, within, c.loop-col-test.false, c.loop-col.auto.owners))
