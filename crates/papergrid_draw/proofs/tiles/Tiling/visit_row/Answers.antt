use Rattle.std.proofs.Common.{◌≡◌, ◌∙◌, arith}
use Rattle.papergrid_draw.proofs.TilingLemmas.{tiled-turn}
use Rattle.papergrid_draw.proofs.tiles.Tiling.visit_row.Goals as goal

pub returns-clause-ok : goal.returns-clause-ok
returns-clause-ok c = λ table wide inside has.
    let last : c.loop-col.col ≡ c.args.columns = omega arith in
    tiled-turn table c.args.row c.loop-col.col c.loop-col.self (last ∙ wide) (c.loop-col.invariant table wide inside has)
