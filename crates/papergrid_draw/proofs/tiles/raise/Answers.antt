use Rattle.std.proofs.Common.{◌≡◌, arith, subst}
use Rattle.papergrid_draw.specs.ForProofs.Tiles.{AreFree, AreRaised}
use Rattle.papergrid_draw.proofs.tiles.raise.Goals as goal

pub returns-clause-none : goal.returns-clause-none
returns-clause-none c =
    let end : c.loop-column.column ≡ c.args.last = omega arith in
    subst (λ last. AreFree c.args.until.now c.args.row c.args.start last × AreRaised c.args.until.now c.loop-column.until c.args.start last c.args.end)
    end c.loop-column.invariant
