use Rattle.std.proofs.Common.{◌≡◌, ap, arith, subst}
use Rattle.papergrid_draw.specs.ForProofs.Tiles.{AreOwnedBefore}
use Rattle.papergrid_draw.proofs.TilingLemmas.{all-owned}
use Rattle.papergrid_draw.proofs.tiles.Tiling.visit_rows.Goals as goal

pub returns-clause-ok : goal.returns-clause-ok
returns-clause-ok c = λ table same has.
    let tiled = c.loop-row.invariant table same has in
    let rows : table.shape.0 ≡ c.args.shape.0 = ap (λ s. s.0) same in
    let last : c.loop-row.row ≡ table.shape.0 = omega (arith, rows) in
    all-owned table c.loop-row.self.until.items tiled.within (subst (λ r. AreOwnedBefore table r 0 c.loop-row.self.until.items) last tiled.owned)
