use Rattle.std.proofs.Common.{◌≡◌, ℕ, length, ap, arith, subst}
use Rattle.papergrid_layout.specs.Tables.{view_of}
use Rattle.papergrid_draw.specs.ForProofs.Apart.{AreTested}
use Rattle.papergrid_draw.proofs.separated.table_apart.Goals as goal

pub returns : goal.returns
returns c =
    let last : c.loop-row.row ≡ length c.args.table.now.heights = omega (arith, ap (λ s. s.0) c.shape-row-end.ensures) in
    subst (λ (n : ℕ). AreTested (view_of c.args.table.now) c.loop-row.apart n 0) last c.loop-row.invariant.tested
