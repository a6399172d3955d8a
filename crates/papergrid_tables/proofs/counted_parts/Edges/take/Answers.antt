use Rattle.papergrid_values.specs.Positions.{along}
use Rattle.papergrid_tables.proofs.CountLemmas.{counted_here}
use Rattle.papergrid_tables.proofs.counted_parts.Edges.take.Goals as goal

pub remove-requires : goal.remove-requires
remove-requires g c =
    let n = along c.args.direction c.args.position in
    rw c.number_of.ensures (counted_here n _ _ _ c.take_part.result c.if-take_part.true (c.take_part.ensures.less c.args.direction n) (c.requires n))
