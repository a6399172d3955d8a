use Rattle.papergrid_values.specs.declared.direction.Direction.TheVariants.{Columns, Rows}
use Rattle.papergrid_tables.proofs.CountLemmas.{counted_here}
use Rattle.papergrid_tables.proofs.counted_parts.Corners.take.Goals as goal

pub remove-requires : goal.remove-requires
remove-requires g c = counted_here c.args.position.row _ _ _ c.take_part.result c.if-take_part.true (c.take_part.ensures.less Rows c.args.position.row) (c.requires.0 c.args.position.row)

pub remove-requires-then-take_part : goal.remove-requires-then-take_part
remove-requires-then-take_part g c = counted_here c.args.position.col _ _ _ c.take_part.result c.if-take_part.true (c.take_part.ensures.less Columns c.args.position.col) (c.requires.1 c.args.position.col)
