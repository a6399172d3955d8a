use Rattle.std.proofs.Common.{eqb}
use Rattle.papergrid_values.specs.declared.direction.Direction.TheVariants.{Columns, Rows}
use Rattle.papergrid_tables.proofs.CountLemmas.{counted_one_more}
use Rattle.papergrid_tables.proofs.counted_parts.Corners.put.Goals as goal

pub returns-then-put_part-clause-counted : goal.returns-then-put_part-clause-counted
returns-then-put_part-clause-counted g c = (
  (λ line. counted_one_more _ _ _ _ c.put_part.result (eqb c.args.position.row line) c.if-put_part.true (c.add.ensures.one_more line) (c.put_part.ensures.more Rows line) (c.requires.counted.0 line)),
  (λ line. counted_one_more _ _ _ _ c.put_part.result (eqb c.args.position.col line) c.if-put_part.true (c.add-then-put_part.ensures.one_more line) (c.put_part.ensures.more Columns line) (c.requires.counted.1 line)),
)
