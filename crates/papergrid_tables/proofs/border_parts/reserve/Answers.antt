use Rattle.papergrid_values.specs.declared.direction.Direction.TheVariants.{Columns, Rows}
use Rattle.papergrid_tables.proofs.border_parts.reserve.Goals as goal

pub returns-in_err-reserve-clause-counted_horizontal : goal.returns-in_err-reserve-clause-counted_horizontal
returns-in_err-reserve-clause-counted_horizontal g c = c.reserve.ensures.counted Rows

pub returns-in_err-reserve-2-clause-counted_horizontal : goal.returns-in_err-reserve-2-clause-counted_horizontal
returns-in_err-reserve-2-clause-counted_horizontal g c = c.reserve.ensures.counted Rows

pub returns-in_err-reserve-2-clause-counted_vertical : goal.returns-in_err-reserve-2-clause-counted_vertical
returns-in_err-reserve-2-clause-counted_vertical g c = c.reserve-2.ensures.counted Columns

pub returns-clause-counted_horizontal : goal.returns-clause-counted_horizontal
returns-clause-counted_horizontal g c = c.reserve.ensures.counted Rows

pub returns-clause-counted_vertical : goal.returns-clause-counted_vertical
returns-clause-counted_vertical g c = c.reserve-2.ensures.counted Columns
