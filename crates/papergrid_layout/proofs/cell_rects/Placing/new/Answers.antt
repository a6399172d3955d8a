use Rattle.papergrid_values.specs.declared.direction.Direction.TheVariants.{Columns, Rows}
use Rattle.papergrid_layout.proofs.cell_rects.Placing.new.Goals as goal

pub marks-requires-clause-fits : goal.marks-requires-clause-fits
marks-requires-clause-fits g c = (c.requires.fit Columns)

pub marks-requires-2-clause-fits : goal.marks-requires-2-clause-fits
marks-requires-2-clause-fits g c = (c.requires.fit Rows)
