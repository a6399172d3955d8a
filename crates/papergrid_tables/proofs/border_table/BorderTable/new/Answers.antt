use Rattle.papergrid_values.specs.declared.direction.Direction.TheVariants.{Columns, Rows}
use Rattle.papergrid_tables.proofs.BorderHistory.{new_cleared, new_history}
use Rattle.papergrid_tables.proofs.border_table.BorderTable.new.Goals as goal

pub returns-clause-told : goal.returns-clause-told
returns-clause-told g c = rw (c.empty.ensures, c.new.ensures.empty, c.new-2.ensures.empty, c.new-3.ensures.empty, c.new-4.ensures.empty, c.new-5.ensures.empty) new_history

pub returns-clause-cleared : goal.returns-clause-cleared
returns-clause-cleared g c = rw (c.empty.ensures, c.new.ensures.empty, c.new-2.ensures.empty, c.new-3.ensures.empty, c.new-4.ensures.empty, c.new-5.ensures.empty) new_cleared

pub invariant_of-result : goal.invariant_of-result
invariant_of-result g c = record {
  ends_of_horizontal = c.new.ensures.counted _ _;
  ends_of_vertical = c.new-2.ensures.counted _ _;
  rows_of_edges = c.new-3.ensures.counted Rows;
  columns_of_edges = c.new-4.ensures.counted Columns;
  lines_of_corners = c.new-5.ensures.counted;
}
