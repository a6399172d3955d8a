use Rattle.std.proofs.Common.{rules}
use Rattle.papergrid_values.specs.declared.direction.Direction.TheVariants.{Columns}
use Rattle.papergrid_tables.specs.ForProofs.LineTested.{is_test}
use Rattle.papergrid_tables.proofs.border_table.BorderTable.has_vertical.Goals as goal

pub returns-else-is_drawn-clause-test : goal.returns-else-is_drawn-clause-test
returns-else-is_drawn-clause-test g c = is_test c.args.self.now Columns c.args.count c.args.col _ (search rules)

pub returns-then-is_drawn-clause-test : goal.returns-then-is_drawn-clause-test
returns-then-is_drawn-clause-test g c = is_test c.args.self.now Columns c.args.count c.args.col _ (search rules)
