-- A walk begins with the whole list: its first row and the rows after it are all rows.
use Rattle.std.proofs.Common.{arith}
use Rattle.std.proofs.lemmas.Bool.Decides.{nat_tests}
use Rattle.papergrid_values.proofs.WalkLemmas.{rows_from-more, rows_from-global, rows_from-column}
use Rattle.papergrid_values.proofs.entity_iterator.EntityIterator.new.Goals as goal

pub returns-in-Global : goal.returns-in-Global
returns-in-Global c = grind (arith, nat_tests, rows_from-more c.args.entity c.args.count_cols c.args.count_rows 0, rows_from-global c.args.count_rows c.args.count_cols, c.in-Global.is)

pub returns-in-Column : goal.returns-in-Column
returns-in-Column c = grind (arith, nat_tests, rows_from-more c.args.entity 1 c.args.count_rows 0, rows_from-column c.args.count_rows c.in-Column.field-0, c.in-Column.is)
