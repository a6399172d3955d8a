use Rattle.papergrid_checks.specs.Rows.{cells_of, lent_measure}
use Rattle.papergrid_checks.proofs.RowLemmas.{table_told}
use Rattle.papergrid_checks.proofs.places.least_table.Goals as goal

pub returns : goal.returns
returns c = table_told c.args.config.now (λ cell. cell.now) lent_measure 3 (cells_of c.args.rows.now) c.new-2.result (rw c.new.ensures at c.new-2.ensures)
