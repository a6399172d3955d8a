use Rattle.papergrid_csv.proofs.WideLemmas.{csv-wide}
use Rattle.papergrid_csv.proofs.laws.csv_lines_as_wide.Goals as goal

pub returns : goal.returns
returns c = csv-wide
