use Rattle.papergrid_csv.proofs.OneRunLemmas.{csv-drawable}
use Rattle.papergrid_csv.proofs.laws.csv_drawable.Goals as goal

pub returns : goal.returns
returns c = csv-drawable
