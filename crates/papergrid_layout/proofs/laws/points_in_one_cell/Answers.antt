use Rattle.papergrid_layout.proofs.PlaceLaws.{one-over}
use Rattle.papergrid_layout.proofs.laws.points_in_one_cell.Goals as goal

pub returns : goal.returns
returns c = one-over
