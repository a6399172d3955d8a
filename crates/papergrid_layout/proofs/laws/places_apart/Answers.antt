use Rattle.papergrid_layout.proofs.PlaceLaws.{apart}
use Rattle.papergrid_layout.proofs.laws.places_apart.Goals as goal

pub returns : goal.returns
returns c = apart
