use Rattle.papergrid_maps.proofs.StoredAgree.{maps_agree}
use Rattle.papergrid_maps.proofs.laws.equal_maps.Goals as goal

pub returns : goal.returns
returns g c = maps_agree g.T.PartialEq.eq
