use Rattle.papergrid_tables.proofs.OffsetEqual.{overrides_agree}
use Rattle.papergrid_tables.proofs.laws.equal_overrides.Goals as goal

pub returns : goal.returns
returns g c = overrides_agree g.T.PartialEq.eq
