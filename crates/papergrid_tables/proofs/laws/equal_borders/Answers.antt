use Rattle.papergrid_tables.proofs.BorderAgree.{borders_agree}
use Rattle.papergrid_tables.proofs.laws.equal_borders.Goals as goal

pub returns : goal.returns
returns g c = borders_agree g.T.PartialEq.eq
