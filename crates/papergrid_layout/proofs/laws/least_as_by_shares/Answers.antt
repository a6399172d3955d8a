use Rattle.papergrid_layout.proofs.LeastLaws.{accepted, same-laminar, same-least}
use Rattle.papergrid_layout.proofs.laws.least_as_by_shares.Goals as goal

pub returns : goal.returns
returns c = record { same = same-least; laminar = same-laminar; accepted = accepted }
