use Rattle.papergrid_tracks.proofs.Duality.{IsLeast-from_certificate}
use Rattle.papergrid_tracks.proofs.laws.certified_are_least.Goals as goal

pub returns : goal.returns
returns c = λ problem cells sizes table fits certificate. IsLeast-from_certificate problem.line problem.count problem.demands cells sizes table fits certificate
