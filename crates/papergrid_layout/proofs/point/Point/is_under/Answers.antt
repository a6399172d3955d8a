use Rattle.std.proofs.Common.{arith}
use Rattle.std.proofs.lemmas.Bool.{false≢true}
use Rattle.papergrid_layout.proofs.PointLemmas.{refused-none}
use Rattle.papergrid_layout.proofs.point.Point.is_under.Goals as goal

pub returns-in-Err : goal.returns-in-Err
returns-in-Err g c = grind (arith, false≢true, refused-none)
