use Rattle.std.proofs.Common.{◌∙◌, refl, sym, arith}
use Rattle.papergrid_tracks.proofs.HighestLemmas.{least_of}
use Rattle.papergrid_tracks.proofs.LeastLemmas.{bound-least_of, furthest_right-is, same-least_of}
use Rattle.papergrid_tracks.proofs.laws.least_by_shares.Goals as goal

pub returns-clause-some : goal.returns-clause-some
returns-clause-some c = λ problem table. (least_of problem, (furthest_right-is problem table (least_of problem)).1 refl)

pub returns-clause-only : goal.returns-clause-only
returns-clause-only c = λ problem sizes other table is also. (furthest_right-is problem table sizes).0 is ∙ sym ((furthest_right-is problem table other).0 also)

pub returns-clause-bound : goal.returns-clause-bound
returns-clause-bound c = grind (arith, furthest_right-is, bound-least_of)

pub returns-clause-laminar : goal.returns-clause-laminar
returns-clause-laminar c = λ problem table apart. (furthest_right-is problem table _).1 (sym (same-least_of problem table apart))
