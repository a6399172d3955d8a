use Rattle.std.proofs.Common.{◌∙◌, refl, subst, sym}
use Rattle.papergrid_tracks.specs.Fits.{IsCertificate}
use Rattle.papergrid_tracks.proofs.CriticalPathLemmas.{critical_path}
use Rattle.papergrid_tracks.proofs.LeastLemmas.{IsCertificate-least}
use Rattle.papergrid_tracks.proofs.PathBackLemmas.{critical_path-is}
use Rattle.papergrid_tracks.proofs.laws.one_critical_path.Goals as goal

pub returns-clause-certifies : goal.returns-clause-certifies
returns-clause-certifies c = λ problem cells sizes table is least.
    subst (IsCertificate problem sizes) (sym ((critical_path-is problem table cells).0 is)) (IsCertificate-least problem table sizes least)

pub returns-clause-some : goal.returns-clause-some
returns-clause-some c = λ problem table. (critical_path problem, (critical_path-is problem table (critical_path problem)).1 refl)

pub returns-clause-only : goal.returns-clause-only
returns-clause-only c = λ problem cells other table is also. (critical_path-is problem table cells).0 is ∙ sym ((critical_path-is problem table other).0 also)
