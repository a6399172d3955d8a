use Rattle.std.proofs.Common.{Option, subst}
use Rattle.std.specs.Prelude.{MatchOption}
use Rattle.papergrid_values.specs.declared.per_direction.PerDirection.{PerDirection}
use Rattle.papergrid_tracks.specs.declared.solution.Solved.{Solved}
use Rattle.papergrid_csv.specs.Certified.{HasNoSizes, IsCsvCertified}
use Rattle.papergrid_csv.specs.Pictures.{IsCsvRun}
use Rattle.papergrid_csv.proofs.CertifyLemmas.{picture-by}
use Rattle.papergrid_csv.proofs.certified.has_picture.Goals as goal

pub returns-in-Some : goal.returns-in-Some
returns-in-Some c =
    let certified = subst (λ (found : Option (PerDirection Solved)). MatchOption found (HasNoSizes (IsCsvRun c.args.request.now c.args.input.now)) (IsCsvCertified c.args.request.now c.args.input.now)) c.in-Some.is c.in_ok-found.ensures in
    picture-by c.args.request.now c.args.input.now c.in-Some.found certified c.is_wide.result c.is_wide.ensures
