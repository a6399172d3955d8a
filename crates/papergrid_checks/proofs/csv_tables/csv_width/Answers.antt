use Rattle.std.proofs.Common.{Option, refl, subst}
use Rattle.std.specs.Prelude.{MatchOption}
use Rattle.papergrid_values.specs.declared.per_direction.PerDirection.{PerDirection}
use Rattle.papergrid_tracks.specs.declared.solution.Solved.{Solved}
use Rattle.papergrid_csv.specs.Certified.{HasNoSizes, IsCsvCertified}
use Rattle.papergrid_csv.specs.Pictures.{IsCsvRun}
use Rattle.papergrid_checks.proofs.csv_tables.csv_width.Goals as goal

pub returns-in-Some-certificate : goal.returns-in-Some-certificate
returns-in-Some-certificate c =
    let certified = subst (λ (found : Option (PerDirection Solved)). MatchOption found (HasNoSizes (IsCsvRun c.args.request.now c.args.text.now)) (IsCsvCertified c.args.request.now c.args.text.now)) c.in-Some.is c.in_ok-both.ensures in
    (c.in-Some.both, certified, refl, c.in-Some-certificate.is)
