use Rattle.std.proofs.Common.{◌≡◌, ◌<◌, ◌^◌, ◌+◌, true, refl, rules}
use Rattle.papergrid_tracks.specs.Ranges.{demand_of}
use Rattle.papergrid_tracks.specs.ForProofs.Demands.{is_single}
use Rattle.papergrid_tracks.proofs.DemandLemmas.{Holds-single, gathered_for-met}
use Rattle.papergrid_tracks.proofs.demands.keep.Goals as goal

pub returns-then-is_met : goal.returns-then-is_met
returns-then-is_met c = λ limit demands held.
    let total = c.args.measure + c.args.before + c.args.after in
    let d = demand_of c.args.direction c.args.position c.args.span total in
    let small : total < 2 ^ 64 = search rules in
    let single : is_single limit d ≡ true = search rules in
    Holds-single limit c.args.kept.now c.args.kept.now demands d held c.requires small refl refl single refl (gathered_for-met c.args.kept.now.single_span.items d (search rules))
