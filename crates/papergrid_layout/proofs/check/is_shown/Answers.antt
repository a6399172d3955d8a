use Rattle.std.proofs.Common.{sym}
use Rattle.papergrid_tracks.proofs.CandidateLemmas.{rising-from_order}
use Rattle.papergrid_layout.proofs.CheckSteps.{listed_shown}
use Rattle.papergrid_layout.proofs.check.is_shown.Goals as goal

pub count_listed-requires : goal.count_listed-requires
count_listed-requires g c = λ t. rising-from_order c.args.candidate.now.direction ((g.S.ConfigView.grid c.args.settings.now).span c.args.candidate.now.direction) c.args.candidate.now.positions.now (c.requires.ordered.ordered t)

pub returns-then-count_listed-gt0 : goal.returns-then-count_listed-gt0
returns-then-count_listed-gt0 g c =
    let candidate = c.args.candidate.now in
    sym (listed_shown (g.S.ConfigView.grid c.args.settings.now) candidate.positions.now c.args.position (c.requires.shown c.if-candidate.true) (rw c.count_listed.ensures at c.if-count_listed-gt0.true))
