use Rattle.papergrid_tracks.proofs.CandidateLemmas.{rising-from_order}
use Rattle.papergrid_layout.proofs.check.check.Goals as goal

pub are_visible-requires : goal.are_visible-requires
are_visible-requires g c =
    rising-from_order c.args.direction ((g.S.ConfigView.grid c.args.settings.now).span c.args.direction) c.args.positions.now
    (c.are_in_order-is_ordered.ensures.0 c.if-is_ordered.true)
