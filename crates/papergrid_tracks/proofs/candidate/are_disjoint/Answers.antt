use Rattle.std.proofs.Common.{refl}
use Rattle.papergrid_tracks.proofs.CandidateLemmas.{disjoint-from_order}
use Rattle.papergrid_tracks.proofs.candidate.are_disjoint.Goals as goal

pub returns-then-candidate : goal.returns-then-candidate
returns-then-candidate g c = ((λ t. disjoint-from_order c.args.candidate.now.direction (g.A.Axis.span_of c.args.axis.now) c.args.candidate.now.positions.now (c.requires.ordered c.if-candidate.true)), λ disjoint. refl)
