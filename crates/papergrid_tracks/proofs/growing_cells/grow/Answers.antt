use Rattle.std.proofs.Common.{arith}
use Rattle.papergrid_tracks.specs.ForProofs.Settled.{line_at}
use Rattle.papergrid_tracks.proofs.DistributionLemmas.{deficit-fits, grown-none}
use Rattle.papergrid_tracks.proofs.growing_cells.grow.Goals as goal

pub distribute-requires-clause-room : goal.distribute-requires-clause-room
distribute-requires-clause-room c = λ i from before. let fits = deficit-fits (line_at c.args.lines.now) c.args.sizes.now c.args.demand i 18446744073709551616 from before (omega arith) (omega arith) in omega arith

pub returns-then-deficit-eq0-clause-grown : goal.returns-then-deficit-eq0-clause-grown
returns-then-deficit-eq0-clause-grown c = grown-none (line_at c.args.lines.now) c.args.sizes.now c.args.demand c.requires.table.covers_one (omega arith)
