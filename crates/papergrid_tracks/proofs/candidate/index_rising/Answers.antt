use Rattle.std.proofs.Common.{rules, of_calls, arith}
use Rattle.std.specs.Prelude.{nat_lt}
use Rattle.std.proofs.lemmas.List.Sorted.{IsPartitionPoint-from_clause, IsPartitionedBy-ltb}
use Rattle.papergrid_values.specs.Positions.{along}
use Rattle.papergrid_tracks.proofs.CandidateLemmas.{never_falls, point-guess}
use Rattle.papergrid_tracks.proofs.candidate.index_rising.Goals as goal

pub returns : goal.returns
returns c =
    let parted = IsPartitionedBy-ltb (along c.args.direction) c.args.positions.now c.args.start (never_falls c.args.direction c.args.positions.now c.requires) in
    IsPartitionPoint-from_clause (λ p. nat_lt (along c.args.direction p) c.args.start) _ _ c.partition_point.ensures.partitioned parted (λ a r q k. search (rules, of_calls))

pub returns-then-number_of-start : goal.returns-then-number_of-start
returns-then-number_of-start c = grind (arith, point-guess)
