use Rattle.std.proofs.Common.{rules, of_calls, arith, get_or, leb}
use Rattle.std.specs.List.Sorted.{IsPartitionedBy}
use Rattle.std.proofs.lemmas.Bool.{leb-true, leb-false}
use Rattle.std.proofs.lemmas.List.Sorted.{IsPartitionPoint-from_clause, IsPartitionedBy-leb}
use Rattle.papergrid_layout.proofs.MarkLemmas.{begins-rise, track-of}
use Rattle.papergrid_layout.proofs.marks.Marks.track_before.Goals as goal

pub returns : goal.returns
returns c = λ size line count are fits.
    let begins = c.args.self.now.begins.items in
    let parted : IsPartitionedBy (λ x. leb x c.args.point) c.deref.result.now =
    rw c.deref.ensures.value (IsPartitionedBy-leb (λ x. x) begins c.args.point (begins-rise size line count c.args.self.now are)) in
    let point = rw c.deref.ensures.value at (IsPartitionPoint-from_clause (λ x. leb x c.args.point) c.deref.result.now _ c.partition_point-next.ensures.partitioned parted (λ a r q k. search (rules, of_calls))) in
    track-of size line count c.args.self.now c.partition_point-next.result c.args.point are (omega (arith, c.partition_point-next.ensures.bound))
    (λ k d l. leb-true (get_or begins k d) c.args.point (point.0 k d (omega arith) l))
    (λ k d le l. leb-false (get_or begins k d) c.args.point (point.1 k d le l))
    fits c.checked_sub.result c.checked_sub.ensures
