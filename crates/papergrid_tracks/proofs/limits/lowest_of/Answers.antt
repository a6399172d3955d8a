use Rattle.std.proofs.Common.{◌≡◌, ◌+◌, length, sym, subst, arith}
use Rattle.std.proofs.lemmas.List.{with_items_is}
use Rattle.papergrid_tracks.specs.ForProofs.Limits.{AreLowestBoundaries}
use Rattle.papergrid_tracks.proofs.limits.lowest_of.Goals as goal

pub returns-in-Some-clause-lowest_position : goal.returns-in-Some-clause-lowest_position
returns-in-Some-clause-lowest_position c =
    let many : length c.lay_lowest.new.boundaries ≡ length c.args.base.now + 1 = omega (arith, c.in-Some.ensures.length, c.deref_mut.ensures.len, c.in_ok-boundaries.ensures.length) in
    subst (λ xs. AreLowestBoundaries c.args.base.now c.args.cells.now xs) (sym (with_items_is c.in_ok-boundaries.boundaries c.lay_lowest.new.boundaries (omega arith)))
    record { one_more = many; laid = c.in-Some.ensures.laid; below = c.in-Some.ensures.below }
