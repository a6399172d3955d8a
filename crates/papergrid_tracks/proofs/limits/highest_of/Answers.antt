use Rattle.std.proofs.Common.{◌≡◌, ◌∙◌, length, get_or, sym, ap, subst, arith}
use Rattle.std.proofs.lemmas.List.{with_items_is}
use Rattle.papergrid_tracks.specs.ForProofs.Limits.{AreHighestBoundaries}
use Rattle.papergrid_tracks.proofs.limits.highest_of.Goals as goal

pub returns : goal.returns
returns c =
    let start : get_or c.deref_mut.result.now (length c.args.base.now) 0 ≡ c.args.total = ap (λ xs. get_or xs (length c.args.base.now) 0) c.deref_mut.ensures.value ∙ c.in_ok-boundaries.ensures.last in
    subst (λ xs. AreHighestBoundaries c.args.base.now c.args.cells.now c.args.total xs) (sym (with_items_is c.in_ok-boundaries.boundaries c.lay_highest.new.boundaries (omega arith)))
    record {
      one_more = omega (arith, c.lay_highest.ensures.length, c.deref_mut.ensures.len, c.in_ok-boundaries.ensures.length);
      last = c.lay_highest.ensures.last ∙ start;
      laid = c.lay_highest.ensures.laid;
      above = λ boundary are le. c.lay_highest.ensures.above boundary are (omega arith);
    }
