use Rattle.std.proofs.Common.{◌≡◌, ◌∙◌, ap, ◌+◌, ◌<◌, ◌≤◌, arith, length, subst, sym}
use Rattle.std.specs.Prelude.{slice_index}
use Rattle.std.proofs.lemmas.List.{get_or_default, with_items_is}
use Rattle.papergrid_maps.specs.declared.anchors.Anchor.{Anchor}
use Rattle.papergrid_draw.specs.ForProofs.Tiles.{AreFree, AreOwnedBefore, AreRaised}
use Rattle.papergrid_draw.proofs.EndLemmas.{shows-skip}
use Rattle.papergrid_draw.proofs.TilingLemmas.{cell-ends, fault-two, found-ends, owned-own, owned-pass}
use Rattle.papergrid_draw.proofs.tiles.Tiling.visit.Goals as goal

pub returns-then-index-row-clause-ok : goal.returns-then-index-row-clause-ok
returns-then-index-row-clause-ok c = λ table inside has.
    let r = c.args.position.row in
    let col = c.args.position.col in
    let until = c.args.self.now.until.items in
    let within : col < length until = omega (arith, has.owned.each, inside.1) in
    let below : r < slice_index until col = subst (λ n. r < n) (c.index.ensures ∙ get_or_default until col c.index.result.now 0 within) c.if-index-row.true in
    record {
      fits = has.fits;
      within = has.within;
      shows = shows-skip table.grid c.args.self.now.sweep r col has.shows;
      owned = owned-pass table c.args.self.now.sweep.anchors has.shows.anchors r col until inside.1 below has.owned;
    }

pub overflow_add-col : goal.overflow_add-col
overflow_add-col c =
    let told = c.requires.walk in
    let found = found-ends told.0 c.args.position c.in-Some.anchor told.2.within told.1 (sym c.in-Some.is ∙ c.in_ok-anchor.ensures.visible told.0.grid told.2.shows) in
    omega (arith, found.2, told.2.fits.1)

pub overflow_add-row : goal.overflow_add-row
overflow_add-row c =
    let told = c.requires.walk in
    let found = found-ends told.0 c.args.position c.in-Some.anchor told.2.within told.1 (sym c.in-Some.is ∙ c.in_ok-anchor.ensures.visible told.0.grid told.2.shows) in
    omega (arith, found.3, told.2.fits.0)

pub raise-requires-clause-within : goal.raise-requires-clause-within
raise-requires-clause-within c =
    let told = c.requires.walk in
    let found = found-ends told.0 c.args.position c.in-Some.anchor told.2.within told.1 (sym c.in-Some.is ∙ c.in_ok-anchor.ensures.visible told.0.grid told.2.shows) in
    rw c.deref_mut.ensures.value (omega (arith, found.2, told.2.owned.each))

pub returns-in-None-clause-ok : goal.returns-in-None-clause-ok
returns-in-None-clause-ok c = λ table inside has.
    let r = c.args.position.row in
    let col = c.args.position.col in
    let until = c.args.self.now.until.items in
    let next = c.raise.new.until in
    let found = found-ends table c.args.position c.in-Some.anchor has.within inside (sym c.in-Some.is ∙ c.in_ok-anchor.ensures.visible table.grid has.shows) in
    let raised = subst (λ old. AreFree old r col (col + c.in-Some.anchor.cols) × AreRaised old next col (col + c.in-Some.anchor.cols) (r + c.in-Some.anchor.rows))
    c.deref_mut.ensures.value c.in-None.ensures.none in
    let told = subst (λ (a : Anchor). AreFree until r col (col + a.cols) × AreRaised until next col (col + a.cols) (r + a.rows)) found.1 raised in
    let ends = (cell-ends table c.args.position has.within inside found.0).0 in
    let same_length : length next ≡ c.args.self.now.until.len = omega (arith, raised.1.each, c.deref_mut.ensures.len, ap length c.deref_mut.ensures.value) in
    record {
      fits = has.fits;
      within = has.within;
      shows = c.in_ok-anchor.ensures.later table.grid has.shows;
      owned = subst (AreOwnedBefore table r (col + 1)) (sym (with_items_is c.args.self.now.until next same_length))
          (owned-own table c.args.self.now.sweep.anchors has.shows.anchors r col until next found.0 ends told.0 told.1 has.owned);
    }

pub returns-in-Some-raise-clause-err : goal.returns-in-Some-raise-clause-err
returns-in-Some-raise-clause-err c = λ table inside has.
    let r = c.args.position.row in
    let col = c.args.position.col in
    let until = c.args.self.now.until.items in
    let d = c.in-Some-raise.col in
    let found = found-ends table c.args.position c.in-Some.anchor has.within inside (sym c.in-Some.is ∙ c.in_ok-anchor.ensures.visible table.grid has.shows) in
    let raised = subst (λ old. (col ≤ d) × (d < col + c.in-Some.anchor.cols) × AreFree old r col d × (r < slice_index old d))
    c.deref_mut.ensures.value c.in-Some-raise.ensures.found in
    fault-two table c.args.self.now.sweep.anchors has.shows.anchors r col d until inside has.within found.0 raised.0
    (subst (λ (a : Anchor). d < col + a.cols) found.1 raised.1) raised.2 raised.3 has.owned
