use Rattle.std.proofs.Common.{◌≡◌, ◌∙◌, ◌<◌, ◌≤◌, ◌+◌, ◌-◌, ap, sym, subst, refl, length, vec_len, arith}
use Rattle.std.proofs.lemmas.List.{with_items_is}
use Rattle.papergrid_layout.specs.Places.{TableView}
use Rattle.papergrid_draw.specs.Drawings.{layout_of}
use Rattle.papergrid_draw.specs.Crossings.{bare_drawing}
use Rattle.papergrid_draw.specs.ForProofs.Crossings.{AreFittedBefore, AreOwners}
use Rattle.papergrid_draw.proofs.CrossingLemmas.{fitted-start}
use Rattle.papergrid_draw.proofs.crossings.fit_lines.Goals as goal

pub loop-row-init : goal.loop-row-init
loop-row-init c = (
  c.in_ok-above.ensures.len,
  c.in_ok-below.ensures.len,
  (λ none. absurd (omega (arith, none))),
  subst (AreFittedBefore c.args.config.now c.args.shape c.args.junctions.now 0 0) (sym c.new-settings.ensures.items)
      (fitted-start c.args.config.now c.args.shape c.args.junctions.now),
)

pub fit-requires-clause-line : goal.fit-requires-clause-line
fit-requires-clause-line c =
    let table : TableView = layout_of (bare_drawing c.args.config.now c.args.shape) in
    let row = c.loop-row.row in
    let inv = c.loop-row.invariant in
    let within : row ≤ c.args.shape.0 = omega (arith, c.loop-row-test.true) in
    let many : length c.find_owners.new.owners ≡ vec_len c.loop-row.below = c.find_owners.auto.owners ∙ c.deref_mut.ensures.len in
    let upper : 0 < row → AreOwners table (row - 1) c.loop-row.above.items = λ begun. inv.2 begun within in
    record {
      has_rows = c.requires.some.0;
      has_columns = c.requires.some.1;
      within = within;
      many_above = c.deref-in-loop-row.ensures.len ∙ inv.0;
      many_below = c.deref-in-loop-row-2.ensures.len ∙ inv.1;
      above = λ begun. subst (AreOwners table (row - 1)) (sym c.deref-in-loop-row.ensures.value) (upper begun);
      below = λ inner. subst (AreOwners table row)
          (sym (c.deref-in-loop-row-2.ensures.value ∙ with_items_is c.loop-row.below c.find_owners.new.owners many))
          (c.find_owners.ensures table refl c.requires.tiled inner (c.deref.ensures.len ∙ inv.0)
          (λ begun. subst (AreOwners table (row - 1)) (sym c.deref.ensures.value) (upper begun)));
    }

pub loop-row-preserved : goal.loop-row-preserved
loop-row-preserved c =
    let table : TableView = layout_of (bare_drawing c.args.config.now c.args.shape) in
    let row = c.loop-row.row in
    let inv = c.loop-row.invariant in
    let within : row ≤ c.args.shape.0 = omega (arith, c.loop-row-test.true) in
    let many : length c.find_owners.new.owners ≡ vec_len c.loop-row.below = c.find_owners.auto.owners ∙ c.deref_mut.ensures.len in
    let items : c.swap.new.x.items ≡ c.find_owners.new.owners = ap (λ v. v.items) c.swap.ensures.x_after ∙ with_items_is c.loop-row.below c.find_owners.new.owners many in
    let back : row + 1 - 1 ≡ row = omega arith in (
      ap (λ v. vec_len v) c.swap.ensures.x_after ∙ inv.1,
      ap (λ v. vec_len v) c.swap.ensures.y_after ∙ inv.0,
      (λ _ inner. subst (λ r. AreOwners table r c.swap.new.x.items) (sym back) (subst (AreOwners table row) (sym items)
          (c.find_owners.ensures table refl c.requires.tiled (omega (arith, inner)) (c.deref.ensures.len ∙ inv.0)
          (λ begun. subst (AreOwners table (row - 1)) (sym c.deref.ensures.value) (inv.2 begun within))))),
      c.in_ok-fit.ensures,
    )
