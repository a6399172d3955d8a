-- What is known of the cells of a table that span several columns or rows.
use Rattle.std.proofs.Common.{◌≡◌, ◌∙◌, ℕ, ◌+◌, ◌-◌, ◌<◌, ◌≤◌, ◌⊎◌, true, false, inl, inr, List, [], ◌∷◌, ◌++◌, length, get_or, refl, sym, ap, subst, arith}
use Rattle.std.specs.Prelude.{◌^◌, All, Contains, Option, None, Some, slice_get}
use Rattle.std.proofs.lemmas.Bool.{cases_eq, cases_lt}
use Rattle.std.proofs.lemmas.List.Elements.{All-contains, All-nil, All-push, All-weaker, Contains-append_left, Contains-push}
use Rattle.std.proofs.lemmas.List.Quantifiers.{all_pairs_push}
use Rattle.std.proofs.lemmas.List.{get_or_default}
use Rattle.std.proofs.lemmas.List.Sorted.{IsNonDecreasingBy-push}
use Rattle.std.proofs.lemmas.Option.{slice_get_within}
use Rattle.papergrid_values.specs.declared.direction.Direction.{Direction}
use Rattle.papergrid_values.specs.declared.position.Position.{Position}
use Rattle.papergrid_values.specs.Positions.{IsBefore}
use Rattle.papergrid_maps.specs.Anchors.{HasAnchor, IsSorted}
use Rattle.papergrid_maps.specs.Grids.{Grid}
use Rattle.papergrid_maps.specs.Hidden.{AreAnchorsOf}
use Rattle.papergrid_maps.specs.Spans.{IsInRectangle}
use Rattle.papergrid_maps.specs.declared.anchors.Anchor.{Anchor}
use Rattle.papergrid_walk.specs.ForProofs.Shown.{Shows, anchor_in}
use Rattle.papergrid_walk.specs.ForProofs.Swept.{Walk}
use Rattle.papergrid_layout.specs.Places.{Covers, HasPlace, IsFirstOver, IsInsideTable, StandsOver, TableView, place_at, total_along}
use Rattle.papergrid_layout.specs.declared.rect.Place.{Place}
use Rattle.papergrid_layout.specs.declared.spanning.SpanningCell.{SpanningCell}
use Rattle.papergrid_layout.specs.declared.spanning.Spanning.{Spanning}
use Rattle.papergrid_layout.specs.ForProofs.Spanning.{AreSpanning, CoverInRow, HaveAllSpanning, IsFirstCovering, IsListed, IsSpannedStep, end_row}

-- the walk over the anchors has come to track i
pub record HasSpanned (table : TableView) (anchors : List Anchor) (i : ℕ) (found : Spanning) : Type 0 where
  pub shows : (k : ℕ) (a : Anchor) → i ≤ k → slice_get anchors k ≡ Some a → Shows table.grid found.sweep a.position.row a.position.col
  pub are : AreSpanning table found.cells.items
  pub before : (k : ℕ) (a : Anchor) → i ≤ k → slice_get anchors k ≡ Some a → All (λ c. IsBefore c.position a.position) found.cells.items
  pub within : All (λ (c : SpanningCell). c.reach ≤ found.reach) found.cells.items
  pub complete : (k : ℕ) (a : Anchor) → k < i → slice_get anchors k ≡ Some a → IsInsideTable table a.position → IsListed found.cells.items a.position

-- ---- the walk

-- it may go on at any later position
pub shows-later : (grid : Grid) (walk : Walk) (r c r' c' : ℕ) → (r < r') ⊎ ((r ≡ r') × (c ≤ c')) → Shows grid walk r c → Shows grid walk r' c'
shows-later grid walk r c r' c' (inl below) shows = record {
  anchors = shows.anchors;
  ahead = λ q down right. shows.ahead q (omega arith) (λ (same : r ≡ q.row). omega arith);
}
shows-later grid walk r c r' c' (inr beside) shows =
    let row : r ≡ r' = beside.0 in
    let col : c ≤ c' = beside.1 in
    record {
      anchors = shows.anchors;
      ahead = λ q down right. shows.ahead q (omega arith) (λ (same : r ≡ q.row). let after : c' ≤ q.col = right (omega arith) in omega arith);
    }

-- past a position, at one that comes after it
shows-after : (grid : Grid) (walk : Walk) (p q : Position) → IsBefore p q → Shows grid walk p.row (p.col + 1) → Shows grid walk q.row q.col
shows-after grid walk p q (inl above) shows = shows-later grid walk p.row (p.col + 1) q.row q.col (inl above) shows
shows-after grid walk p q (inr left) shows =
    let col : p.col < q.col = left.1 in
    shows-later grid walk p.row (p.col + 1) q.row q.col (inr (left.0, omega arith)) shows

-- ---- a step

-- a visible position with a screen rectangle is added
pub spanned-found : (table : TableView) (p : Position) (anchor : Anchor) (place : Place) (old new : Spanning) →
    table.grid.shows p ≡ true → anchor ≡ anchor_in table.grid p →
    (((anchor.position.col + anchor.cols ≤ table.shape.1) × (anchor.position.row + anchor.rows ≤ table.shape.0))
    × (place ≡ place_at table anchor.position)) →
    old.reach ≤ new.reach → p.row + anchor.rows ≤ new.reach →
    new.cells.items ≡ old.cells.items ++ record { position = p; place = place; reach = new.reach } ∷ [] → IsSpannedStep table p old new
spanned-found table p anchor place old new visible e found kept reach items = grind arith

module _ (table : TableView) where
  abbrev IsPlaced : SpanningCell → Type 0
  IsPlaced a = HasPlace table a.position a.place

  abbrev Reaches : SpanningCell → Type 0
  Reaches a = end_row table a.position ≤ a.reach

  abbrev Before : Position → SpanningCell → Type 0
  Before p a = IsBefore a.position p

  abbrev Within : ℕ → SpanningCell → Type 0
  Within reach a = a.reach ≤ reach

  abbrev reach_of : SpanningCell → ℕ
  reach_of a = a.reach

  are-none : AreSpanning table []
  are-none = grind arith

  are-more : (cells : List SpanningCell) (cell : SpanningCell) → AreSpanning table cells → All (Before cell.position) cells → All (Within cell.reach) cells →
      Reaches cell → IsPlaced cell → AreSpanning table (cells ++ cell ∷ [])
  are-more cells cell are before within reaches placed = record {
    in_order = all_pairs_push (λ a b. IsBefore a.position b.position) cells cell are.in_order before;
    rising = IsNonDecreasingBy-push reach_of cells cell are.rising (λ d some. within (length cells - 1) d (omega arith));
    reaching = All-push Reaches cells cell are.reaching reaches;
    placed = All-push IsPlaced cells cell are.placed placed;
  }

  listed-more : (cells : List SpanningCell) (cell : SpanningCell) (p : Position) → IsListed cells p → IsListed (cells ++ cell ∷ []) p
  listed-more cells cell p listed = (listed.0, Contains-append_left cells (cell ∷ []) listed.0 listed.1, listed.2)

  -- ---- from anchor to anchor

  module _ (anchors : List Anchor) (sorted : IsSorted anchors) where
    pub spanned-none : (walk : Walk) (found : Spanning) → Shows table.grid walk 0 0 → found.sweep ≡ walk → found.cells.items ≡ [] → HasSpanned table anchors 0 found
    spanned-none walk found shows same none = record {
      shows = λ k a le at. rw same (shows-later table.grid walk 0 0 a.position.row a.position.col (first a.position) shows);
      are = rw none are-none;
      before = λ k a le at. rw none (All-nil (Before a.position));
      within = rw none (All-nil (Within found.reach));
      complete = λ k a l at inside. absurd (omega (arith, l));
    }
      where
        first : (p : Position) → (0 < p.row) ⊎ ((0 ≡ p.row) × (0 ≤ p.col))
        first p = elim (cases_lt 0 p.row) [
          | inl below ↦ inl below
          | inr top ↦ inr ((omega (arith, top)), (omega arith))
        ]

    pub spanned-step : (i : ℕ) (anchor : Anchor) (old new : Spanning) → slice_get anchors i ≡ Some anchor →
        ((direction : Direction) → total_along table direction < 2 ^ 64) →
        IsSpannedStep table anchor.position old new → Shows table.grid new.sweep anchor.position.row (anchor.position.col + 1) →
        HasSpanned table anchors i old → HasSpanned table anchors (i + 1) new
    spanned-step i anchor old new at fit step shows has = elim step [
      | inl out ↦ record {
        shows = later;
        are = rw out.1 has.are;
        before = λ k a le at'. rw out.1 (has.before k a (omega (arith, le)) at');
        within = rw (out.1, out.2) has.within;
        complete = λ k a l at' inside. elim (cases_lt k i) [
          | inl below ↦ rw out.1 (has.complete k a below at' inside)
          | inr from ↦ absurd (out.0 (subst (λ (b : Anchor). IsInsideTable table b.position) (own k a l from at') inside))
        ];
      }
      | inr grew ↦
          let inside : IsInsideTable table p = grew.0 in
          let grown : old.reach ≤ new.reach = grew.1 in
          let reaches : end_row table p ≤ new.reach = grew.2 in
          let same : new.cells.items ≡ old.cells.items ++ cell ∷ [] = grew.3 in
          record {
            shows = later;
            are = rw same (are-more old.cells.items cell has.are (has.before i anchor (omega arith) at) (wider grown) reaches
                (record { inside = inside; fit = fit; exact = refl }));
            before = λ k a le at'. rw same (All-push (Before a.position) old.cells.items cell (has.before k a (omega (arith, le)) at')
                (sorted i k anchor a (omega (arith, le)) at at'));
            within = rw same (All-push (Within new.reach) old.cells.items cell (wider grown) (omega arith));
            complete = λ k a l at' inside'. elim (cases_lt k i) [
              | inl below ↦ rw same (listed-more old.cells.items cell a.position (has.complete k a below at' inside'))
              | inr from ↦ rw same (cell, Contains-push old.cells.items cell, sym (ap (λ (b : Anchor). b.position) (own k a l from at')))
            ];
          }
    ]
      where
        p : Position
        p = anchor.position

        cell : SpanningCell
        cell = record { position = p; place = place_at table p; reach = new.reach }

        own : (k : ℕ) (a : Anchor) → k < i + 1 → i ≤ k → slice_get anchors k ≡ Some a → a ≡ anchor
        own k a l le at' = grind arith

        later : (k : ℕ) (a : Anchor) → i + 1 ≤ k → slice_get anchors k ≡ Some a → Shows table.grid new.sweep a.position.row a.position.col
        later k a le at' = shows-after table.grid new.sweep p a.position (sorted i k anchor a (omega (arith, le)) at at') shows

        wider : old.reach ≤ new.reach → All (Within new.reach) old.cells.items
        wider grown = All-weaker (Within old.reach) (Within new.reach) (λ a (le : a.reach ≤ old.reach). omega arith) old.cells.items has.within

    -- a position with a span of two or more has an anchor
    pub all-spanned : (found : Spanning) → AreAnchorsOf table.grid anchors → HasSpanned table anchors (length anchors) found → HaveAllSpanning table found.cells.items
    all-spanned found of has = record {
      are = has.are;
      complete = λ direction p inside long. kept p inside (anchored direction p long);
    }
      where
        anchored : (direction : Direction) (p : Position) → 2 ≤ table.grid.span direction p → HasAnchor anchors p
        anchored direction p long = of.spans.has_each direction p long

        kept : (p : Position) → IsInsideTable table p → HasAnchor anchors p → IsListed found.cells.items p
        kept p inside here =
            subst (IsListed found.cells.items) here.is_there
            (has.complete here.index here.anchor (slice_get_within anchors here.index here.anchor here.is_anchor) here.is_anchor
            (subst (IsInsideTable table) (sym here.is_there) inside))

  -- ---- at a point

  module _ (x y : ℕ) where
    -- the cell with its place stands over the point where its place covers that
    stands : (p : Position) (place : Place) → HasPlace table p place → Covers place x y → StandsOver table x y p
    stands p place has covers = grind arith

    module _ (cells : List SpanningCell) (within : Position) (all : HaveAllSpanning table cells) (hidden : false ≡ table.grid.shows within)
        (lies : (q : Position) → StandsOver table x y q → IsInRectangle table.grid.span q within) where
      -- only cells in whose rows the point lies cover it
      pub cover-in-row : CoverInRow table within.row x y cells
      cover-in-row k d l = grind arith

      -- a cell over a hidden position spans several columns or rows
      over-listed : (q : Position) → StandsOver table x y q → (a : SpanningCell) × Contains cells a × (a.position ≡ q) × Covers a.place x y
      over-listed q over = grind (arith, covers, within)
        where
          listed : IsListed cells q
          listed = grind arith

          covers : Covers listed.0.place x y
          covers = grind arith

      -- the first that covers it is the first cell that stands over it
      pub first-over : (answer : Option Position) → IsFirstCovering x y cells answer → IsFirstOver table x y answer
      first-over None none = grind arith
      first-over (Some p) first = (
        subst (StandsOver table x y) first.2
            (stands first.0.position first.0.place (All-contains IsPlaced cells first.0 all.are.placed first.1) first.3),
        λ q over before.
            let found = over-listed q over in
            first.4 found.0 found.1 (subst (λ (z : Position). IsBefore z p) (sym found.2) before) found.3,
      )

-- ---- the first of the cells that covers a point

module _ (table : TableView) (row x y : ℕ) (cells : List SpanningCell) (are : AreSpanning table cells) (cover : CoverInRow table row x y cells) where
  -- none covers it that ends above the row
  pub none-ended : (k : ℕ) (d : SpanningCell) → k < length cells → (get_or cells k d).reach ≤ row → Covers (get_or cells k d).place x y → ⊥
  none-ended k d l ended covers = grind arith

  -- and none from one on that begins below it
  pub none-from : (i k : ℕ) (e d : SpanningCell) → i ≤ k → k < length cells → row < (get_or cells i e).position.row → Covers (get_or cells k d).place x y → ⊥
  none-from i k e d le l below covers =
      let own : (get_or cells i e).position.row ≡ (get_or cells i d).position.row = ap (λ (a : SpanningCell). a.position.row) (get_or_default cells i e d (omega arith)) in
      let top : (get_or cells k d).position.row ≤ row = (cover k d l covers).0 in
      elim (cases_eq i k) [
        | inl at ↦
            let same : (get_or cells i d).position.row ≡ (get_or cells k d).position.row = ap (λ j. (get_or cells j d).position.row) at in
            omega arith
        | inr ne ↦ elim (are.in_order i k d (omega arith) l) [
          | inl above ↦ omega (arith, above)
          | inr left ↦ omega (arith, left.0)
        ]
      ]

  -- the one at i is the first, if none before it covers the point
  pub first-found : (i : ℕ) (d : SpanningCell) → i < length cells → ((k : ℕ) (d : SpanningCell) → k < i → Covers (get_or cells k d).place x y → ⊥) →
      Covers (get_or cells i d).place x y → IsFirstCovering x y cells (Some (get_or cells i d).position)
  first-found i d l none covers = grind (arith, own, covers, earlier, get_or_default)
    where
      own : get_or cells i (get_or cells i d) ≡ get_or cells i d
      own = get_or_default cells i (get_or cells i d) d l

      earlier : (b : SpanningCell) → Contains cells b → IsBefore b.position (get_or cells i d).position → Covers b.place x y → ⊥
      earlier b found before covers' = elim (cases_lt found.0 i) [
        | inl less ↦ none found.0 b less (subst (λ (c : SpanningCell). Covers c.place x y) (sym found.2) covers')
        | inr from ↦ elim (cases_eq found.0 i) [
          | inl e ↦
              let same : b ≡ get_or cells i d = sym found.2 ∙ ap (λ j. get_or cells j b) e ∙ get_or_default cells i b d l in
              irreflexive (get_or cells i d).position (subst (λ (c : SpanningCell). IsBefore c.position (get_or cells i d).position) same before)
          | inr ne ↦
              let after : IsBefore (get_or cells i d).position (get_or cells found.0 d).position = are.in_order i found.0 d (omega arith) found.1 in
              let at : get_or cells found.0 d ≡ b = get_or_default cells found.0 d b found.1 ∙ found.2 in
              asymmetric b.position (get_or cells i d).position before (subst (λ (c : SpanningCell). IsBefore (get_or cells i d).position c.position) at after)
        ]
      ]
        where
          irreflexive : (p : Position) → IsBefore p p → ⊥
          irreflexive p (inl l) = omega (arith, l)
          irreflexive p (inr l) = omega (arith, l.1)

          asymmetric : (p q : Position) → IsBefore p q → IsBefore q p → ⊥
          asymmetric p q (inl a) (inl b) = omega (arith, a, b)
          asymmetric p q (inl a) (inr b) = omega (arith, a, b.0)
          asymmetric p q (inr a) (inl b) = omega (arith, a.0, b)
          asymmetric p q (inr a) (inr b) = omega (arith, a.1, b.1)
