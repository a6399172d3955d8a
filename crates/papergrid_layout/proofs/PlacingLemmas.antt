-- What is known of the listed places, step by step.
use Rattle.std.proofs.Common.{◌≡◌, ◌∙◌, ℕ, ◌+◌, ◌<◌, ◌≤◌, ◌^◌, ◌⊎◌, Bool, true, false, inl, inr, List, [], ◌∷◌, ◌++◌, None, Some, refl, sym, ap, subst, arith, rules}
use Rattle.std.specs.Prelude.{All, Contains, Err, if◌then◌else◌}
use Rattle.std.proofs.lemmas.Bool.{cases_lt}
use Rattle.std.proofs.lemmas.List.Elements.{All-append, All-cons, All-contains, All-nil, All-weaker, Contains-append_left, Contains-push}
use Rattle.std.proofs.lemmas.List.Quantifiers.{all_pairs_push}
use Rattle.std.proofs.lemmas.Option.{none-some}
use Rattle.papergrid_values.specs.declared.direction.Direction.{Direction}
use Rattle.papergrid_values.specs.declared.direction.Direction.TheVariants.{Columns, Rows}
use Rattle.papergrid_values.specs.declared.position.Position.{Position}
use Rattle.papergrid_values.specs.Positions.{IsBefore, position_of}
use Rattle.papergrid_config.specs.declared.spanned.SpannedConfig.{SpannedConfig}
use Rattle.papergrid_maps.specs.declared.anchors.Anchor.{Anchor}
use Rattle.papergrid_walk.specs.ForProofs.Shown.{anchor_in}
use Rattle.papergrid_walk.specs.ForProofs.Visits.{shows_turn}
use Rattle.papergrid_maps.specs.Grids.{Grid}
use Rattle.papergrid_config.specs.Grids.{spanned_grid}
use Rattle.papergrid_maps.proofs.HiddenLemmas.{position-same}
use Rattle.papergrid_layout.specs.Places.{EndsWithin, HasPlace, HaveAllPlaces, IsFirstRefused, IsPlaced, IsVisibleCell, TableView, extent, offset, place_at, total_along}
use Rattle.papergrid_layout.specs.declared.rect.Place.{Place}
use Rattle.papergrid_layout.specs.declared.rect.PlaceError.{PlaceError}
use Rattle.papergrid_layout.specs.declared.rect.PlaceError.TheVariants.{OutOfTable}
use Rattle.papergrid_layout.specs.declared.cell_rects.Placing.{Placing}
use Rattle.papergrid_layout.specs.ForProofs.Placing.{ArePlacedBefore, HasPlaced}
use Rattle.papergrid_layout.proofs.PlaceSums.{extent-before}

-- ---- within the totals

pub ends-within : (table : TableView) (p : Position) (place : Place) → HasPlace table p place → EndsWithin table place
ends-within table p place has = grind (arith, extent-before)

pub all-end-within : (table : TableView) (list : List (Position × Place)) → HaveAllPlaces table list → All (λ x. EndsWithin table x.1) list
all-end-within table list have = search (rules, All-weaker, ends-within)

-- ---- what is found of a position

pub found-shown : {A : Type 0} (shows : Bool) (x found : A) → Some found ≡ (if shows then Some x else None) → (shows ≡ true) × (found ≡ x)
found-shown true x found e = (refl, cc)
found-shown false x found e = absurd (none-some found (sym e))

-- where nothing is found, it is hidden
pub unfound : {A : Type 0} (shows : Bool) (x : A) → None ≡ (if shows then Some x else None) → shows ≡ true → ⊥
unfound true x e same = none-some x e
unfound false x e same = cc

-- the place by what is found along both directions
pub place-found : (table : TableView) (anchor : Anchor) (left top width height : ℕ) → anchor ≡ anchor_in table.grid anchor.position →
    ◌≡◌ {A = ℕ × ℕ} (left, width)
    (offset table.widths (table.grid.draws Columns table.shape.1) anchor.position.col, extent table.widths (table.grid.draws Columns table.shape.1) anchor.position.col anchor.cols) →
    ◌≡◌ {A = ℕ × ℕ} (top, height)
    (offset table.heights (table.grid.draws Rows table.shape.0) anchor.position.row, extent table.heights (table.grid.draws Rows table.shape.0) anchor.position.row anchor.rows) →
    ◌≡◌ {A = Place} (record { left = left; top = top; width = width; height = height }) (place_at table anchor.position)
place-found table anchor left top width height e wide high = grind arith

-- its spans at its own position
pub anchor-own : (grid : Grid) (p : Position) (anchor : Anchor) → anchor ≡ anchor_in grid p → anchor ≡ anchor_in grid anchor.position
anchor-own grid p anchor e = e ∙ ap (anchor_in grid) (sym (ap (λ (a : Anchor). a.position) e))

-- the position has the place that was found for it
pub has-found : (table : TableView) (p : Position) (anchor : Anchor) (place : Place) →
    ((direction : Direction) → total_along table direction < 2 ^ 64) →
    table.grid.shows p ≡ true → anchor ≡ anchor_in table.grid p →
    (((anchor.position.col + anchor.cols ≤ table.shape.1) × (anchor.position.row + anchor.rows ≤ table.shape.0))
    × (place ≡ place_at table anchor.position)) →
    HasPlace table p place
has-found table p anchor place fit visible e found = grind arith

-- where no place was found for it, it overflows the table
pub is-out : (table : TableView) (p : Position) (anchor : Anchor) → table.grid.shows p ≡ true → anchor ≡ anchor_in table.grid p →
    ((anchor.position.col + anchor.cols ≤ table.shape.1) × (anchor.position.row + anchor.rows ≤ table.shape.0) → ⊥) →
    IsPlaced table p (Err OutOfTable)
is-out table p anchor visible e none = grind arith

-- ---- order

pub before-step : (p : Position) (r c : ℕ) → IsBefore p (position_of (r, c)) → IsBefore p (position_of (r, c + 1))
before-step p r c (inl above) = inl above
before-step p r c (inr left) = inr (left.0, let l : p.col < c = left.1 in omega arith)

pub before-next : (p : Position) (r c : ℕ) → IsBefore p (position_of (r, c + 1)) → IsBefore p (position_of (r, c)) ⊎ (p ≡ position_of (r, c))
before-next p r c (inl above) = inl (inl above)
before-next p r c (inr left) = grind (arith, cases_lt p.col c, position-same)

pub before-row : (p : Position) (r c : ℕ) → IsBefore p (position_of (r, c)) → IsBefore p (position_of (r + 1, 0))
before-row p r c (inl above) = let l : p.row < r = above in inl (omega arith)
before-row p r c (inr left) = let e : p.row ≡ r = left.0 in inl (omega arith)

pub before-turn : (p : Position) (r c : ℕ) → p.col < c → IsBefore p (position_of (r + 1, 0)) → IsBefore p (position_of (r, c))
before-turn p r c in_row (inl above) = grind (arith, cases_lt p.row r)
before-turn p r c in_row (inr left) = let l : p.col < 0 = left.1 in absurd (omega arith)

-- the first position is hidden by none
pub first-shown : (config : SpannedConfig) → (spanned_grid config).shows (position_of (0, 0)) ≡ true
first-shown config = grind (arith, position-same)

pub none-before : (p : Position) → IsBefore p (position_of (0, 0)) → ⊥
none-before p before = elim before [ inl l ↦ omega (arith, l) | inr l ↦ let l' = l.1 in omega (arith, l') ]

-- ---- the list

module _ (table : TableView) where
  abbrev Has : Position × Place → Type 0
  Has x = HasPlace table x.0 x.1

  abbrev Before : ℕ → ℕ → Position × Place → Type 0
  Before r c x = IsBefore x.0 (position_of (r, c))

  abbrev IsCell : Position → Type 0
  IsCell = IsVisibleCell table

  pub placed-none : ArePlacedBefore table 0 0 []
  placed-none = grind (arith, All-nil, none-before)

  -- past a visible position that has a place
  pub placed-more : (r c : ℕ) (list : List (Position × Place)) (place : Place) → Has (position_of (r, c), place) → ArePlacedBefore table r c list →
      ArePlacedBefore table r (c + 1) (list ++ (position_of (r, c), place) ∷ [])
  placed-more r c list place has are = record {
    in_order = all_pairs_push (λ x y. IsBefore x.0 y.0) list (position_of (r, c), place) are.in_order are.before;
    placed = All-append Has list ((position_of (r, c), place) ∷ []) are.placed (All-cons Has (position_of (r, c), place) [] has (All-nil Has));
    before = All-append (Before r (c + 1)) list ((position_of (r, c), place) ∷ [])
        (All-weaker (Before r c) (Before r (c + 1)) (λ x h. before-step x.0 r c h) list are.before)
        (All-cons (Before r (c + 1)) (position_of (r, c), place) [] (inr (refl, omega arith)) (All-nil (Before r (c + 1))));
    complete = λ p cell before. elim (before-next p r c before) [
      | inl earlier ↦ let found = are.complete p cell earlier in (found.0, Contains-append_left list ((position_of (r, c), place) ∷ []) (p, found.0) found.1)
      | inr same ↦ (place, subst (λ q. Contains (list ++ (position_of (r, c), place) ∷ []) (q, place)) (sym same) (Contains-push list (position_of (r, c), place)))
    ];
  }

  -- past a hidden one
  pub placed-hidden : (r c : ℕ) (list : List (Position × Place)) → (table.grid.shows (position_of (r, c)) ≡ true → ⊥) → ArePlacedBefore table r c list →
      ArePlacedBefore table r (c + 1) list
  placed-hidden r c list hidden are = grind (arith, All-weaker, before-step, before-next)

  -- after a row comes the next one
  pub placed-turn : (r : ℕ) (list : List (Position × Place)) → ArePlacedBefore table r table.shape.1 list → ArePlacedBefore table (r + 1) 0 list
  placed-turn r list are = grind (arith, All-weaker, before-row, before-turn)

  pub all-placed : (list : List (Position × Place)) → ArePlacedBefore table table.shape.0 0 list →
      HaveAllPlaces table list
  all-placed list are = grind arith

  -- without columns or rows there is none
  pub none-placed : (table.shape.0 ≡ 0) ⊎ (table.shape.1 ≡ 0) → HaveAllPlaces table []
  none-placed empty = grind (arith, All-nil)

  pub first-refused : (r c : ℕ) (list : List (Position × Place)) (error : PlaceError) → IsCell (position_of (r, c)) →
      IsPlaced table (position_of (r, c)) (Err error) → ArePlacedBefore table r c list →
      IsFirstRefused table (position_of (r, c)) error
  first-refused r c list error cell refused are = grind (arith, All-contains)

  -- the walk at the end of a row
  pub has-turned : (r c : ℕ) (placing : Placing) → c ≡ table.shape.1 → HasPlaced table r c placing → HasPlaced table (r + 1) 0 placing
  has-turned r c placing end has = record {
    fit = has.fit;
    marked = has.marked;
    shows = shows_turn table.grid placing.sweep r c has.shows;
    list = placed-turn r placing.places.items (subst (λ k. ArePlacedBefore table r k placing.places.items) end has.list);
  }
