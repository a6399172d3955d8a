-- What is known of the columns of a row while a table is drawn.
use Rattle.std.proofs.Common.{◌≡◌, ◌∙◌, ap, sym, subst, refl, inl, inr, ℕ, ◌+◌, ◌-◌, ◌<◌, ◌≤◌, Bool, true, false, ◌&&◌, cond, List, [], ◌∷◌, ◌++◌, Option, Some, None, get_or, length, arith}
use Rattle.std.proofs.Math.Bool.{and-false}
use Rattle.std.specs.Prelude.{◌==◌, if◌then◌else◌, is_some, nat_lt}
use Rattle.std.specs.List.{find}
use Rattle.std.specs.Option.{option_eq}
use Rattle.std.proofs.lemmas.Bool.{and_parts, cases_lt, le-leb, le-ltb, leb-true, lt-ltb, ltb-false, ltb-true}
use Rattle.std.proofs.Math.Seq.{get_or-append_seam}
use Rattle.std.proofs.lemmas.List.{get_or_append_left, length-append}
use Rattle.std.proofs.lemmas.Option.{none-some, same_Some}
use Rattle.papergrid_values.specs.Positions.{position_of}
use Rattle.papergrid_values.specs.declared.direction.Direction.TheVariants.{Columns, Rows}
use Rattle.papergrid_values.specs.MapKeys.{position_eq}
use Rattle.papergrid_values.specs.declared.position.Position.{Position}
use Rattle.papergrid_layout.specs.Places.{TableView, begin_along, line_offset, place_at, track_line, track_size}
use Rattle.papergrid_layout.specs.Tables.{TableParts, line_position, view_of}
use Rattle.papergrid_layout.specs.declared.rect.Place.{Place}
use Rattle.papergrid_layout.proofs.PlaceSums.{line-before, offset-next, offset-rises}
use Rattle.papergrid_draw.specs.Contents as contents
use Rattle.papergrid_draw.specs.Contents.{block_at, content, look_of}
use Rattle.papergrid_draw.specs.Drawings.{Drawing, layout_of}
use Rattle.papergrid_draw.specs.Drawn.{after_these, column_pieces, draws_horizontal, draws_vertical, owner_at, stands_over, stands_over_crossing, vertical_pieces}
use Rattle.papergrid_draw.specs.Tiles.{IsTiled, owner, owns}
use Rattle.papergrid_draw.proofs.TileLemmas.{test-over, test-over-crossing}
use Rattle.papergrid_draw.specs.ForProofs.Pages.{Texts, drawing_of, row_start, slot_at, text_start}

-- ---- owners

-- what is found passes
found-passes : {X : Type 0} (test : X → Bool) (xs : List X) (x : X) → find test xs ≡ Some x → test x ≡ true
found-passes test [] x found = absurd (none-some x found)
found-passes test (y ∷ ys) x found =
    elim (test y) as (λ b. test y ≡ b → cond b (Some y) (find test ys) ≡ Some x → test x ≡ true) [
      | true ↦ λ e same. subst (λ z. test z ≡ true) (same_Some y x same) e
      | false ↦ λ e rest. found-passes test ys x rest
    ] refl found

-- an owner is visible
pub owner-shown : (table : TableView) (q o : Position) → owner table q ≡ Some o → table.grid.shows o ≡ true
unfolding owner
owner-shown table q o found = (and_parts _ _ (found-passes (λ p. owns table p q) _ o found)).0

-- an owner stands in no later row and in no later column
pub owner-behind : (table : TableView) (q o : Position) → owner table q ≡ Some o → (o.row ≤ q.row) × (o.col ≤ q.col)
unfolding owner
owner-behind table q o found =
    let passes = found-passes (λ p. owns table p q) _ o found in
    let shown = and_parts _ _ passes in
    let below = and_parts _ _ shown.1 in
    let above = and_parts _ _ below.1 in
    let right = and_parts _ _ above.1 in
    (leb-true _ _ below.0, leb-true _ _ right.0)

module _ (d : Drawing) where
  -- ---- lines of the table

  -- a row's first text line comes after the horizontal line before it
  pub text_start-after : (r : ℕ) → text_start d r ≡ row_start d r + cond (draws_horizontal d r) 1 0
  text_start-after r = line-before (track_size (layout_of d) Rows) (track_line (layout_of d) Rows) r

  -- the next row begins after its lines
  pub row_start-next : (r : ℕ) → row_start d (r + 1) ≡ text_start d r + d.heights r
  row_start-next r =
      let next = offset-next (track_size (layout_of d) Rows) (track_line (layout_of d) Rows) r in
      let after = text_start-after (r + 1) in
      omega (arith, next, after)

  -- no cell begins below a row that it covers
  pub begins-before : (r c : ℕ) (o : Position) → owner_at d r c ≡ Some o → begin_along (layout_of d) Rows o ≤ text_start d r
  begins-before r c o is =
      offset-rises (track_size (layout_of d) Rows) (track_line (layout_of d) Rows) o.row r (owner-behind (layout_of d) (position_of (r, c)) o is).0

  -- ---- columns of a text line

  -- one more line of each cell is drawn
  pub slot-next : {T : Type 0} (o : Position) (c y : ℕ) → begin_along (layout_of d) Rows o ≤ y →
      slot_at d {T = T} o c (y + 1) ≡ record { owner = o; block = (slot_at d {T = T} o c y).block; drawn = (slot_at d {T = T} o c y).drawn + 1 }
  slot-next {T} o c y le =
      let more : y + 1 - begin_along (layout_of d) Rows o ≡ y - begin_along (layout_of d) Rows o + 1 = omega (arith, le) in
      ap (λ n. record { owner = o; block = (slot_at d {T = T} o c y).block; drawn = n }) more

  -- where nothing is kept to draw nothing is drawn
  pub column-none : (T : Type 0) (r k c : ℕ) (o : Position) → owner_at d r c ≡ Some o → (slot_at d {T = T} o c (text_start d r + k)).block ≡ None → column_pieces d r k c ≡ []
  column-none T r k c o is none = rw is (none_of (o.col == c) none)
    where
      none_of : (here : Bool) → (if here then Some (block_at d o) else None) ≡ None →
          after_these d (vertical_pieces d r c k)
          (if here then Some (content (block_at d o) (text_start d r + k - begin_along (layout_of d) Rows o)) else None) ≡ []
      none_of true none = absurd (none-some _ (sym none))
      none_of false none = refl

  -- where a cell is kept, its line is drawn after the line before it
  pub column-some : (T : Type 0) (r k c : ℕ) (o : Position) (b : contents.Block) → owner_at d r c ≡ Some o → (slot_at d {T = T} o c (text_start d r + k)).block ≡ Some b →
      column_pieces d r k c ≡ vertical_pieces d r c k ++ content b (slot_at d {T = T} o c (text_start d r + k)).drawn
  column-some T r k c o b is some = rw is (some_of (o.col == c) some)
    where
      some_of : (here : Bool) → (if here then Some (block_at d o) else None) ≡ Some b →
          after_these d (vertical_pieces d r c k)
          (if here then Some (content (block_at d o) (text_start d r + k - begin_along (layout_of d) Rows o)) else None)
          ≡ vertical_pieces d r c k ++ content b (text_start d r + k - begin_along (layout_of d) Rows o)
      some_of true some =
          ap (λ x. vertical_pieces d r c k ++ content x (text_start d r + k - begin_along (layout_of d) Rows o)) (same_Some (block_at d o) b some)
      some_of false some = absurd (none-some b some)

  -- ---- columns of a horizontal line

  module _ (tiled : IsTiled (layout_of d)) where
    -- whether the owner stands over the line
    pub over-test : (i c : ℕ) (o : Position) → c < d.shape.1 → (i < d.shape.0 → owner_at d i c ≡ Some o) →
        stands_over d i c ≡ (nat_lt 0 i && (nat_lt i d.shape.0 && nat_lt o.row i))
    over-test i c o col_in is = both (nat_lt 0 i) (nat_lt i d.shape.0) refl refl
      where
        both : (a b : Bool) → nat_lt 0 i ≡ a → nat_lt i d.shape.0 ≡ b →
            (a && (b && option_eq position_eq (owner_at d (i - 1) c) (owner_at d i c))) ≡ (a && (b && nat_lt o.row i))
        both false b first second = refl
        both true false first second = refl
        both true true first second =
            test-over (layout_of d) tiled i c o (ltb-true 0 i first) (ltb-true i d.shape.0 second, col_in)
            (is (ltb-true i d.shape.0 second))

    -- whether it stands over the crossing
    pub crossing-test : (i j : ℕ) (o : Position) → j < d.shape.1 → (i < d.shape.0 → owner_at d i j ≡ Some o) →
        stands_over_crossing d i j ≡ ((nat_lt 0 i && (nat_lt i d.shape.0 && nat_lt o.row i)) && nat_lt o.col j)
    crossing-test i j o col_in is = all (nat_lt 0 i) (nat_lt i d.shape.0) (nat_lt 0 j) refl refl refl
      where
        behind : nat_lt 0 j ≡ false → nat_lt o.col j ≡ false
        behind none = le-ltb o.col j (omega (arith, ltb-false 0 j none))

        all : (a b e : Bool) → nat_lt 0 i ≡ a → nat_lt i d.shape.0 ≡ b → nat_lt 0 j ≡ e →
            (a && (b && (e && (nat_lt j d.shape.1 && option_eq position_eq (owner_at d (i - 1) (j - 1)) (owner_at d i j)))))
            ≡ ((a && (b && nat_lt o.row i)) && nat_lt o.col j)
        all false b e first second third = refl
        all true false e first second third = refl
        all true true false first second third = rw (behind third) (sym (and-false (nat_lt o.row i)))
        all true true true first second third =
            rw (lt-ltb j d.shape.1 col_in)
            (test-over-crossing (layout_of d) tiled i j o (ltb-true 0 i first) (ltb-true 0 j third) (ltb-true i d.shape.0 second, col_in)
            (is (ltb-true i d.shape.0 second)))

-- the block that is made of what is read is that of the cell
pub block-made : (d : Drawing) (p : Position) (made : contents.Block) (place : Place) → place ≡ place_at (layout_of d) p → made.look ≡ look_of d.config p →
    made.lines ≡ d.lines p → made.color ≡ d.color p → made.width ≡ place.width → made.height ≡ place.height → made ≡ block_at d p
block-made d p made place is look lines color width height = λ i. record {
  look = look i;
  lines = lines i;
  color = color i;
  width = (width ∙ ap (λ (q : Place). q.width) is) i;
  height = (height ∙ ap (λ (q : Place). q.height) is) i;
}

-- ---- where lines are

-- a line has a place where it is drawn
line-known : (table : TableView) (j : ℕ) → j ≤ table.shape.1 → is_some (line_position table Columns j) ≡ track_line table Columns j
line-known table j within = rw (le-leb j table.shape.1 within) (known (track_line table Columns j))
  where
    known : (b : Bool) → is_some (if b then Some (line_offset (track_size table Columns) (track_line table Columns) j) else None) ≡ b
    known true = refl
    known false = refl

-- one more is known
lines-more : (items : List Bool) (j : ℕ) (b : Bool) (f : ℕ → Bool) → length items ≡ j → ((i : ℕ) (other : Bool) → i < j → get_or items i other ≡ f i) →
    b ≡ f j → (length (items ++ b ∷ []) ≡ j + 1) × ((i : ℕ) (other : Bool) → i < j + 1 → get_or (items ++ b ∷ []) i other ≡ f i)
lines-more items j b f many known last = (
  length-append items (b ∷ []) ∙ ap (λ n. n + 1) many,
  λ i other below. elim (cases_lt i j) [
    | inl before ↦ get_or_append_left items (b ∷ []) other i (omega (arith, before, many)) ∙ known i other before
    | inr past ↦
        let here : i ≡ length items = omega (arith, past, below, many) in
        ap (λ n. get_or (items ++ b ∷ []) n other) here ∙ get_or-append_seam items b [] other ∙ last ∙ ap f (sym (here ∙ many))
  ],
)

-- and of a table one more line
pub verticals-more : (table : TableParts) (items next : List Bool) (j : ℕ) {found : Option ℕ} {b : Bool} → next ≡ items ++ b ∷ [] → b ≡ is_some found →
    found ≡ line_position (view_of table) Columns j → j ≤ length table.widths → length items ≡ j →
    ((texts : Texts) (i : ℕ) (other : Bool) → i < j → get_or items i other ≡ draws_vertical (drawing_of table texts) i) →
    (length next ≡ j + 1) × ((texts : Texts) (i : ℕ) (other : Bool) → i < j + 1 → get_or next i other ≡ draws_vertical (drawing_of table texts) i)
verticals-more table items next j {found} {b} pushed is placed within many known =
    let drawn : b ≡ track_line (view_of table) Columns j = is ∙ ap is_some placed ∙ line-known (view_of table) j within in
    let more : (texts : Texts) → (length next ≡ j + 1) × ((i : ℕ) (other : Bool) → i < j + 1 → get_or next i other ≡ draws_vertical (drawing_of table texts) i) =
    λ texts. rw pushed (lines-more items j b (draws_vertical (drawing_of table texts)) many (known texts) drawn) in
    ((more (record { lines = λ _. []; color = λ _. None })).0, λ texts. (more texts).1)
