-- The owners of the positions of a table that its visible cells tile.
use Rattle.std.proofs.Common.{◌≡◌, ◌∙◌, ap, sym, subst, refl, inl, inr, ℕ, zero, suc, ◌+◌, ◌-◌, ◌<◌, ◌≤◌, ◌⊎◌, Bool, true, false, ◌&&◌, cond, nat_lt, List, [], ◌∷◌, map, Option, Some, None, arith}
use Rattle.std.specs.Prelude.{◌↔◌, slice_get}
use Rattle.std.specs.List.{find, flat_map, range_with_len}
use Rattle.std.specs.Option.{option_eq, option_or}
use Rattle.std.proofs.lemmas.Bool.{and_from, and_parts, cases_eq, cases_lt, ltb_from_iff, le-leb, leb-true, lt-ltb, ltb-true}
use Rattle.std.proofs.lemmas.List.Folds.{find-append}
use Rattle.std.proofs.lemmas.Option.{none-some, same_Some}
use Rattle.papergrid_values.specs.Entities.{positions_in}
use Rattle.papergrid_values.specs.Positions.{position_of}
use Rattle.papergrid_values.specs.declared.direction.Direction.{Direction}
use Rattle.papergrid_values.specs.declared.direction.Direction.TheVariants.{Columns, Rows}
use Rattle.papergrid_values.specs.declared.entity.Entity.TheVariants.{Global}
use Rattle.papergrid_values.specs.declared.position.Position.{Position}
use Rattle.papergrid_values.specs.MapKeys.{position_eq}
use Rattle.papergrid_values.proofs.KeyLemmas.{exact_position_eq, position_equiv}
use Rattle.papergrid_maps.specs.Hidden.{AreAnchorsOf}
use Rattle.papergrid_maps.specs.declared.anchors.Anchor.{Anchor}
use Rattle.papergrid_maps.proofs.HiddenLemmas.{position-same}
use Rattle.papergrid_layout.specs.Places.{IsVisibleCell, Overflows, TableView}
use Rattle.papergrid_draw.specs.Tiles.{IsTablePosition, IsTiled, Owns, owner, owns}

-- the cell at p is the owner of q, and no other visible cell covers that; p is a cell of the table, and ends in it
pub record HasOwner (table : TableView) (q p : Position) : Type 0 where
  pub is : owner table q ≡ Some p
  pub owns : Owns table p q
  pub alone : (other : Position) → Owns table other q → other ≡ p
  pub in_table : IsTablePosition table p
  pub across : p.col + table.grid.span Columns p ≤ table.shape.1
  pub down : p.row + table.grid.span Rows p ≤ table.shape.0

-- ---- the first position that passes a test

not-first : {X : Type 0} (passes : Bool) (x : X) (rest : Option X) → cond passes (Some x) rest ≡ None → (passes ≡ false) × (rest ≡ None)
not-first true x rest none = absurd (none-some x (sym none))
not-first false x rest none = (refl, none)

neither : {X : Type 0} (a b : Option X) → option_or a b ≡ None → (a ≡ None) × (b ≡ None)
neither None b none = (refl, none)
neither (Some x) b none = absurd (none-some x (sym none))

-- where just one passes, that is found, or none
found-only : {X : Type 0} (test : X → Bool) (x : X) → ((y : X) → test y ≡ true → y ≡ x) → (xs : List X) →
    (find test xs ≡ None) ⊎ (find test xs ≡ Some x)
found-only test x only [] = inl refl
found-only test x only (y ∷ ys) =
    elim (test y) as (λ b. test y ≡ b → (cond b (Some y) (find test ys) ≡ None) ⊎ (cond b (Some y) (find test ys) ≡ Some x)) [
      | true ↦ λ e. inr (ap (λ z. Some z) (only y e))
      | false ↦ λ e. found-only test x only ys
    ] refl

abbrev row_of : ℕ → ℕ → ℕ → List Position
row_of row first cols = map (λ col. position_of (row, col)) (range_with_len first cols)

abbrev rows_of : ℕ → ℕ → ℕ → List Position
rows_of cols first rows = flat_map (λ row. row_of row 0 cols) (range_with_len first rows)

module _ (test : Position → Bool) where
  none-in-row : (row first cols col : ℕ) → find test (row_of row first cols) ≡ None → first ≤ col → col < first + cols →
      test (position_of (row, col)) ≡ true → ⊥
  none-in-row row first zero col none from below passes = omega (arith, from, below)
  none-in-row row first (suc cols) col none from below passes =
      let parts = not-first (test (position_of (row, first))) (position_of (row, first)) (find test (row_of row (first + 1) cols)) none in
      elim (cases_eq col first) [
        | inl here ↦ (let failed : true ≡ false = sym passes ∙ ap (λ c. test (position_of (row, c))) here ∙ parts.0 in cc)
        | inr later ↦ none-in-row row (first + 1) cols col parts.1 (omega (arith, from, later)) (omega (arith, below)) passes
      ]

  none-in-rows : (cols first rows row : ℕ) → find test (rows_of cols first rows) ≡ None → first ≤ row → row < first + rows →
      find test (row_of row 0 cols) ≡ None
  none-in-rows cols first zero row none from below = absurd (omega (arith, from, below))
  none-in-rows cols first (suc rows) row none from below =
      let parts = neither (find test (row_of first 0 cols)) (find test (rows_of cols (first + 1) rows))
      (sym (find-append test (row_of first 0 cols) (rows_of cols (first + 1) rows)) ∙ none) in
      elim (cases_eq row first) [
        | inl here ↦ ap (λ r. find test (row_of r 0 cols)) here ∙ parts.0
        | inr later ↦ none-in-rows cols (first + 1) rows row parts.1 (omega (arith, from, later)) (omega (arith, below))
      ]

-- ---- the owner

same-tests : (a b : Bool) → (a ≡ true) ↔ (b ≡ true) → a ≡ b
same-tests true b same = sym (same.0 refl)
same-tests false true same = same.1 refl
same-tests false false same = refl

-- the test whether two owners are the same
same-owner : (a b : Option Position) (o : Position) → b ≡ Some o → (option_eq position_eq a b ≡ true) ↔ (a ≡ b)
same-owner a b o is =
    subst (λ x. (option_eq position_eq a x ≡ true) ↔ (a ≡ x)) (sym is) (same_as a)
  where
    same_as : (a : Option Position) → (option_eq position_eq a (Some o) ≡ true) ↔ (a ≡ Some o)
    same_as None = ((λ h. cc), λ h. absurd (none-some o h))
    same_as (Some p) = (
      (λ h. ap (λ x. Some x) (exact_position_eq p o h)),
      λ h. subst (λ x. position_eq p x ≡ true) (same_Some p o h) (position_equiv.refl p),
    )

module _ (table : TableView) where
  test-owns : (p q : Position) → owns table p q ≡ true → Owns table p q
  test-owns p q passes =
      let shown = and_parts _ _ passes in
      let below = and_parts _ _ shown.1 in
      let above = and_parts _ _ below.1 in
      let right = and_parts _ _ above.1 in
      record {
        visible = shown.0;
        covers = record {
          below_top = leb-true _ _ below.0;
          above_bottom = ltb-true _ _ above.0;
          after_left = leb-true _ _ right.0;
          before_right = ltb-true _ _ right.1;
        };
      }

  owns-test : (p q : Position) → Owns table p q → owns table p q ≡ true
  owns-test p q is =
      and_from _ _ is.visible (and_from _ _ (le-leb _ _ is.covers.below_top) (and_from _ _ (lt-ltb _ _ is.covers.above_bottom)
      (and_from _ _ (le-leb _ _ is.covers.after_left) (lt-ltb _ _ is.covers.before_right))))

  -- the only visible cell that covers a position is its owner
  pub owner-only : (q p : Position) → Owns table p q → ((other : Position) → Owns table other q → other ≡ p) → owner table q ≡ Some p
  unfolding owner
  owner-only q p is only =
      let top : p.row ≤ q.row = is.covers.below_top in
      let left : p.col ≤ q.col = is.covers.after_left in
      let test : Position → Bool = λ r. owns table r q in
      elim (found-only test p (λ r passes. only r (test-owns r q passes)) (positions_in Global (q.row + 1) (q.col + 1))) [
        | inl none ↦ absurd (none-in-row test p.row 0 (q.col + 1) p.col
            (none-in-rows test (q.col + 1) 0 (q.row + 1) p.row none (omega arith) (omega arith)) (omega arith) (omega arith) (owns-test p q is))
        | inr found ↦ found
      ]

-- ---- a table that is tiled

module _ (table : TableView) (tiled : IsTiled table) where
  abbrev at : ℕ → ℕ → Position
  at r c = position_of (r, c)

  ends-within : (p : Position) (direction : Direction) → table.grid.shows p ≡ true → IsTablePosition table p → Overflows table p direction → ⊥
  ends-within p direction shown inside out =
      tiled.within p (record { visible = shown; row_in = inside.0; col_in = inside.1 }, direction, out)

  -- what covers a position of the table is its owner
  pub owns-owner : (p q : Position) → IsTablePosition table q → Owns table p q → owner table q ≡ Some p
  owns-owner p q inside is =
      let once = tiled.once q inside in
      let same : p ≡ once.0 = once.2 p is in
      owner-only table q p is (λ other also. once.2 other also ∙ sym same)

  -- each has one
  pub has-owner : (q : Position) → IsTablePosition table q → (p : Position) × HasOwner table q p
  has-owner q inside =
      let once = tiled.once q inside in
      let p = once.0 in
      let top : p.row ≤ q.row = once.1.covers.below_top in
      let left : p.col ≤ q.col = once.1.covers.after_left in
      let row_in : q.row < table.shape.0 = inside.0 in
      let col_in : q.col < table.shape.1 = inside.1 in
      let own : IsTablePosition table p = (omega arith, omega arith) in (
        p,
        record {
          is = owner-only table q p once.1 once.2;
          owns = once.1;
          alone = once.2;
          in_table = own;
          across = elim (cases_lt table.shape.1 (p.col + table.grid.span Columns p)) [
            | inl out ↦ absurd (ends-within p Columns once.1.visible own out)
            | inr within ↦ within
          ];
          down = elim (cases_lt table.shape.0 (p.row + table.grid.span Rows p)) [
            | inl out ↦ absurd (ends-within p Rows once.1.visible own out)
            | inr within ↦ within
          ];
        },
      )

  -- what is known of a position that is told to be the owner
  pub owner-known : (q p : Position) → IsTablePosition table q → owner table q ≡ Some p → HasOwner table q p
  owner-known q p inside is =
      let found = has-owner q inside in
      subst (HasOwner table q) (same_Some found.0 p (sym found.1.is ∙ is)) found.1

  -- ---- the owner of a position by those above and left of it

  -- that of the position above, if its cell reaches the row
  pub owner-above : (r c : ℕ) (above : Position) → 0 < r → IsTablePosition table (at r c) → owner table (at (r - 1) c) ≡ Some above →
      r - above.row < table.grid.span Rows above → owner table (at r c) ≡ Some above
  owner-above r c above begun inside is reaches =
      let row_in : r < table.shape.0 = inside.0 in
      let has = owner-known (at (r - 1) c) above (omega arith, inside.1) is in
      let top : above.row ≤ r - 1 = has.owns.covers.below_top in
      owns-owner above (at r c) inside (record {
        visible = has.owns.visible;
        covers = record {
          below_top = omega arith;
          above_bottom = omega arith;
          after_left = has.owns.covers.after_left;
          before_right = has.owns.covers.before_right;
        };
      })

  -- that of the position on the left, if its cell reaches the column
  pub owner-left : (r c : ℕ) (left : Position) → 0 < c → IsTablePosition table (at r c) → owner table (at r (c - 1)) ≡ Some left →
      c - left.col < table.grid.span Columns left → owner table (at r c) ≡ Some left
  owner-left r c left begun inside is reaches =
      let col_in : c < table.shape.1 = inside.1 in
      let has = owner-known (at r (c - 1)) left (inside.0, omega arith) is in
      let before : left.col ≤ c - 1 = has.owns.covers.after_left in
      owns-owner left (at r c) inside (record {
        visible = has.owns.visible;
        covers = record {
          below_top = has.owns.covers.below_top;
          above_bottom = has.owns.covers.above_bottom;
          after_left = omega arith;
          before_right = omega arith;
        };
      })

  -- else its own cell, where that of the position above does not reach the row, and the one on the left, if it begins in
  -- the row, not the column
  pub owner-itself : (r c : ℕ) → IsTablePosition table (at r c) →
      ((above : Position) → 0 < r → owner table (at (r - 1) c) ≡ Some above → r - above.row < table.grid.span Rows above → ⊥) →
      ((left : Position) → 0 < c → owner table (at r (c - 1)) ≡ Some left → left.row ≡ r → c - left.col < table.grid.span Columns left → ⊥) →
      HasOwner table (at r c) (at r c)
  owner-itself r c inside none_above none_left =
      let row_in : r < table.shape.0 = inside.0 in
      let col_in : c < table.shape.1 = inside.1 in
      let found = has-owner (at r c) inside in
      let p = found.0 in
      let covers = found.1.owns.covers in
      let top : p.row ≤ r = covers.below_top in
      let bottom : r < p.row + table.grid.span Rows p = covers.above_bottom in
      let side : p.col ≤ c = covers.after_left in
      let end : c < p.col + table.grid.span Columns p = covers.before_right in
      let level : p.row ≡ r = elim (cases_lt p.row r) [
        | inl above ↦ absurd (none_above p (omega arith) (owns-owner p (at (r - 1) c) (omega arith, col_in) (record {
          visible = found.1.owns.visible;
          covers = record { below_top = omega arith; above_bottom = omega arith; after_left = side; before_right = end };
        })) (omega arith))
        | inr from ↦ omega arith
      ] in
      let upright : p.col ≡ c = elim (cases_lt p.col c) [
        | inl before ↦ absurd (none_left p (omega arith) (owns-owner p (at r (c - 1)) (row_in, omega arith) (record {
          visible = found.1.owns.visible;
          covers = record { below_top = top; above_bottom = bottom; after_left = omega arith; before_right = omega arith };
        })) level (omega arith))
        | inr from ↦ omega arith
      ] in
      subst (HasOwner table (at r c)) (position-same p (at r c) level upright) found.1

  -- ---- one owner on both sides of a line

  -- above and below line i
  pub owner-over : (i c : ℕ) (o : Position) → 0 < i → IsTablePosition table (at i c) → owner table (at i c) ≡ Some o →
      (owner table (at (i - 1) c) ≡ owner table (at i c)) ↔ (o.row < i)
  owner-over i c o begun inside is =
      let row_in : i < table.shape.0 = inside.0 in
      let has = owner-known (at i c) o inside is in
      let covers = has.owns.covers in
      let bottom : i < o.row + table.grid.span Rows o = covers.above_bottom in (
        (λ same.
            let before = owner-known (at (i - 1) c) o (omega arith, inside.1) (same ∙ is) in
            let top : o.row ≤ i - 1 = before.owns.covers.below_top in
            omega arith),
        (λ above. owns-owner o (at (i - 1) c) (omega arith, inside.1) (record {
          visible = has.owns.visible;
          covers = record {
            below_top = omega arith;
            above_bottom = omega arith;
            after_left = covers.after_left;
            before_right = covers.before_right;
          };
        }) ∙ sym is),
      )

  -- on both sides of the lines i and j where they cross
  pub owner-over-crossing : (i j : ℕ) (o : Position) → 0 < i → 0 < j → IsTablePosition table (at i j) → owner table (at i j) ≡ Some o →
      (owner table (at (i - 1) (j - 1)) ≡ owner table (at i j)) ↔ ((o.row < i) × (o.col < j))
  owner-over-crossing i j o begun begun' inside is =
      let row_in : i < table.shape.0 = inside.0 in
      let col_in : j < table.shape.1 = inside.1 in
      let has = owner-known (at i j) o inside is in
      let covers = has.owns.covers in
      let bottom : i < o.row + table.grid.span Rows o = covers.above_bottom in
      let end : j < o.col + table.grid.span Columns o = covers.before_right in (
        (λ same.
            let before = owner-known (at (i - 1) (j - 1)) o (omega arith, omega arith) (same ∙ is) in
            let top : o.row ≤ i - 1 = before.owns.covers.below_top in
            let side : o.col ≤ j - 1 = before.owns.covers.after_left in
            (omega arith, omega arith)),
        (λ above.
            let over : o.row < i = above.0 in
            let left : o.col < j = above.1 in
            owns-owner o (at (i - 1) (j - 1)) (omega arith, omega arith) (record {
              visible = has.owns.visible;
              covers = record {
                below_top = omega arith;
                above_bottom = omega arith;
                after_left = omega arith;
                before_right = omega arith;
              };
            }) ∙ sym is),
      )

  -- the tests of these
  pub test-over : (i c : ℕ) (o : Position) → 0 < i → IsTablePosition table (at i c) → owner table (at i c) ≡ Some o →
      option_eq position_eq (owner table (at (i - 1) c)) (owner table (at i c)) ≡ nat_lt o.row i
  test-over i c o begun inside is =
      let same = same-owner (owner table (at (i - 1) c)) (owner table (at i c)) o is in
      let over = owner-over i c o begun inside is in
      ltb_from_iff ((λ h. over.0 (same.0 h)), (λ h. same.1 (over.1 h)))

  pub test-over-crossing : (i j : ℕ) (o : Position) → 0 < i → 0 < j → IsTablePosition table (at i j) → owner table (at i j) ≡ Some o →
      option_eq position_eq (owner table (at (i - 1) (j - 1))) (owner table (at i j)) ≡ (nat_lt o.row i && nat_lt o.col j)
  test-over-crossing i j o begun begun' inside is =
      let same = same-owner (owner table (at (i - 1) (j - 1))) (owner table (at i j)) o is in
      let over = owner-over-crossing i j o begun begun' inside is in
      same-tests _ (nat_lt o.row i && nat_lt o.col j) (
        (λ h. let above = over.0 (same.0 h) in and_from _ _ (lt-ltb o.row i above.0) (lt-ltb o.col j above.1)),
        (λ h. let above = and_parts (nat_lt o.row i) (nat_lt o.col j) h in same.1 (over.1 (ltb-true o.row i above.0, ltb-true o.col j above.1))),
      )

-- ---- a table without spans

module _ (table : TableView) (shown : (p : Position) → table.grid.shows p ≡ true) (single : (d : Direction) (p : Position) → table.grid.span d p ≡ 1) where
  owns-itself : (q : Position) → Owns table q q
  owns-itself q =
      let wide = single Columns q in
      let high = single Rows q in
      record {
        visible = shown q;
        covers = record { below_top = omega arith; above_bottom = omega arith; after_left = omega arith; before_right = omega arith };
      }

  owned-alone : (q p : Position) → Owns table p q → p ≡ q
  owned-alone q p owns =
      let wide = single Columns p in
      let high = single Rows p in
      position-same p q (omega (arith, owns.covers.below_top, owns.covers.above_bottom)) (omega (arith, owns.covers.after_left, owns.covers.before_right))

  within-alone : (p : Position) (direction : Direction) → IsVisibleCell table p → Overflows table p direction → ⊥
  within-alone p Columns cell out = let wide = single Columns p in omega (arith, cell.col_in, out)
  within-alone p Rows cell out = let high = single Rows p in omega (arith, cell.row_in, out)

  -- its cells tile it
  pub single-tiled : IsTiled table
  single-tiled = record {
    within = λ p over. within-alone p over.1 over.0 over.2;
    once = λ q inside. (q, owns-itself q, owned-alone q);
  }

  -- and each is its own owner
  pub single-owner : (q : Position) → owner table q ≡ Some q
  single-owner q = owner-only table q q (owns-itself q) (owned-alone q)

-- where no anchors are held
module _ (table : TableView) (anchors : List Anchor) (empty : anchors ≡ []) (are : AreAnchorsOf table.grid anchors) where
  no-anchor : (k : ℕ) (a : Anchor) → slice_get anchors k ≡ Some a → ⊥
  no-anchor k a is = none-some a (subst (λ (xs : List Anchor). slice_get xs k ≡ Some a) empty is)

  pub bare-shown : (p : Position) → table.grid.shows p ≡ true
  bare-shown p = (are.hide p).1 (λ hidden. no-anchor hidden.index hidden.anchor hidden.is_anchor)

  pub bare-single : (d : Direction) (p : Position) → table.grid.span d p ≡ 1
  bare-single d p = elim (cases_lt (table.grid.span d p) 2) [
    | inl below ↦ omega (arith, below, are.from_one d p)
    | inr wide ↦ (let has = are.spans.has_each d p wide in absurd (no-anchor has.index has.anchor has.is_anchor))
  ]

  pub bare-tiled : IsTiled table
  bare-tiled = single-tiled table bare-shown bare-single
