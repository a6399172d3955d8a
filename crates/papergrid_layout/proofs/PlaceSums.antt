-- Where tracks begin, and how long ranges of them are.
use Rattle.std.proofs.Common.{◌≡◌, ℕ, zero, suc, ◌+◌, ◌-◌, ◌<◌, ◌≤◌, Bool, true, false, cond, inl, inr, [], refl, sym, ap, subst, ◌∙◌, arith, count_by, nat_lt}
use Rattle.std.specs.Prelude.{Option, None, Some, ◌^◌}
use Rattle.std.specs.Option.{SomeIff, ok_or}
use Rattle.std.specs.List.{range_with_len, sum_by}
use Rattle.std.proofs.lemmas.Bool.{cases_lt, ltb-false}
use Rattle.std.proofs.lemmas.List.Sums.{sum_by-append, sum_by-cons}
use Rattle.papergrid_values.specs.Lines.{all_lines}
use Rattle.papergrid_tracks.specs.declared.error.LayoutError.TheVariants as layout_error
use Rattle.papergrid_tracks.proofs.LoopLemmas.{range_with_len-append}
use Rattle.papergrid_values.specs.declared.direction.Direction.{Direction}
use Rattle.papergrid_values.specs.declared.direction.Direction.TheVariants.{Columns, Rows}
use Rattle.papergrid_values.specs.declared.position.Position.{Position}
use Rattle.papergrid_layout.specs.Places.{HasPlace, IsInsideTable, IsTotalOf, TableView, extent, line_offset, offset, sum_from, total, total_along}

-- numbers in a row, cut in two
sum-cut : (f : ℕ → ℕ) (a m k : ℕ) → sum_by f (range_with_len a (m + k)) ≡ sum_by f (range_with_len a m) + sum_by f (range_with_len (a + m) k)
sum-cut f a m k = ap (sum_by f) (range_with_len-append a m k) ∙ sum_by-append f (range_with_len a m) (range_with_len (a + m) k)

sum-one : (f : ℕ → ℕ) (a : ℕ) → sum_by f (range_with_len a 1) ≡ f a
sum-one f a = let e : sum_by f (range_with_len a 1) ≡ f a + 0 = sum_by-cons f a [] in omega arith

module _ (size : ℕ → ℕ) (line : ℕ → Bool) where
  abbrev drawn : ℕ → ℕ
  drawn i = cond (line i) 1 0

  -- a range ends where the next number begins, but for the line before that one
  pub offset-after : (s n : ℕ) → 1 ≤ n → offset size line (s + n) ≡ offset size line s + extent size line s n + drawn (s + n)
  offset-after s n one =
      let sizes : sum_from size 0 (s + n) ≡ sum_from size 0 s + sum_from size (0 + s) n = sum-cut size 0 s n in
      let at : sum_from size (0 + s) n ≡ sum_from size s n = ap (λ k. sum_from size k n) (let e : 0 + s ≡ s = omega arith in e) in
      let parts : all_lines line (s + n) ≡ count_by line (range_with_len 0 ((s + 1) + ((n - 1) + 1))) =
      ap (λ k. count_by line (range_with_len 0 k)) (let e : s + n + 1 ≡ (s + 1) + ((n - 1) + 1) = omega arith in e) in
      let first : count_by line (range_with_len 0 ((s + 1) + ((n - 1) + 1))) ≡ count_by line (range_with_len 0 (s + 1)) + count_by line (range_with_len (0 + (s + 1)) ((n - 1) + 1)) =
      sum-cut drawn 0 (s + 1) ((n - 1) + 1) in
      let from : count_by line (range_with_len (0 + (s + 1)) ((n - 1) + 1)) ≡ count_by line (range_with_len (s + 1) ((n - 1) + 1)) =
      ap (λ k. count_by line (range_with_len k ((n - 1) + 1))) (let e : 0 + (s + 1) ≡ s + 1 = omega arith in e) in
      let second : count_by line (range_with_len (s + 1) ((n - 1) + 1)) ≡ count_by line (range_with_len (s + 1) (n - 1)) + count_by line (range_with_len (s + 1 + (n - 1)) 1) =
      sum-cut drawn (s + 1) (n - 1) 1 in
      let last : count_by line (range_with_len (s + 1 + (n - 1)) 1) ≡ drawn (s + n) =
      sum-one drawn (s + 1 + (n - 1)) ∙ ap drawn (let e : s + 1 + (n - 1) ≡ s + n = omega arith in e) in
      omega arith

  -- the next number begins after this one and the line before it
  pub offset-next : (i : ℕ) → offset size line (i + 1) ≡ offset size line i + size i + drawn (i + 1)
  offset-next i = grind (arith, offset-after, sum-one)

  -- a range of no number is empty
  extent-none : (s : ℕ) → extent size line s 0 ≡ 0
  extent-none s = refl

  pub offset-rises : (s t : ℕ) → s ≤ t → offset size line s ≤ offset size line t
  offset-rises s t le = elim (cases_lt s t) [
    | inl l ↦
        let after : offset size line (s + (t - s)) ≡ offset size line s + extent size line s (t - s) + drawn (s + (t - s)) = offset-after s (t - s) (omega arith) in
        let at : offset size line (s + (t - s)) ≡ offset size line t = ap (offset size line) (let e : s + (t - s) ≡ t = omega arith in e) in
        omega arith
    | inr ge ↦ let at : offset size line s ≡ offset size line t = ap (offset size line) (let e : s ≡ t = omega arith in e) in omega arith
  ]

  -- of two ranges the one that ends before the other begins
  pub extent-before : (s n t : ℕ) → s + n ≤ t → offset size line s + extent size line s n ≤ offset size line t
  extent-before s zero t le =
      let rises : offset size line s ≤ offset size line t = offset-rises s t (omega arith) in
      let none : extent size line s 0 ≡ 0 = extent-none s in
      omega arith
  extent-before s (suc n) t le =
      let after : offset size line (s + suc n) ≡ offset size line s + extent size line s (suc n) + drawn (s + suc n) = offset-after s (suc n) (omega arith) in
      let rises : offset size line (s + suc n) ≤ offset size line t = offset-rises (s + suc n) t le in
      omega arith

  -- a range that does not end past the last number ends within the total
  pub within-total : (s n count first long : ℕ) → ◌≡◌ {A = ℕ × ℕ} (first, long) (offset size line s, extent size line s n) → false ≡ nat_lt count (s + n) →
      first + long ≤ total size line count
  within-total s n count first long at inside = grind (arith, extent-before, ltb-false)

  -- the sum up to a number that is passed does not fit, so the total does not
  pub past-total : (s count : ℕ) → s ≤ count → (offset size line s < 2 ^ 64 → ⊥) → offset size line count < 2 ^ 64 → ⊥
  past-total s count le past fits =
      past (let rises : offset size line s ≤ offset size line count = offset-rises s count le in
      let small : offset size line count < 2 ^ 64 = fits in
      omega arith)

  -- where the next number begins, and that this is not past where a later one does
  pub next-begin : (end i begin got drew : ℕ) → i < end → begin ≡ offset size line i → got ≡ size i → drew ≡ drawn (i + 1) →
      (begin + got + drew ≡ offset size line (i + 1)) × (begin + got + drew ≤ offset size line end)
  next-begin end i begin got drew below at taken passed =
      let next : offset size line (i + 1) ≡ offset size line i + size i + drawn (i + 1) = offset-next i in
      let rises : offset size line (i + 1) ≤ offset size line end = offset-rises (i + 1) end (omega arith) in
      (omega arith, omega arith)

  -- the line at a number stands before where the number begins
  pub line-before : (i : ℕ) → offset size line i ≡ line_offset size line i + drawn i
  line-before i = grind (arith, sum-cut, sum-one)

  -- how long a range is, by where it begins, where the next number begins and the line there
  pub part-of : (s n begin next drew : ℕ) → 1 ≤ n → begin ≡ offset size line s → next ≡ offset size line (s + n) → drew ≡ drawn (s + n) →
      next ≡ begin + extent size line s n + drew
  part-of s n begin next drew one at end passed = grind (arith, offset-after)

-- where none is found, there is none
pub none-of : {T : Type 0} (found : Option T) (P : Type 0) (x : T) → found ≡ None → (P → ⊥) → SomeIff found P x
none-of found P x e never = subst (λ r. SomeIff r P x) (sym e) never

-- where no part is found along a direction, the total does not fit
pub too-large : {T : Type 0} (found : Option T) (whole : ℕ) (x : T) → found ≡ None → SomeIff found (whole < 2 ^ 64) x → 2 ^ 64 ≤ whole
too-large found whole x e h = grind (arith, cases_lt whole (2 ^ 64))

-- a total that is found, or too large
pub total-or : (found : Option ℕ) (whole : ℕ) → SomeIff found (whole < 2 ^ 64) whole → IsTotalOf whole (ok_or found layout_error.TooLarge)
total-or None whole h = (refl, too-large None whole whole refl h)
total-or (Some n) whole h = h.1

-- a visible cell that does not overflow the table lies in the table
pub is-inside : (table : TableView) (p : Position) → table.grid.shows p ≡ true →
    false ≡ nat_lt table.shape.1 (p.col + table.grid.span Columns p) → false ≡ nat_lt table.shape.0 (p.row + table.grid.span Rows p) → IsInsideTable table p
is-inside table p visible across down = grind (arith, ltb-false)

-- the place of a cell by what is found along both directions
pub has-place : (table : TableView) (p : Position) (left top width height : ℕ) → table.grid.shows p ≡ true →
    false ≡ nat_lt table.shape.1 (p.col + table.grid.span Columns p) → false ≡ nat_lt table.shape.0 (p.row + table.grid.span Rows p) →
    (total table.widths (table.grid.draws Columns table.shape.1) table.shape.1 < 2 ^ 64)
    × ◌≡◌ {A = ℕ × ℕ} (left, width) (offset table.widths (table.grid.draws Columns table.shape.1) p.col, extent table.widths (table.grid.draws Columns table.shape.1) p.col (table.grid.span Columns p)) →
    (total table.heights (table.grid.draws Rows table.shape.0) table.shape.0 < 2 ^ 64)
    × ◌≡◌ {A = ℕ × ℕ} (top, height) (offset table.heights (table.grid.draws Rows table.shape.0) p.row, extent table.heights (table.grid.draws Rows table.shape.0) p.row (table.grid.span Rows p)) →
    HasPlace table p (record { left = left; top = top; width = width; height = height })
has-place table p left top width height visible across down wide high = grind (arith, is-inside, fit)
  where
    fit : (direction : Direction) → total_along table direction < 2 ^ 64
    fit Columns = wide.0
    fit Rows = high.0
