-- Which cells stand over a point.
use Rattle.std.proofs.Common.{◌≡◌, ◌≢◌, ◌∙◌, ◌↔◌, ℕ, ◌+◌, ◌<◌, ◌≤◌, ◌⊎◌, Bool, true, false, inl, inr, IsTrue, refl, sym, ap, subst, arith, rules}
use Rattle.std.specs.Prelude.{Err, MatchOption, Option, None, Some}
use Rattle.std.proofs.lemmas.Bool.{cases_lt, false≢true}
use Rattle.std.specs.Bool.{then_some}
use Rattle.papergrid_config.specs.declared.spanned.SpannedConfig.{SpannedConfig}
use Rattle.papergrid_maps.specs.ForProofs.SpanVisible.{visible_test}
use Rattle.papergrid_maps.specs.Spans.{IsInRectangle}
use Rattle.papergrid_values.specs.declared.direction.Direction.TheVariants.{Columns, Rows}
use Rattle.papergrid_values.specs.declared.position.Position.{Position}
use Rattle.papergrid_values.specs.Positions.{IsBefore}
use Rattle.papergrid_config.specs.Grids.{spanned_grid}
use Rattle.papergrid_layout.specs.Places.{HasPlace, IsFirstOver, IsPlaced, StandsOver, TableView, extent, offset}
use Rattle.papergrid_layout.specs.declared.rect.Place.{Place}
use Rattle.papergrid_layout.specs.declared.rect.PlaceError.{PlaceError}
use Rattle.papergrid_layout.specs.declared.rect.PlaceError.TheVariants.{Hidden, OutOfTable, TooLarge}
use Rattle.papergrid_layout.proofs.PlaceSums.{extent-before, offset-rises}

not-before : (p q : Position) → IsBefore q p → q ≢ p
not-before p q (inl l) e = let same : q.row ≡ p.row = ap (λ (z : Position). z.row) e in omega (arith, l, same)
not-before p q (inr l) e = let same : q.col ≡ p.col = ap (λ (z : Position). z.col) e in omega (arith, l.1, same)

-- what is found where the total fits
pub where-fits : (found : Option ℕ) (Fits Out : Type 0) (Lies : ℕ → Type 0) → Fits → MatchOption found Out Lies → MatchOption found (Fits → Out) (λ i. Fits × Lies i)
where-fits None Fits Out Lies fits out = λ _. out
where-fits (Some i) Fits Out Lies fits lies = (fits, lies)

-- a visible position lies in no other rectangle
pub none-but-visible : (config : SpannedConfig) (p q : Position) → (spanned_grid config).shows p ≡ true →
    IsInRectangle (spanned_grid config).span q p → q ≢ p → ⊥
none-but-visible config p q visible within other = (visible_test config.spans p).1.0 visible q other within

-- a point of a range from track s on, of n numbers, and the number whose stretch the point lies in
module _ (size : ℕ → ℕ) (line : ℕ → Bool) (s n x : ℕ) (from : offset size line s ≤ x) (to : x < offset size line s + extent size line s n) where
  pub number-within : (i : ℕ) → (offset size line i ≤ x) × (x < offset size line (i + 1)) → (s ≤ i) × (i < s + n)
  number-within i at = grind (arith, first, last, cases_lt i s, offset-rises)
    where
      first : s ≤ i
      first = elim (cases_lt i s) [
        | inl l ↦
            let rises : offset size line (i + 1) ≤ offset size line s = offset-rises size line (i + 1) s (omega arith) in
            let before : x < offset size line (i + 1) = at.1 in
            absurd (omega arith)
        | inr ge ↦ ge
      ]

      last : i < s + n
      last = elim (cases_lt i (s + n)) [
        | inl l ↦ l
        | inr ge ↦
            let ends : offset size line s + extent size line s n ≤ offset size line i = extent-before size line s n i ge in
            let after : offset size line i ≤ x = at.0 in
            absurd (omega arith)
      ]

  pub none-outside : (count : ℕ) → s + n ≤ count → (x < offset size line 0) ⊎ (offset size line count ≤ x) → ⊥
  none-outside count inside (inl left) =
      let rises : offset size line 0 ≤ offset size line s = offset-rises size line 0 s (omega arith) in
      omega arith
  none-outside count inside (inr right) =
      let ends : offset size line s + extent size line s n ≤ offset size line count = extent-before size line s n count inside in
      omega arith

module _ (table : TableView) where
  -- what is refused has no place
  pub refused-none : (p : Position) (error : PlaceError) (place : Place) → IsPlaced table p (Err error) → HasPlace table p place → ⊥
  refused-none p Hidden place refused has = false≢true (sym refused ∙ has.inside.visible)
  refused-none p OutOfTable place refused has = search rules
  refused-none p TooLarge place refused has = search rules

  module _ (x y : ℕ) where
    abbrev Over : Position → Type 0
    Over = StandsOver table x y

    -- the numbers whose stretches the point lies in are those of a position in the rectangle of each cell that stands over it
    pub over-within : (r c : ℕ) →
        (r < table.shape.0) × (offset table.heights (table.grid.draws Rows table.shape.0) r ≤ y) × (y < offset table.heights (table.grid.draws Rows table.shape.0) (r + 1)) →
        (c < table.shape.1) × (offset table.widths (table.grid.draws Columns table.shape.1) c ≤ x) × (x < offset table.widths (table.grid.draws Columns table.shape.1) (c + 1)) →
        (q : Position) → Over q → IsInRectangle table.grid.span q (record { row = r; col = c })
    over-within r c down across q over =
        let high = number-within table.heights (table.grid.draws Rows table.shape.0) q.row (table.grid.span Rows q) y over.covers.below_top over.covers.above_bottom r (down.1, down.2) in
        let wide = number-within table.widths (table.grid.draws Columns table.shape.1) q.col (table.grid.span Columns q) x over.covers.after_left over.covers.before_right c (across.1, across.2) in
        record { below_top = high.0; above_bottom = high.1; after_left = wide.0; before_right = wide.1 }

    pub none-beside : (x < offset table.widths (table.grid.draws Columns table.shape.1) 0) ⊎ (offset table.widths (table.grid.draws Columns table.shape.1) table.shape.1 ≤ x) → (q : Position) → Over q → ⊥
    none-beside out q over =
        none-outside table.widths (table.grid.draws Columns table.shape.1) q.col (table.grid.span Columns q) x over.covers.after_left over.covers.before_right table.shape.1 over.placed.inside.across out

    pub none-beyond : (y < offset table.heights (table.grid.draws Rows table.shape.0) 0) ⊎ (offset table.heights (table.grid.draws Rows table.shape.0) table.shape.0 ≤ y) → (q : Position) → Over q → ⊥
    none-beyond out q over = search (rules, none-outside)

    -- the one position whose cell may stand over the point, if it does
    pub one-tested : (p : Position) (test : Bool) → (IsTrue test ↔ Over p) → ((q : Position) → Over q → q ≢ p → ⊥) →
        IsFirstOver table x y (then_some test p)
    one-tested p true says alone = (says.0 refl, λ q over before. alone q over (not-before p q before))
    one-tested p false says alone = λ q over. alone q over (λ e. false≢true (says.1 (subst Over e over)))
