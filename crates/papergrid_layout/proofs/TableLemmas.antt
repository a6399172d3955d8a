-- What is known of a table by what it keeps.
use Rattle.std.proofs.Common.{◌≡◌, ◌∙◌, ℕ, ◌+◌, ◌-◌, ◌<◌, ◌≤◌, ◌⊎◌, ◌&&◌, Bool, true, cond, inl, inr, get_or, leb, refl, sym, ap, arith}
use Rattle.std.specs.Prelude.{◌^◌, ◌≢◌, Option, None, Some, Result, Ok, Err, if◌then◌else◌, IfErr, IfOk}
use Rattle.std.specs.Option.{SomeIff, ok_or}
use Rattle.std.proofs.lemmas.Bool.{and_parts, cases_lt, leb-true}
use Rattle.std.proofs.lemmas.List.{get_or_default, get_or_past}
use Rattle.std.proofs.lemmas.Result.{IfErr-weaker}
use Rattle.papergrid_values.specs.declared.direction.Direction.{Direction}
use Rattle.papergrid_values.specs.declared.direction.Direction.TheVariants.{Columns, Rows}
use Rattle.papergrid_values.specs.declared.position.Position.{Position}
use Rattle.papergrid_tracks.specs.declared.error.LayoutError.{LayoutError}
use Rattle.papergrid_tracks.specs.declared.error.LayoutError.TheVariants as layout_error
use Rattle.papergrid_walk.specs.ForProofs.Shown.{anchor_in}
use Rattle.papergrid_layout.specs.Places.{ArePlacesRefused, EndsWithin, IsFirstOver, IsPlaced, TableView, line_offset, offset, place_at, total, total_along}
use Rattle.papergrid_layout.specs.Answers.{UnlessMemoryError}
use Rattle.papergrid_layout.specs.Tables.{IsTotalTooLarge}
use Rattle.papergrid_layout.specs.ForProofs.Placing.{AreMarks}
use Rattle.papergrid_layout.specs.declared.marks.Marks.{Marks}
use Rattle.papergrid_layout.specs.declared.rect.Place.{Place}
use Rattle.papergrid_layout.specs.declared.rect.PlaceError.{PlaceError}
use Rattle.papergrid_layout.specs.declared.rect.PlaceError.TheVariants.{OutOfTable, TooLarge}
use Rattle.papergrid_layout.proofs.PlaceSums.{line-before}
use Rattle.papergrid_layout.proofs.PlacingLemmas.{ends-within, has-found, is-out}
use Rattle.papergrid_layout.proofs.PointLemmas.{none-beside, none-beyond}

-- ---- lines

-- where a track begins, or, at their count, the total
pub begin-at : (size : ℕ → ℕ) (line : ℕ → Bool) (count : ℕ) (marks : Marks) (index begin whole : ℕ) → AreMarks size line count marks → index ≤ count →
    begin ≡ get_or marks.begins.items index whole → whole ≡ total size line count → begin ≡ offset size line index
begin-at size line count marks index begin whole are le at all = elim (cases_lt index count) [
  | inl l ↦ at ∙ get_or_default marks.begins.items index whole 0 (omega (arith, are.each_begin)) ∙ are.begins index l
  | inr ge ↦
      let end : count ≡ index = omega arith in
      at ∙ get_or_past marks.begins.items index whole (omega (arith, are.each_begin)) ∙ all ∙ ap (total size line) end
]

-- a line that is drawn stands right before what begins there
pub line-at : (size : ℕ → ℕ) (line : ℕ → Bool) (count : ℕ) (marks : Marks) (index begin whole : ℕ) → AreMarks size line count marks →
    begin ≡ get_or marks.begins.items index whole → whole ≡ total size line count → true ≡ (leb index count && line index) →
    (1 ≤ begin) × (Some (begin - 1) ≡ (if leb index count && line index then Some (line_offset size line index) else None))
line-at size line count marks index begin whole are at all is =
    let parts = and_parts (leb index count) (line index) (sym is) in
    let begins : begin ≡ offset size line index = begin-at size line count marks index begin whole are (leb-true index count parts.0) at all in
    let before : offset size line index ≡ line_offset size line index + cond (line index) 1 0 = line-before size line index in
    let drawn : cond {A = ℕ} (line index) 1 0 ≡ 1 = ap (λ b. cond {A = ℕ} b 1 0) parts.1 in
    let stands : begin - 1 ≡ line_offset size line index = omega arith in
    (omega arith, rw (← is) (ap Some stands))

-- ---- totals

-- too large along a direction is too large
pub large-along : (table : TableView) (direction : Direction) (e : LayoutError) →
    UnlessMemoryError e ((e ≡ layout_error.TooLarge) × (2 ^ 64 ≤ total_along table direction)) → UnlessMemoryError e ((e ≡ layout_error.TooLarge) × IsTotalTooLarge table)
large-along table direction (layout_error.OutOfTable p) large = absurd (let e = large.0 in cc)
large-along table Columns layout_error.TooLarge large = (refl, inl large.1)
large-along table Rows layout_error.TooLarge large = (refl, inr large.1)
large-along table direction (layout_error.Memory e) any = tt

-- both fit
pub both-fit : (table : TableView) → total_along table Columns < 2 ^ 64 → total_along table Rows < 2 ^ 64 → (direction : Direction) → total_along table direction < 2 ^ 64
both-fit table wide high Columns = wide
both-fit table wide high Rows = high

module _ (table : TableView) (fit : (direction : Direction) → total_along table direction < 2 ^ 64) where
  -- ---- places

  -- what is found is not too large
  abbrev pub IsPlacedIn : Position → Result Place PlaceError → Type 0
  IsPlacedIn p answer = IsPlaced table p answer × (answer ≢ Err TooLarge)

  -- a visible position has the screen rectangle that was found for it, or overflows the table
  pub placed-in : (p : Position) (found : Option Place) → table.grid.shows p ≡ true →
      SomeIff found ((p.col + table.grid.span Columns p ≤ table.shape.1) × (p.row + table.grid.span Rows p ≤ table.shape.0)) (place_at table p) →
      IsPlacedIn p (ok_or found OutOfTable)
  placed-in p None visible none = (is-out table p (anchor_in table.grid p) visible refl none, λ same. cc)
  placed-in p (Some place) visible found = (has-found table p (anchor_in table.grid p) place fit visible refl found, λ same. cc)

  -- which ends within the totals
  pub placed-within : (p : Position) (answer : Result Place PlaceError) → IsPlaced table p answer → IfOk answer (EndsWithin table)
  placed-within p (Ok place) is = ends-within table p place is
  placed-within p (Err error) is = tt

  -- none is refused as too large
  pub never-too-large : {A : Type 0} (answer : Result A LayoutError) → IfErr answer (ArePlacesRefused table) → IfErr answer (λ e. e ≢ layout_error.TooLarge)
  never-too-large answer refused = grind (arith, IfErr-weaker, small, large)
    where
      large : ((2 ^ 64 ≤ total_along table Columns) ⊎ (2 ^ 64 ≤ total_along table Rows)) → ⊥
      large (inl across) = let fits = fit Columns in omega (arith, across, fits)
      large (inr down) = let fits = fit Rows in omega (arith, down, fits)

      small : (error : LayoutError) → ArePlacesRefused table error → error ≢ layout_error.TooLarge
      small (layout_error.OutOfTable p) is = λ same. cc
      small layout_error.TooLarge is = absurd (large is.1.refused.1)
      small (layout_error.Memory e) is = λ same. cc

  -- ---- points

  -- no cell stands over a point past the totals
  pub none-past : (x y : ℕ) → (total_along table Columns ≤ x) ⊎ (total_along table Rows ≤ y) → IsFirstOver table x y None
  none-past x y (inl beside) = none-beside table x y (inr beside)
  none-past x y (inr beyond) = none-beyond table x y (inr beyond)
