-- Columns of a table cut into ranges, and what stands in them.
use Rattle.std.specs.Prelude.{◌≡◌, ◌+◌, ◌<◌, ◌≤◌, ℕ, Bool, List, [], Option, Some, None, cond, if◌then◌else◌}
use Rattle.papergrid_values.specs.declared.direction.Direction.TheVariants.{Columns}
use Rattle.papergrid_values.specs.declared.position.Position.{Position}
use Rattle.papergrid_layout.specs.Places.{TableView, extent}
use Rattle.papergrid_draw.specs.Drawings.{Drawing, layout_of}
use Rattle.papergrid_draw.specs.Drawn.{owner_at, stands_over}
use Rattle.papergrid_draw.specs.Laws.{terminal_columns}
use Rattle.papergrid_draw.specs.Pieces.{Piece}

-- of so many columns, column c lies in a range that begins in column `first c` and has `many c`
-- columns, as has each other column of that range
pub record AreRanges (count : ℕ) (first many : ℕ → ℕ) : Type 0 where
  pub within : (c : ℕ) → c < count →
      (first c ≤ c) × (c < first c + many c) × (first c + many c ≤ count)
  pub shared : (c e : ℕ) → c < count → first c ≤ e → e < first c + many c →
      (first e ≡ first c) × (many e ≡ many c)

-- where a range begins stand pieces as wide as the line before it and the range, and none in its
-- other columns
pub record FillRanges (size : ℕ → ℕ) (line : ℕ → Bool) (count : ℕ) (first many : ℕ → ℕ)
    (pieces : ℕ → List Piece) : Type 0 where
  pub begun : (c : ℕ) → c < count → first c ≡ c →
      terminal_columns (pieces c) ≡ cond (line c) 1 0 + extent size line c (many c)
  pub inside : (c : ℕ) → c < count → first c < c → pieces c ≡ []

-- the first column of an owner's range, or that of a column alone where there is no owner
abbrev pub first_of : Option Position → ℕ → ℕ
first_of None c = c
first_of (Some o) c = o.col

-- and how many columns it has
abbrev pub many_of : TableView → Option Position → ℕ
many_of table None = 1
many_of table (Some o) = table.grid.span Columns o

module _ (d : Drawing) where
  -- the ranges of a text line of row r: those of its owners, which begin here
  abbrev pub text_first : ℕ → ℕ → ℕ
  text_first r c = first_of (owner_at d r c) c

  -- and have so many columns
  abbrev pub text_many : ℕ → ℕ → ℕ
  text_many r c = many_of (layout_of d) (owner_at d r c)

  -- those of horizontal line i: of the owners that stand over it, and single columns elsewhere
  abbrev pub rule_first : ℕ → ℕ → ℕ
  rule_first i c = if stands_over d i c then first_of (owner_at d i c) c else c

  -- and have so many columns
  abbrev pub rule_many : ℕ → ℕ → ℕ
  rule_many i c = if stands_over d i c then many_of (layout_of d) (owner_at d i c) else 1
