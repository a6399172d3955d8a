-- On a walk over the cells of a table: whether separators stand between their texts.
use Rattle.std.specs.Prelude.{◌≡◌, ◌↔◌, ◌⊎◌, ℕ, ◌+◌, ◌<◌, IsTrue, true}
use Rattle.papergrid_values.specs.Positions.{IsBefore, position_of}
use Rattle.papergrid_values.specs.declared.direction.Direction.TheVariants.{Columns}
use Rattle.papergrid_values.specs.declared.position.Position.{Position}
use Rattle.papergrid_layout.specs.Places.{IsVisibleCell, TableView, track_line}
use Rattle.papergrid_draw.specs.declared.separated.Apart.{Apart}

module _ (table : TableView) where
  -- a vertical line or a padding stands before the cell at a position, if that is not in the first column
  abbrev pub IsCellApartBefore : Position → Type 0
  IsCellApartBefore p =
      0 < p.col → (track_line table Columns p.col ≡ true) ⊎ (0 < table.grid.before Columns p)

  -- one stands after it, if it does not end with the last column
  abbrev pub IsCellApartAfter : Position → Type 0
  IsCellApartAfter p =
      let end = p.col + table.grid.span Columns p in
      end < table.shape.1 → (track_line table Columns end ≡ true) ⊎ (0 < table.grid.after Columns p)

  -- the tests of the cell at a position, if that is visible
  pub record IsTested (apart : Apart) (p : Position) : Type 0 where
    pub before : IsTrue apart.before ↔ (IsVisibleCell table p → IsCellApartBefore p)
    pub after : IsTrue apart.after ↔ (IsVisibleCell table p → IsCellApartAfter p)

  -- something holds of each visible cell before row r and column c
  abbrev pub HoldsBefore : (Position → Type 0) → ℕ → ℕ → Type 0
  HoldsBefore holds r c =
      (p : Position) → IsBefore p (position_of (r, c)) → IsVisibleCell table p → holds p

  -- the tests of all visible cells before row r and column c
  pub record AreTested (apart : Apart) (r c : ℕ) : Type 0 where
    pub before : IsTrue apart.before ↔ HoldsBefore IsCellApartBefore r c
    pub after : IsTrue apart.after ↔ HoldsBefore IsCellApartAfter r c
