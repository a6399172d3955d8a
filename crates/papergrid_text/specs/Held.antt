-- The rows that records hold.
use Rattle.std.specs.Prelude.{◌≡◌, ℕ, List, [], ◌∷◌, length, map, Vec, Option, option_and_then, option_map, slice_get, unwrap_or, MatchOption}
use Rattle.std.specs.Str.Lines.{lines as std_lines}
use Rattle.papergrid_values.specs.declared.position.Position.{Position}
use Rattle.papergrid_text.specs.Text.{text_width, with_width}

-- the number of columns, by the first row
abbrev pub first_length : {T Z : Type 0} → List (Vec T Z) → ℕ
first_length [] = 0
first_length (row ∷ rows) = length row.items

module _ {T Z : Type 0} where
  -- the cell at a position
  abbrev pub cell_at : List (Vec T Z) → Position → Option T
  cell_at rows p = option_and_then (λ row. slice_get row.items p.col) (slice_get rows p.row)

  -- there is a cell at the position
  abbrev pub HasCell : List (Vec T Z) → Position → Type 0
  HasCell rows p = MatchOption (cell_at rows p) ⊥ (λ _. Unit {0})

  -- there is one, and P holds of it
  abbrev pub HoldsOfCell : (T → Type 0) → List (Vec T Z) → Position → Type 0
  HoldsOfCell P rows p = MatchOption (cell_at rows p) ⊥ P

  -- the text of the cell at the position, and the empty text where there is none
  abbrev pub cell_text : (T → List ℕ) → List (Vec T Z) → Position → List ℕ
  cell_text text rows p = unwrap_or (option_map text (cell_at rows p)) []

-- the lines and the width of the cell are those of its text, by std's lines
abbrev pub IsPlainCell : {T : Type 0} → (T → List ℕ) → (T → List (List ℕ × ℕ)) → (T → ℕ) → T → Type 0
IsPlainCell text lines width cell =
    (lines cell ≡ map with_width (std_lines (text cell))) × (width cell ≡ text_width (text cell))
