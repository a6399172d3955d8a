-- The measures of a cell: its width, in columns of a terminal, and its height, in lines.
use Rattle.std.specs.Prelude.{ℕ, List, length}
use Rattle.papergrid_text.specs.Text.{greatest_width, split_lines, text_width}

module _ {C : Type 0} where
  -- by the lines of its text between newlines
  abbrev pub line_measure : (C → List ℕ) → C → ℕ × ℕ
  line_measure text cell = (greatest_width (split_lines (text cell)), length (split_lines (text cell)))

  -- the same, but the width by std's lines
  abbrev pub std_line_measure : (C → List ℕ) → C → ℕ × ℕ
  std_line_measure text cell = (text_width (text cell), length (split_lines (text cell)))

  -- by the width and the lines that a cell has of its own
  abbrev pub cell_measure : (C → ℕ) → (C → List (List ℕ × ℕ)) → C → ℕ × ℕ
  cell_measure width lines cell = (width cell, length (lines cell))

-- of a cell that is its text: by its lines between newlines
abbrev pub text_measure : List ℕ → ℕ × ℕ
text_measure = line_measure (λ text. text)
