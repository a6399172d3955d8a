-- The lines and the colours of the cells of records.
use Rattle.std.specs.Prelude.{ℕ, List, Option, map, option_and_then, slice_get}
use Rattle.papergrid_values.specs.declared.position.Position.{Position}
use Rattle.papergrid_text.specs.Text.{split_lines, with_width}
use Rattle.papergrid_draw.specs.Contents.{lines_of}

-- the cell that rows have at a position, if there is one
abbrev pub cell_of : {C : Type 0} → List (List C) → Position → Option C
cell_of rows p = option_and_then (λ row. slice_get row p.col) (slice_get rows p.row)

-- its lines; none where there is no cell
abbrev pub lines_at : {C : Type 0} → (C → List (List ℕ × ℕ)) → List (List C) → Position → List (List ℕ × ℕ)
lines_at lines rows p = lines_of lines (cell_of rows p)

-- the lines of a text, each with its width
abbrev pub text_lines : List ℕ → List (List ℕ × ℕ)
text_lines text = map with_width (split_lines text)
