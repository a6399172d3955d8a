-- A picture as a text of lines.
use Rattle.std.specs.Prelude.{ℕ, ◌==◌, ◌||◌, if◌then◌else◌, List, [], ◌∷◌, ◌++◌, flat_map}
use Rattle.papergrid_draw.specs.Drawings.{Drawing}
use Rattle.papergrid_draw.specs.Margins.{printed_lines}

-- lines, each ended by a line feed
abbrev pub ended_lines : List (List ℕ) → List ℕ
ended_lines lines = flat_map (λ line. line ++ 10 ∷ []) lines

-- the lines of a picture, each ended so: nothing of no rows or no columns
unfoldable pub lined : Drawing → List ℕ
lined d = if d.shape.0 == 0 || d.shape.1 == 0 then [] else ended_lines (printed_lines d)
