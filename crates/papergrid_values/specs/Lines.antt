-- The parts of a line, and how many lines there are.
use Rattle.std.specs.Prelude.{ℕ, ◌+◌, Bool, List, [], ◌∷◌, Option}
use Rattle.std.specs.List.{count_by, range_with_len}
use Rattle.papergrid_values.specs.declared.horizontal_line.HorizontalLine.{HorizontalLine}
use Rattle.papergrid_values.specs.declared.vertical_line.VerticalLine.{VerticalLine}

-- the four parts, in the order of the fields
abbrev pub horizontal_parts : {T : Type 0} → HorizontalLine T → List (Option T)
horizontal_parts line = line.main ∷ line.intersection ∷ line.left ∷ line.right ∷ []

-- the four parts, in the order of the fields
abbrev pub vertical_parts : {T : Type 0} → VerticalLine T → List (Option T)
vertical_parts line = line.main ∷ line.intersection ∷ line.top ∷ line.bottom ∷ []

-- the lines with the same part everywhere
abbrev pub horizontal_with : {T : Type 0} → Option T → HorizontalLine T
horizontal_with part = record { main = part; intersection = part; left = part; right = part }

-- the vertical line with the same part everywhere
abbrev pub vertical_with : {T : Type 0} → Option T → VerticalLine T
vertical_with part = record { main = part; intersection = part; top = part; bottom = part }

-- how many of the lines at 0, 1 and so on up to n there are
abbrev pub all_lines : (ℕ → Bool) → ℕ → ℕ
all_lines line n = count_by line (range_with_len 0 (n + 1))
