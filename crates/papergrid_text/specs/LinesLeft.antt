-- The lines that a `Lines` has yet to give.
use Rattle.std.specs.Prelude.{ℕ, List, [], Option, Some, None}
use Rattle.std.specs.Borrow.{Bor}
use Rattle.papergrid_text.specs.declared.string.Lines.{Lines}
use Rattle.papergrid_text.specs.Text.{split_lines}

-- the lines of what is left of a text
abbrev pub lines_of_rest : Option (Bor (List ℕ)) → List (List ℕ)
lines_of_rest None = []
lines_of_rest (Some text) = split_lines text.now

-- the lines that are left
abbrev pub lines_left : Lines → List (List ℕ)
lines_left s = lines_of_rest s.rest
