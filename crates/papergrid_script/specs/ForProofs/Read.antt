-- How a script is read: line by line, each of which adds to the table.
use Rattle.std.specs.Prelude.{ℕ, ◌+◌, ◌-◌, ◌==◌, length, slice_get, slice_index, slice_set, List, [], ◌∷◌, ◌++◌, Option, Some, None, map, option_map, option_and_then, take, Result, Ok, Err, if◌then◌else◌}
use Rattle.std.specs.List.{slice_split}
use Rattle.papergrid_script.specs.Grammar.{line_says}
use Rattle.papergrid_script.specs.ScriptLines.{carriage_return}
use Rattle.papergrid_script.specs.Scripts.{Table}
use Rattle.papergrid_script.specs.Spelling.{Said, Nothing, Columns, Set, Row, Cell}
use Rattle.papergrid_script.specs.Texts.{newline}

-- a CR at the end is dropped
abbrev pub without_cr : List ℕ → List ℕ
without_cr line = if slice_index line (length line - 1) == carriage_return then take (length line - 1) line else line

-- a last part that is empty is no line
abbrev pub without_empty_last : List (List ℕ) → List (List ℕ)
without_empty_last [] = []
without_empty_last (part ∷ []) = if length part == 0 then [] else part ∷ []
without_empty_last (part ∷ next ∷ parts) = part ∷ without_empty_last (next ∷ parts)

-- the lines of a script
unfoldable pub script_lines : List ℕ → List (List ℕ)
script_lines input = map without_cr (without_empty_last (slice_split (λ b. b == newline) input))

-- no columns, no settings and no rows
abbrev pub empty_table : Table
empty_table = record { columns = 0; settings = []; rows = [] }

-- the rows with a cell more in the last one, if there is one
abbrev pub onto_last : List (List (List ℕ)) → List ℕ → Option (List (List (List ℕ)))
onto_last rows text =
    option_map (λ row. slice_set rows (length rows - 1) (row ++ text ∷ [])) (slice_get rows (length rows - 1))

-- the table after one more line; none where a cell comes before the first row
abbrev pub table_with_line : Table → Said → Option Table
table_with_line table Nothing = Some table
table_with_line table (Columns n) = Some (record table { columns = n })
table_with_line table (Set setting) = Some (record table { settings = table.settings ++ setting ∷ [] })
table_with_line table Row = Some (record table { rows = table.rows ++ [] ∷ [] })
table_with_line table (Cell text) = option_map (λ rows. record table { rows = rows }) (onto_last table.rows text)

-- on with the table after a line, or the number of the line where there is none
abbrev pub or_bad : ℕ → Option Table → (Table → Result Table ℕ) → Result Table ℕ
or_bad number None go_on = Err number
or_bad number (Some table) go_on = go_on table

-- the table after the lines, of which the first has this number; or the number of the first bad line
abbrev pub table_after : ℕ → Table → List (List ℕ) → Result Table ℕ
table_after number table [] = Ok table
table_after number table (line ∷ lines) =
    or_bad number (option_and_then (table_with_line table) (line_says line)) (λ next. table_after (number + 1) next lines)

-- the table that a script describes, or the number of its first bad line
unfoldable pub table_of : List ℕ → Result Table ℕ
table_of input = table_after 1 empty_table (script_lines input)
