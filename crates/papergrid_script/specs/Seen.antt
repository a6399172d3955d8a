-- What clauses see of a script that the program holds.
use Rattle.std.specs.Prelude.{ℕ, List, map, Result, Ok, Err}
use Rattle.std.specs.Borrow.{Bor}
use Rattle.papergrid_script.specs.declared.script.Script.{Script}
use Rattle.papergrid_script.specs.declared.script.ScriptError.{ScriptError}
use Rattle.papergrid_script.specs.declared.script.ScriptError.TheVariants as script_errors
use Rattle.papergrid_script.specs.Scripts.{Table}
use Rattle.papergrid_script.specs.Settings.{setting_told}

-- the texts of the cells
abbrev pub row_texts_of : List (Bor (List ℕ)) → List (List ℕ)
row_texts_of cells = map (λ text. text.now) cells

-- the texts of the cells of each row
abbrev pub rows_seen : List (Bor (List (Bor (List ℕ)))) → List (List (List ℕ))
rows_seen rows = map (λ row. row_texts_of row.now) rows

-- the table of a script that was read
abbrev pub table_seen : Script → Table
table_seen script = record { columns = script.columns; settings = map setting_told script.settings.items; rows = rows_seen script.rows.items }

-- what was read of an input is so: a table, or its first bad line; out of memory says nothing
abbrev pub GivesScript : Result Script ScriptError → (Result Table ℕ → Type 0) → Type 0
GivesScript (Ok script) IsSo = IsSo (Ok (table_seen script))
GivesScript (Err (script_errors.Bad number)) IsSo = IsSo (Err number)
GivesScript (Err script_errors.Memory) IsSo = Unit {0}
