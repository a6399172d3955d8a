-- What a whole script says: a table, or its first bad line.
use Rattle.std.specs.Prelude.{◌≡◌, ◌⊎◌, ℕ, ◌+◌, ◌<◌, Bool, true, false, List, [], ◌∷◌, map, filter, flat_map, Option, Some, None, Result, Ok, Err, slice_get}
use Rattle.std.specs.List.{AllZip, filter_map}
use Rattle.papergrid_config.specs.declared.setting.Setting.{Setting}
use Rattle.papergrid_script.specs.ScriptLines.{AreScriptLines}
use Rattle.papergrid_script.specs.Spelling.{Said, Columns, Set, Row, Cell, Says}

-- ---- bad lines

-- no line before the i-th begins a row
abbrev pub NoRowBefore : List (List ℕ) → ℕ → Type 0
NoRowBefore lines i = (j : ℕ) (line : List ℕ) → j < i → slice_get lines j ≡ Some line → ¬ (Says line Row)

-- the line says nothing that a line may say
abbrev pub IsUnsaid : List ℕ → Type 0
IsUnsaid line = (s : Said) → ¬ (Says line s)

-- the i-th line is bad, the first being the 0-th. It is unsaid, or adds a cell before the first row
abbrev pub IsBad : List (List ℕ) → ℕ → Type 0
IsBad lines i =
    (line : List ℕ) × (slice_get lines i ≡ Some line) × (IsUnsaid line ⊎ ((text : List ℕ) × Says line (Cell text) × NoRowBefore lines i))

-- the i-th line is bad, and none before it is
pub record IsFirstBad (lines : List (List ℕ)) (i : ℕ) : Type 0 where
  pub bad : IsBad lines i
  pub first : (j : ℕ) → j < i → ¬ (IsBad lines j)

-- ---- the table

-- a column count, the settings in their order, and the texts of the cells of each row
pub record Table : Type 0 where
  pub columns : ℕ
  pub settings : List Setting
  pub rows : List (List (List ℕ))

-- the column count that a line says
abbrev pub columns_said : Said → Option ℕ
columns_said (Columns n) = Some n
columns_said s = None

-- the setting that a line says
abbrev pub setting_said : Said → Option Setting
setting_said (Set setting) = Some setting
setting_said s = None

-- whether it begins a row or adds a cell
abbrev pub is_of_rows : Said → Bool
is_of_rows Row = true
is_of_rows (Cell text) = true
is_of_rows s = false

-- the last of some numbers, or the given one where there is none
abbrev pub last_or : ℕ → List ℕ → ℕ
last_or n [] = n
last_or n (m ∷ ms) = last_or m ms

-- what a script says that has these rows: each row begins, and then come its cells
abbrev pub rows_said : List (List (List ℕ)) → List Said
rows_said rows = flat_map (λ texts. Row ∷ map Cell texts) rows

-- each line says something. The columns are the last that are said, or 0. The settings are all that are said, in order.
-- The rows are those of which the script says the beginnings and the cells
pub record Describes (lines : List (List ℕ)) (table : Table) : Type 0 where
  pub saids : List Said
  pub each : AllZip Says lines saids
  pub columns_last : table.columns ≡ last_or 0 (filter_map columns_said saids)
  pub settings_all : table.settings ≡ filter_map setting_said saids
  pub rows_all : rows_said table.rows ≡ filter is_of_rows saids

-- ---- the script

-- the lines describe the table, or this is the number of their first bad one
abbrev pub IsScriptOf : List (List ℕ) → Result Table ℕ → Type 0
IsScriptOf lines (Ok table) = Describes lines table
IsScriptOf lines (Err number) = (i : ℕ) × (number ≡ i + 1) × IsFirstBad lines i

-- the same of the lines of an input
abbrev pub IsScript : List ℕ → Result Table ℕ → Type 0
IsScript input script = (lines : List (List ℕ)) × AreScriptLines input lines × IsScriptOf lines script
