-- A table that is built call by call, and what each call makes of it.
use Rattle.std.specs.Prelude.{ℕ, ◌==◌, Bool, true, false, if◌then◌else◌, List, [], ◌∷◌, ◌++◌, length, map, max, Option, None}
use Rattle.std.specs.List.{slice_split}
use Rattle.papergrid_values.specs.declared.per_direction.PerDirection.{PerDirection}
use Rattle.papergrid_config.specs.declared.setting.Setting.{Setting}
use Rattle.papergrid_config.specs.declared.spanned.SpannedConfig.{SpannedConfig}
use Rattle.papergrid_layout.specs.Certificates.{Solution}

-- what was found of a table by its configuration: along each direction the sizes, their total and their certificate
pub record FoundTable : Type 0 where
  pub config : SpannedConfig
  pub along : PerDirection Solution

-- the settings and texts of a table, what was found of it, and what was drawn
pub record BuilderState : Type 0 where
  pub settings : List Setting
  -- the texts of its cells, row by row
  pub rows : List (List (List ℕ))
  -- whether the next cell is one more of the last row
  pub goes_on : Bool
  -- what the last estimate found, if nothing was added since
  pub found : Option FoundTable
  -- the picture that was drawn last
  pub picture : List ℕ

-- no settings and no texts
abbrev pub blank_table : BuilderState
blank_table = record { settings = []; rows = []; goes_on = false; found = None; picture = [] }

-- one more setting
abbrev pub with_setting : BuilderState → Setting → BuilderState
with_setting table setting = record table { settings = table.settings ++ setting ∷ []; found = None }

-- the last row with one more cell; the first row, where there is none
abbrev pub in_last_row : List (List (List ℕ)) → List ℕ → List (List (List ℕ))
in_last_row [] text = (text ∷ []) ∷ []
in_last_row (row ∷ []) text = (row ++ text ∷ []) ∷ []
in_last_row (row ∷ next ∷ rows) text = row ∷ in_last_row (next ∷ rows) text

-- one more cell of the last row where this goes on, else of a new row
abbrev pub one_more_cell : Bool → List (List (List ℕ)) → List ℕ → List (List (List ℕ))
one_more_cell true rows text = in_last_row rows text
one_more_cell false rows text = rows ++ (text ∷ []) ∷ []

-- one more cell
abbrev pub with_cell : BuilderState → List ℕ → BuilderState
with_cell table text = record table { rows = one_more_cell table.goes_on table.rows text; goes_on = true; found = None }

-- the next cell begins a new row; where it would anyway, there is one more row, without cells
abbrev pub with_row_end : BuilderState → BuilderState
with_row_end table =
    if table.goes_on then record table { goes_on = false } else record table { rows = table.rows ++ [] ∷ []; found = None }

-- more rows, each of which is ended
abbrev pub with_more_rows : BuilderState → List (List (List ℕ)) → BuilderState
with_more_rows table rows = record table { rows = table.rows ++ rows; goes_on = false; found = None }

-- the pieces but the last, and the last unless it is empty
abbrev pub unless_last_is_empty : List (List ℕ) → List (List ℕ)
unless_last_is_empty [] = []
unless_last_is_empty (piece ∷ []) = if length piece == 0 then [] else piece ∷ []
unless_last_is_empty (piece ∷ next ∷ pieces) = piece ∷ unless_last_is_empty (next ∷ pieces)

-- the rows that a text is cut into: each byte `row_end` ends one, and each byte `cell_end` stands between two cells
abbrev pub rows_in : ℕ → ℕ → List ℕ → List (List (List ℕ))
rows_in cell_end row_end text =
    map (slice_split (λ byte. byte == cell_end)) (unless_last_is_empty (slice_split (λ byte. byte == row_end) text))

-- how many cells the longest row has
abbrev pub longest : List (List (List ℕ)) → ℕ
longest [] = 0
longest (row ∷ rows) = max (length row) (longest rows)
