-- The table of the lines that were read so far.
use Rattle.std.specs.Prelude.{◌≡◌, ◌-◌, ℕ, Bool, List, length, map, slice_set, MatchBool, Option, Some, None, option_and_then}
use Rattle.papergrid_script.specs.declared.draft.Draft.{Draft}
use Rattle.papergrid_script.specs.ForProofs.Read.{table_with_line}
use Rattle.papergrid_script.specs.Scripts.{Table}
use Rattle.papergrid_script.specs.Seen.{row_texts_of, rows_seen}
use Rattle.papergrid_script.specs.Settings.{setting_told}
use Rattle.papergrid_script.specs.Spelling.{Said}

-- the rows with these cells in the last one, if there is one
abbrev pub with_last : List (List (List ℕ)) → List (List ℕ) → List (List (List ℕ))
with_last rows cells = slice_set rows (length rows - 1) cells

-- that table
abbrev pub table_so_far : Draft → Table
table_so_far draft = record { columns = draft.columns; settings = map setting_told draft.settings.items; rows = with_last (rows_seen draft.rows.items) (row_texts_of draft.last.items) }

-- what a line says fits, and the draft becomes that of the table after it; or it does not fit
abbrev pub Takes : Draft → Option Said → Bool → Draft → Type 0
Takes old says fits new =
    let after = option_and_then (table_with_line (table_so_far old)) says in
    MatchBool fits (after ≡ Some (table_so_far new)) (after ≡ None)
