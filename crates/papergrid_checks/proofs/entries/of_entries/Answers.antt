use Rattle.std.proofs.Common.{◌≡◌, ◌∙◌, ◌∷◌, [], ℕ, List, map, string_bytes}
use Rattle.std.specs.Prelude.{Vec}
use Rattle.std.specs.Borrow.{Bor}
use Rattle.std.specs.declared.alloc.Global.{Global}
use Rattle.papergrid_tracks.proofs.BySizing.{AreSizes}
use Rattle.papergrid_tracks.specs.declared.error.LayoutError.{LayoutError}
use Rattle.papergrid_tracks.specs.declared.error.LayoutError.TheVariants.{OutOfTable, TooLarge, Memory}
use Rattle.papergrid_layout.specs.Answers.{UnlessMemoryError}
use Rattle.papergrid_text.proofs.RowSteps.{told_by}
use Rattle.papergrid_config.specs.Grids.{spanned_grid}
use Rattle.papergrid_walk.specs.Measures.{line_measure}
use Rattle.papergrid_checks.specs.declared.entries.Entry.{Entry}
use Rattle.papergrid_checks.proofs.RowLemmas.{refused_on, sizes_told}
use Rattle.papergrid_tracks.specs.declared.sizing.Sizing.TheVariants.{ByShares}
use Rattle.papergrid_checks.proofs.entries.of_entries.Goals as goal

abbrev entry_texts : Entry → List (List ℕ)
entry_texts entry = string_bytes entry.name ∷ string_bytes entry.note ∷ []

abbrev lent_texts : Vec (Bor (List ℕ)) Global → List (List ℕ)
lent_texts row = map (λ text. text.now) row.items

-- what is said of the cells of rows is said of cells with the texts that the rows lend
of_lent_texts : (Holds : List (List (Bor (Bor (List ℕ)))) → Type 0) (rows : List (Vec (Bor (List ℕ)) Global)) (texts : List (List (List ℕ))) (e : LayoutError) → map lent_texts rows ≡ texts
    → UnlessMemoryError e ((cells : List (List (Bor (Bor (List ℕ))))) × (map (map (λ cell. cell.now)) cells ≡ map (λ row. row.items) rows) × Holds cells)
    → UnlessMemoryError e ((cells : List (List (Bor (Bor (List ℕ))))) × (map (map (λ cell. cell.now.now)) cells ≡ texts) × Holds cells)
of_lent_texts Holds rows texts (OutOfTable place) same is = (is.0, told_by (λ cell. cell.now) (λ text. text.now) (λ row. row.items) is.0 rows is.1 ∙ same, is.2)
of_lent_texts Holds rows texts TooLarge same is = (is.0, told_by (λ cell. cell.now) (λ text. text.now) (λ row. row.items) is.0 rows is.1 ∙ same, is.2)
of_lent_texts Holds rows texts (Memory e) same is = tt

pub returns-in_err-estimate : goal.returns-in_err-estimate
returns-in_err-estimate c =
    refused_on (spanned_grid c.args.config.now) (λ cell. cell.now.now) (line_measure (λ text. text)) 2 (map entry_texts c.args.entries.now) ByShares _ _ _ c.from_residual-in_err-estimate.ensures.1
    (of_lent_texts _ _ (map entry_texts c.args.entries.now) _ c.in_ok-rows.ensures (rw c.new.ensures at c.in_err-estimate.ensures.err))

pub returns : goal.returns
returns c =
    let told = rw c.new.ensures at c.in_ok-estimate.ensures.ok in
    let same = told_by (λ cell. cell.now) (λ text. text.now) (λ row. row.items) told.0 _ told.1 ∙ c.in_ok-rows.ensures in
    sizes_told (spanned_grid c.args.config.now) (λ cell. cell.now.now) (line_measure (λ text. text)) 2 (map entry_texts c.args.entries.now) AreSizes _ _ _ _ c.get_values.ensures.widths c.get_values.ensures.heights (told.0, same, told.2)
