-- What a configuration with a script's settings as its history is estimated to, over the script's rows.
use Rattle.std.proofs.Common.{◌≡◌, ℕ, List, map, ap, subst, ◌∙◌, arith}
use Rattle.std.specs.Prelude.{Result}
use Rattle.std.specs.Borrow.{Bor}
use Rattle.papergrid_text.proofs.RowSteps.{told_by}
use Rattle.papergrid_values.specs.declared.per_direction.PerDirection.{PerDirection}
use Rattle.papergrid_tracks.specs.declared.error.LayoutError.{LayoutError}
use Rattle.papergrid_tracks.specs.declared.solution.Solved.{Solved}
use Rattle.papergrid_config.specs.History.{HasSettingHistory}
use Rattle.papergrid_config.specs.declared.spanned.SpannedConfig.{SpannedConfig}
use Rattle.papergrid_config.specs.Grids.{spanned_grid}
use Rattle.papergrid_walk.specs.Measures.{line_measure}
use Rattle.papergrid_script.specs.Estimates.{Estimate, IsEstimate, IsEstimateBy}
use Rattle.papergrid_walk.specs.Measures.{text_measure}
use Rattle.papergrid_config.proofs.Made.{grid_of}
use Rattle.papergrid_script.specs.Seen.{rows_seen, table_seen}
use Rattle.papergrid_script.specs.Settings.{setting_told}
use Rattle.papergrid_script.specs.ForProofs.Sized.{GivesEstimate}
use Rattle.papergrid_tracks.specs.declared.sizing.Sizing.{Sizing}
use Rattle.papergrid_script.specs.declared.script.Script.{Script}
use Rattle.papergrid_script.proofs.EstimateLemmas.{estimate_told, gives_also}
use Rattle.papergrid_config.proofs.SettingGridLemmas.{grid_told, is-grid}

-- what is estimated of the cells that the records yield, by the configuration, is estimated of the script's table
seen : {A : Type 0} (view : A → Bor (List ℕ)) (script : Script) (config : SpannedConfig) (cells : List (List A)) (rows : List (Bor (List (Bor (List ℕ))))) (columns : ℕ) (sizing : Sizing) (e : Estimate)
    → HasSettingHistory (map setting_told script.settings.items) config → map (map view) cells ≡ map (λ row. row.now) rows → rows ≡ script.rows.items → columns ≡ script.columns
    → IsEstimateBy (spanned_grid config) (line_measure (λ cell. (view cell).now)) columns cells sizing e → IsEstimate sizing (table_seen script) e
seen view script config cells rows columns sizing e told tells same_rows same_columns is =
    let texts = told_by view (λ text. text.now) (λ row. row.now) cells script.rows.items (tells ∙ ap (map (λ row. row.now)) same_rows) in
    let by_settings = subst (λ grid. IsEstimateBy grid (line_measure (λ cell. (view cell).now)) columns cells sizing e) (grid_told (map setting_told script.settings.items) config told) is in
    let by_columns = subst (λ n. IsEstimateBy (grid_of (map setting_told script.settings.items)) (line_measure (λ cell. (view cell).now)) n cells sizing e) same_columns by_settings in (
      grid_of (map setting_told script.settings.items),
      is-grid (map setting_told script.settings.items),
      estimate_told (grid_of (map setting_told script.settings.items)) (λ cell. (view cell).now) text_measure script.columns cells (rows_seen script.rows.items) texts sizing e by_columns,
    )

-- so whatever is estimated of records whose cells are the script's is estimated of its table
pub gives_seen : {A : Type 0} (view : A → Bor (List ℕ)) (script : Script) (config : SpannedConfig) (rows : List (Bor (List (Bor (List ℕ))))) (columns : ℕ) (sizing : Sizing) (result : Result (PerDirection Solved) LayoutError)
    → HasSettingHistory (map setting_told script.settings.items) config → rows ≡ script.rows.items → columns ≡ script.columns
    → GivesEstimate result (λ e. (cells : List (List A)) × (map (map view) cells ≡ map (λ row. row.now) rows) × IsEstimateBy (spanned_grid config) (line_measure (λ cell. (view cell).now)) columns cells sizing e)
    → GivesEstimate result (IsEstimate sizing (table_seen script))
gives_seen view script config rows columns sizing result told same_rows same_columns gave = grind (arith, gives_also, seen)
