-- The sizes and the picture of rows of texts that are lent, by what is found of records of them.
use Rattle.std.proofs.Common.{Global, Vec, ◌≡◌, ℕ, List, Result, Ok, Err, IfErr, IfOk, length, map, refl, subst, sym}
use Rattle.papergrid_values.specs.declared.direction.Direction.{Direction}
use Rattle.papergrid_values.specs.declared.per_direction.PerDirection.{PerDirection}
use Rattle.papergrid_values.specs.declared.direction.Direction.TheVariants.{Columns, Rows}
use Rattle.papergrid_config.specs.Grids.{spanned_grid}
use Rattle.papergrid_config.specs.declared.setting.Setting.{Setting}
use Rattle.papergrid_config.specs.declared.spanned.SpannedConfig.{SpannedConfig}
use Rattle.papergrid_walk.specs.Cells.{problem_of}
use Rattle.papergrid_layout.specs.Answers.{AreBothSizes, HoldAlong, IsBothRefused, UnlessMemoryError}
use Rattle.papergrid_tracks.specs.Sizings.{AreSizesBy}
use Rattle.papergrid_layout.specs.Certificates.{IsCertifiedBy, IsSolutionBy, solution_of}
use Rattle.papergrid_layout.specs.Tables.{view_of}
use Rattle.papergrid_tracks.specs.declared.sizing.Sizing.{Sizing}
use Rattle.papergrid_layout.specs.Places.{sized_table, total_along}
use Rattle.papergrid_layout.proofs.PlaceLaws.{totals}
use Rattle.papergrid_maps.specs.Grids.{Grid}
use Rattle.papergrid_tracks.specs.Problem.{Problem}
use Rattle.papergrid_layout.proofs.Told.{problem_told}
use Rattle.papergrid_layout.proofs.TotalLemmas.{room-of}
use Rattle.papergrid_tracks.specs.declared.error.LayoutError.{LayoutError}
use Rattle.papergrid_tracks.specs.declared.error.LayoutError.TheVariants as layout_errors
use Rattle.papergrid_tracks.specs.declared.solution.Solved.{Solved}
use Rattle.papergrid_draw.specs.Drawings.{Drawing}
use Rattle.papergrid_draw.specs.Faults.{IsDrawable}
use Rattle.papergrid_draw.specs.Lined.{lined}
use Rattle.papergrid_walk.specs.Measures.{text_measure}
use Rattle.papergrid_config.specs.History.{HasSettingHistory}
use Rattle.papergrid_draw.specs.declared.error.DrawError.{DrawError}
use Rattle.papergrid_draw.specs.declared.error.DrawError.TheVariants as draw_errors
use Rattle.papergrid_draw.specs.Pictures.{IsDrawingWith, IsFaultWith, Unsized}
use Rattle.papergrid_builder.specs.Errors.{layout_refusal}
use Rattle.papergrid_builder.specs.Layouts.{AreFoundSizes, IsNoFoundTable, parts_found, totals_of}
use Rattle.papergrid_builder.specs.Pictures.{IsDrawingOf, IsNotDrawn}
use Rattle.papergrid_builder.specs.BuilderStates.{FoundTable, longest}
use Rattle.papergrid_builder.specs.ForProofs.Kept.{found_of}
use Rattle.papergrid_builder.specs.ForProofs.Sizes.{IsPictureRefused, IsUnfound, draw_refusal}
use Rattle.papergrid_builder.specs.declared.error.BuilderError.{BuilderError}
use Rattle.papergrid_builder.specs.declared.error.BuilderError.TheVariants as builder_errors

-- of cells that are seen as these texts
module _ {A : Type 0} (view : A → List ℕ) (config : SpannedConfig) (sizing : Sizing) (cells : List (List A)) (rows : List (List (List ℕ)))
    (same : map (map view) cells ≡ rows) (columns : ℕ) (counted : columns ≡ longest rows) where
  along : (direction : Direction) → problem_of (spanned_grid config) (λ x. text_measure (view x)) columns cells direction ≡ problem_of (spanned_grid config) text_measure (longest rows) rows direction
  along direction = subst (λ n. problem_of (spanned_grid config) (λ x. text_measure (view x)) columns cells direction ≡ problem_of (spanned_grid config) text_measure n rows direction) counted
      (problem_told (spanned_grid config) view text_measure cells rows same direction columns)

  -- sizes with what certifies them
  pub found-told : (found : PerDirection Solved) → HoldAlong (spanned_grid config) (λ x. text_measure (view x)) columns cells (IsCertifiedBy sizing) found.columns found.rows →
      AreFoundSizes rows sizing (found_of (record { config = config; along = found }))
  found-told found are = record {
    widths = subst (λ problem. IsSolutionBy sizing problem (solution_of found.columns)) (along Columns) are.widths;
    heights = subst (λ problem. IsSolutionBy sizing problem (solution_of found.rows)) (along Rows) are.heights;
  }

module _ (config : SpannedConfig) (rows : List (List (List ℕ))) (sizing : Sizing) where
  pub unfound-unsized : (e : LayoutError) → UnlessMemoryError e (IsBothRefused (spanned_grid config) text_measure (longest rows) rows sizing e) → IsUnfound config rows sizing (layout_refusal e)
  unfound-unsized (layout_errors.OutOfTable p) are = are
  unfound-unsized layout_errors.TooLarge are = are
  unfound-unsized (layout_errors.Memory e) are = tt

  -- there are no sizes to draw with
  pub undrawn-unsized : (e : LayoutError) → UnlessMemoryError e (IsBothRefused (spanned_grid config) text_measure (longest rows) rows sizing e) → IsPictureRefused config rows sizing (layout_refusal e)
  undrawn-unsized (layout_errors.OutOfTable p) are = Unsized (layout_errors.OutOfTable p) refl are
  undrawn-unsized layout_errors.TooLarge are = Unsized layout_errors.TooLarge refl are
  undrawn-unsized (layout_errors.Memory e) are = tt

  -- there are, and the table was refused, or an allocation failed
  pub undrawn-refused : (e : DrawError) → IsFaultWith (longest rows) rows sizing config e → IsPictureRefused config rows sizing (draw_refusal e)
  undrawn-refused (draw_errors.OutOfTable p) is = is
  undrawn-refused (draw_errors.NotTiled p) is = is
  undrawn-refused draw_errors.TooLarge is = is
  undrawn-refused (draw_errors.NoRoom p) is = tt
  undrawn-refused (draw_errors.Memory e) is = tt
  undrawn-refused draw_errors.Write is = tt

  -- by a configuration that settings make
  module _ (settings : List Setting) (told : HasSettingHistory settings config) where
    pub not-found : (e : BuilderError) → IsUnfound config rows sizing e → IsNoFoundTable settings rows sizing e
    not-found (builder_errors.OutOfTable p) are = (config, told, are)
    not-found builder_errors.TooLarge are = (config, told, are)
    not-found builder_errors.Memory are = tt
    not-found e are = absurd are

    pub not-drawn : (e : BuilderError) → IsPictureRefused config rows sizing e → IsNotDrawn settings rows sizing e
    not-drawn (builder_errors.OutOfTable p) are = (config, told, are)
    not-drawn (builder_errors.NotTiled p) are = (config, told, are)
    not-drawn builder_errors.TooLarge are = (config, told, are)
    not-drawn builder_errors.Memory are = tt
    not-drawn e are = absurd are

    -- the same of an answer
    pub drawn-told : (result : Result (Vec ℕ Global) BuilderError) →
        IfOk result (λ picture. (d : Drawing) × IsDrawingWith (longest rows) rows sizing config d × IsDrawable d × (picture.items ≡ lined d)) →
        IfOk result (λ picture. (d : Drawing) × IsDrawingOf settings rows sizing d × (picture.items ≡ lined d))
    drawn-told (Ok picture) drawn = (drawn.0, ((config, told, drawn.1), drawn.2), drawn.3)
    drawn-told (Err e) drawn = tt

    pub undrawn-told : (result : Result (Vec ℕ Global) BuilderError) → IfErr result (IsPictureRefused config rows sizing) → IfErr result (IsNotDrawn settings rows sizing)
    undrawn-told (Ok picture) undrawn = tt
    undrawn-told (Err e) undrawn = not-drawn e undrawn

-- ---- totals

-- there are as many sizes as tracks
counted : (sizing : Sizing) (problem : Problem) (sizes : List ℕ) → AreSizesBy sizing problem sizes → length sizes ≡ problem.count
counted sizing problem sizes are = (room-of sizing problem sizes are).fits.one_each

-- the totals that are found are those of the table with the sizes that are found
module _ (rows : List (List (List ℕ))) (found : FoundTable) where
  abbrev grid : Grid
  grid = spanned_grid found.config

  abbrev told_total : Direction → ℕ
  told_total direction = total_along (sized_table grid found.along.columns.sizes found.along.rows.sizes (length rows, longest rows)) direction

  by-sizing : (sizing : Sizing) → AreFoundSizes rows sizing found → (found.along.columns.total ≡ told_total Columns) × (found.along.rows.total ≡ told_total Rows)
  by-sizing sizing are =
      let sizes : AreBothSizes grid text_measure (longest rows) rows sizing found.along.columns.sizes found.along.rows.sizes = record { widths = are.widths.sizes; heights = are.heights.sizes } in
      let is = totals sizing grid text_measure (longest rows) rows found.along.columns.sizes found.along.rows.sizes sizes in (
        (is Columns found.along.columns.total).0 (record { sizes = found.along.columns.sizes; are_sizes = are.widths.sizes; adds_up = are.widths.total }),
        (is Rows found.along.rows.total).0 (record { sizes = found.along.rows.sizes; are_sizes = are.heights.sizes; adds_up = are.heights.total }),
      )

  pub totals-found : (sizing : Sizing) → AreFoundSizes rows sizing found →
      totals_of found ≡ (total_along (view_of (parts_found found)) Columns, total_along (view_of (parts_found found)) Rows)
  totals-found sizing are =
      let both = by-sizing sizing are in
      let wide = counted sizing (problem_of grid text_measure (longest rows) rows Columns) found.along.columns.sizes are.widths.sizes in
      let high = counted sizing (problem_of grid text_measure (longest rows) rows Rows) found.along.rows.sizes are.heights.sizes in
      subst (λ shape. totals_of found ≡ (
        total_along (sized_table grid found.along.columns.sizes found.along.rows.sizes shape) Columns,
        total_along (sized_table grid found.along.columns.sizes found.along.rows.sizes shape) Rows,
      )) (λ k. (sym high k, sym wide k)) (λ i. (both.0 i, both.1 i))
