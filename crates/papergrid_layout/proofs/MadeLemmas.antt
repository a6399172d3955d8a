-- The table of records by their sizes.
use Rattle.std.proofs.Common.{ℕ, ◌<◌, inl, inr, List, refl, sym, subst, arith}
use Rattle.std.specs.Prelude.{◌^◌, Result, Ok, Err}
use Rattle.papergrid_values.specs.declared.direction.Direction.{Direction}
use Rattle.papergrid_values.specs.declared.direction.Direction.TheVariants.{Columns, Rows}
use Rattle.papergrid_tracks.specs.declared.error.LayoutError.{LayoutError}
use Rattle.papergrid_tracks.specs.declared.error.LayoutError.TheVariants as layout_error
use Rattle.papergrid_config.specs.declared.spanned.SpannedConfig.{SpannedConfig}
use Rattle.papergrid_config.specs.Grids.{spanned_grid}
use Rattle.papergrid_layout.specs.Answers.{AreBothSizes, UnlessMemory}
use Rattle.papergrid_layout.specs.Places.{sized_table, total_along}
use Rattle.papergrid_layout.specs.Tables.{IsTable, IsTableOf, IsTotalTooLarge, TableParts, view_of}
use Rattle.papergrid_tracks.specs.declared.sizing.Sizing.{Sizing}
use Rattle.papergrid_layout.proofs.PlaceLaws.{both-fit, sizes-have-room}

module _ {C : Type 0} (sizing : Sizing) (config : SpannedConfig) (measure : C → ℕ × ℕ) (columns : ℕ) (cells : List (List C)) (widths heights : List ℕ) where
  -- the totals of sizes that are chosen fit
  pub chosen-fit : AreBothSizes (spanned_grid config) measure columns cells sizing widths heights → (direction : Direction) →
      total_along (view_of (record { config = config; widths = widths; heights = heights })) direction < 2 ^ 64
  chosen-fit are direction =
      let have = sizes-have-room sizing (spanned_grid config) measure columns cells widths heights are in
      subst (λ shape. total_along (sized_table (spanned_grid config) widths heights shape) direction < 2 ^ 64)
      (λ k. (sym have.heights.fits.one_each k, sym have.widths.fits.one_each k))
      (both-fit (spanned_grid config) measure columns cells widths heights have direction)

  -- so the table of them is not too large
  pub made : (IsTold : List (List C) → Type 0) → IsTold cells → AreBothSizes (spanned_grid config) measure columns cells sizing widths heights →
      (answer : Result TableParts LayoutError) → IsTable (record { config = config; widths = widths; heights = heights }) answer →
      UnlessMemory answer ((x : List (List C)) × IsTold x × IsTableOf config measure columns x sizing answer)
  made IsTold told are (Ok table) is = (cells, told, rw is.0 (refl, are))
  made IsTold told are (Err (layout_error.OutOfTable p)) is = let e = is.0 in absurd cc
  made IsTold told are (Err layout_error.TooLarge) is = grind (arith, large, chosen-fit)
    where
      large : IsTotalTooLarge (view_of (record { config = config; widths = widths; heights = heights })) → ⊥
      large (inl across) = let fits = chosen-fit are Columns in omega (arith, across, fits)
      large (inr down) = let fits = chosen-fit are Rows in omega (arith, down, fits)
  made IsTold told are (Err (layout_error.Memory e)) is = tt
