-- What is found of a table.
use Rattle.std.specs.Prelude.{◌≡◌, ◌^◌, ◌<◌, ◌⊎◌, ⊤, ℕ, List, Option, None, Some, Result, Ok, Err, true, false}
use Rattle.papergrid_values.specs.declared.direction.Direction.{Direction}
use Rattle.papergrid_values.specs.declared.direction.Direction.TheVariants.{Columns, Rows}
use Rattle.papergrid_values.specs.declared.position.Position.{Position}
use Rattle.papergrid_config.specs.declared.setting.Setting.{Setting}
use Rattle.papergrid_config.specs.declared.spanned.SpannedConfig.{SpannedConfig}
use Rattle.papergrid_config.specs.Grids.{spanned_grid}
use Rattle.papergrid_layout.specs.Certificates.{AreSolutionsBy}
use Rattle.papergrid_layout.specs.Places.{HasPlace, IsFirstOver, Overflows, total_along}
use Rattle.papergrid_layout.specs.Tables.{TableParts, view_of}
use Rattle.papergrid_layout.specs.declared.rect.Place.{Place}
use Rattle.papergrid_tracks.specs.declared.sizing.Sizing.{Sizing}
use Rattle.papergrid_tracks.specs.declared.error.LayoutError.{LayoutError}
use Rattle.papergrid_tracks.specs.declared.error.LayoutError.TheVariants as layout_errors
use Rattle.papergrid_walk.specs.Measures.{text_measure}
use Rattle.papergrid_config.specs.History.{HasSettingHistory}
use Rattle.papergrid_builder.specs.BuilderStates.{FoundTable, longest}
use Rattle.papergrid_builder.specs.declared.error.BuilderError.{BuilderError}
use Rattle.papergrid_builder.specs.declared.error.BuilderError.TheVariants.{Hidden, Memory, NotEstimated, OutOfTable, TooLarge}
use Rattle.papergrid_layout.specs.Answers.{IsBothRefused}

-- the sizes that are chosen so for rows of texts by its configuration, their totals, and what certifies them
abbrev pub AreFoundSizes : List (List (List ℕ)) → Sizing → FoundTable → Type 0
AreFoundSizes rows sizing found = AreSolutionsBy (spanned_grid found.config) text_measure (longest rows) rows sizing found.along

-- the configuration with the sizes that were found
abbrev pub parts_found : FoundTable → TableParts
parts_found found = record { config = found.config; widths = found.along.columns.sizes; heights = found.along.rows.sizes }

-- its total width and its total height, with all lines
abbrev pub totals_of : FoundTable → ℕ × ℕ
totals_of found = (found.along.columns.total, found.along.rows.total)

module _ (settings : List Setting) (rows : List (List (List ℕ))) (sizing : Sizing) where
  -- the same by a configuration that the settings make; the totals are those of the table, and fit
  pub record IsFoundTable (found : FoundTable) : Type 0 where
    pub configured : HasSettingHistory settings found.config
    pub sized : AreFoundSizes rows sizing found
    pub totals : totals_of found ≡ (total_along (view_of (parts_found found)) Columns, total_along (view_of (parts_found found)) Rows)
    pub fit : (direction : Direction) → total_along (view_of (parts_found found)) direction < 2 ^ 64

  -- why there are none
  abbrev pub HasNoSizes : LayoutError → Type 0
  HasNoSizes e = (config : SpannedConfig) × HasSettingHistory settings config × IsBothRefused (spanned_grid config) text_measure (longest rows) rows sizing e

  -- the same of the error that is answered; an allocation may fail
  abbrev pub IsNoFoundTable : BuilderError → Type 0
  IsNoFoundTable (OutOfTable p) = HasNoSizes (layout_errors.OutOfTable p)
  IsNoFoundTable TooLarge = HasNoSizes layout_errors.TooLarge
  IsNoFoundTable Memory = ⊤
  IsNoFoundTable e = ⊥

-- the widths, or the heights
abbrev pub sizes_along : Direction → FoundTable → List ℕ
sizes_along Columns found = found.along.columns.sizes
sizes_along Rows found = found.along.rows.sizes

-- the cells that certify them, if there are such
abbrev pub certificate_along : Direction → FoundTable → Option (List Position)
certificate_along Columns found = found.along.columns.certificate
certificate_along Rows found = found.along.rows.certificate

-- the screen rectangle of the cell at a position, or why it has none: it is hidden, else it overflows the table
abbrev pub IsPlacedBy : TableParts → Position → Result Place BuilderError → Type 0
IsPlacedBy parts p (Ok place) = HasPlace (view_of parts) p place
IsPlacedBy parts p (Err Hidden) = (view_of parts).grid.shows p ≡ false
IsPlacedBy parts p (Err (OutOfTable q)) =
    (q ≡ p) × ((view_of parts).grid.shows p ≡ true) × (Overflows (view_of parts) p Columns ⊎ Overflows (view_of parts) p Rows)
IsPlacedBy parts p (Err Memory) = ⊤
IsPlacedBy parts p (Err e) = ⊥

-- the same of what was found, if something was
abbrev pub IsPlaceAnswer : Option FoundTable → Position → Result Place BuilderError → Type 0
IsPlaceAnswer None p answer = answer ≡ Err NotEstimated
IsPlaceAnswer (Some found) p answer = IsPlacedBy (parts_found found) p answer

-- the first cell, by row and then by column, that stands over a point, or none does
abbrev pub IsCellBy : TableParts → ℕ → ℕ → Result (Option Position) BuilderError → Type 0
IsCellBy parts column line (Ok cell) = IsFirstOver (view_of parts) column line cell
IsCellBy parts column line (Err e) = e ≡ Memory

-- the same of what was found, if something was
abbrev pub IsCellAnswer : Option FoundTable → ℕ → ℕ → Result (Option Position) BuilderError → Type 0
IsCellAnswer None column line answer = answer ≡ Err NotEstimated
IsCellAnswer (Some found) column line answer = IsCellBy (parts_found found) column line answer
