-- A table as one value, and how it is made.
use Rattle.std.specs.Prelude.{◌≡◌, ◌^◌, ◌≤◌, ◌<◌, ◌⊎◌, ◌&&◌, nat_le, if◌then◌else◌, ℕ, List, length, Option, None, Some, Result, Ok, Err}
use Rattle.papergrid_values.specs.declared.direction.Direction.{Direction}
use Rattle.papergrid_values.specs.declared.direction.Direction.TheVariants.{Columns, Rows}
use Rattle.papergrid_tracks.specs.declared.error.LayoutError.{LayoutError}
use Rattle.papergrid_tracks.specs.declared.error.LayoutError.TheVariants as layout_error
use Rattle.papergrid_config.specs.declared.spanned.SpannedConfig.{SpannedConfig}
use Rattle.papergrid_config.specs.Grids.{spanned_grid}
use Rattle.papergrid_layout.specs.Answers.{AreBothSizes, IsBothRefused, UnlessMemoryError}
use Rattle.papergrid_layout.specs.Places.{TableView, line_offset, sized_table, total_along, track_count, track_line, track_size}
use Rattle.papergrid_tracks.specs.declared.sizing.Sizing.{Sizing}

-- a configuration, with the width of each column and the height of each row
pub record TableParts : Type 0 where
  pub config : SpannedConfig
  pub widths : List ℕ
  pub heights : List ℕ

-- what is read of it: it has as many columns and rows as there are widths and heights
abbrev pub view_of : TableParts → TableView
view_of t = sized_table (spanned_grid t.config) t.widths t.heights (length t.heights, length t.widths)

-- a total is past the greatest `usize`
abbrev pub IsTotalTooLarge : TableView → Type 0
IsTotalTooLarge table = (2 ^ 64 ≤ total_along table Columns) ⊎ (2 ^ 64 ≤ total_along table Rows)

-- the table of these parts, or their totals are too large
abbrev pub IsTable : TableParts → Result TableParts LayoutError → Type 0
IsTable parts (Ok table) = (table ≡ parts) × ((direction : Direction) → total_along (view_of parts) direction < 2 ^ 64)
IsTable parts (Err e) = UnlessMemoryError e ((e ≡ layout_error.TooLarge) × IsTotalTooLarge (view_of parts))

module _ {C : Type 0} (config : SpannedConfig) (measure : C → ℕ × ℕ) (columns : ℕ) (cells : List (List C)) where
  -- the table of these cells by the configuration, or why there is none
  abbrev pub IsTableOf : Sizing → Result TableParts LayoutError → Type 0
  IsTableOf sizing (Ok table) = (table.config ≡ config) × AreBothSizes (spanned_grid config) measure columns cells sizing table.widths table.heights
  IsTableOf sizing (Err e) = IsBothRefused (spanned_grid config) measure columns cells sizing e

-- where a line stands: that before a track, or at their count after the last, if it is drawn
abbrev pub line_position : TableView → Direction → ℕ → Option ℕ
line_position table direction i =
    if nat_le i (track_count table direction) && track_line table direction i
    then Some (line_offset (track_size table direction) (track_line table direction) i) else None

-- there is a size for each of so many tracks
abbrev pub HasSizes : (ℕ → Type 0) → ℕ → Type 0
HasSizes has count = (track : ℕ) → track < count → has track

-- there is a width for the column, or a height for the row
abbrev pub has_along : (ℕ → Type 0) → (ℕ → Type 0) → Direction → ℕ → Type 0
has_along columns rows Columns = columns
has_along columns rows Rows = rows
