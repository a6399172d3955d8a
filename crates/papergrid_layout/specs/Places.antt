-- Where cells stand in their table as it is printed. They stand in columns of a terminal from the table's left edge on,
-- in lines from its top on.
use Rattle.std.specs.Prelude.{◌≡◌, ℕ, ◌+◌, ◌-◌, ◌^◌, ◌<◌, ◌≤◌, ◌⊎◌, ⊤, All, AllPairs, Bool, true, false, Contains, List, None, Option, Some, slice_index, sum_by, count_by, Result, Ok, Err}
use Rattle.std.specs.List.{range_with_len}
use Rattle.papergrid_values.specs.declared.position.Position.{Position}
use Rattle.papergrid_values.specs.declared.direction.Direction.{Direction}
use Rattle.papergrid_values.specs.declared.direction.Direction.TheVariants.{Columns, Rows}
use Rattle.papergrid_values.specs.Positions.{IsBefore, along}
use Rattle.papergrid_tracks.specs.declared.error.LayoutError.{LayoutError}
use Rattle.papergrid_tracks.specs.declared.error.LayoutError.TheVariants as layout_error
use Rattle.papergrid_values.specs.Lines.{all_lines}
use Rattle.papergrid_maps.specs.Spans.{IsInRectangle}
use Rattle.papergrid_walk.specs.Cells.{count_along, side}
use Rattle.papergrid_maps.specs.Grids.{Grid}
use Rattle.papergrid_config.specs.Grids.{spanned_grid}
use Rattle.papergrid_config.specs.declared.spanned.SpannedConfig.{SpannedConfig}
use Rattle.papergrid_layout.specs.declared.rect.Place.{Place}
use Rattle.papergrid_layout.specs.declared.rect.PlaceError.{PlaceError}
use Rattle.papergrid_layout.specs.declared.rect.PlaceError.TheVariants.{Hidden, OutOfTable, TooLarge}

-- the sizes of so many tracks from track s on, added up
abbrev pub sum_from : (ℕ → ℕ) → ℕ → ℕ → ℕ
sum_from size s many = sum_by size (range_with_len s many)

module _ (size : ℕ → ℕ) (line : ℕ → Bool) where
  -- where track s begins: after the sizes of those before it and the lines at 0, 1 and so on up to s
  abbrev pub offset : ℕ → ℕ
  offset s = sum_from size 0 s + all_lines line s

  -- how long a range of n from track s on is: their sizes, and the lines strictly inside of the range
  abbrev pub extent : ℕ → ℕ → ℕ
  extent s n = sum_from size s n + count_by line (range_with_len (s + 1) (n - 1))

  -- how long all are, of which there are so many: their sizes and all lines
  abbrev pub total : ℕ → ℕ
  total count = sum_from size 0 count + all_lines line count

  -- where the line at i stands, if it is drawn: after the sizes and the lines before it
  abbrev pub line_offset : ℕ → ℕ
  line_offset i = sum_from size 0 i + count_by line (range_with_len 0 i)

  -- of so many, track i covers a point
  abbrev pub IsInTrack : ℕ → ℕ → ℕ → Type 0
  IsInTrack count x i = (i < count) × (offset i ≤ x) × (x < offset i + size i)

  -- the number that covers a point, or none does
  abbrev pub IsTrackAt : ℕ → ℕ → Option ℕ → Type 0
  IsTrackAt count x None = (i : ℕ) → IsInTrack count x i → ⊥
  IsTrackAt count x (Some i) = IsInTrack count x i

-- the total, or too large where it is past the greatest `usize`
abbrev pub IsTotalOf : ℕ → Result ℕ LayoutError → Type 0
IsTotalOf total (Ok answer) = answer ≡ total
IsTotalOf total (Err e) = (e ≡ layout_error.TooLarge) × (2 ^ 64 ≤ total)

-- the widths along columns, the heights along rows
abbrev pub size_along : (ℕ → ℕ) → (ℕ → ℕ) → Direction → ℕ → ℕ
size_along widths heights Columns = widths
size_along widths heights Rows = heights

-- the screen rectangle covers column x of the terminal in line y
pub record Covers (place : Place) (x y : ℕ) : Type 0 where
  pub after_left : place.left ≤ x
  pub before_right : x < place.left + place.width
  pub below_top : place.top ≤ y
  pub above_bottom : y < place.top + place.height

-- a table: what is read of its configuration, its widths and heights, and its shape (rows, columns)
pub record TableView : Type 0 where
  pub grid : Grid
  pub widths : ℕ → ℕ
  pub heights : ℕ → ℕ
  pub shape : ℕ × ℕ

-- the table of these
abbrev pub table_view_of : Grid → (ℕ → ℕ) → (ℕ → ℕ) → ℕ × ℕ → TableView
table_view_of grid widths heights shape = record { grid = grid; widths = widths; heights = heights; shape = shape }

-- by a configuration
abbrev pub table_by : SpannedConfig → (ℕ → ℕ) → (ℕ → ℕ) → ℕ × ℕ → TableView
table_by config = table_view_of (spanned_grid config)

-- with sizes as lists
abbrev pub sized_table : Grid → List ℕ → List ℕ → ℕ × ℕ → TableView
sized_table grid widths heights = table_view_of grid (slice_index widths) (slice_index heights)

module _ (table : TableView) where
  -- how many tracks of a direction it has: columns, or rows
  abbrev pub track_count : Direction → ℕ
  track_count direction = count_along direction table.shape.1 table.shape.0

  -- the widths of its columns (the heights of its rows)
  abbrev pub track_size : Direction → ℕ → ℕ
  track_size direction = size_along table.widths table.heights direction

  -- where lines are drawn
  abbrev pub track_line : Direction → ℕ → Bool
  track_line direction = table.grid.draws direction (track_count direction)

  -- its total along a direction
  abbrev pub total_along : Direction → ℕ
  total_along direction = total (track_size direction) (track_line direction) (track_count direction)

  -- where the cell at a position begins along a direction
  abbrev pub begin_along : Direction → Position → ℕ
  begin_along direction p = offset (track_size direction) (track_line direction) (along direction p)

  -- how long it is
  abbrev pub length_along : Direction → Position → ℕ
  length_along direction p = extent (track_size direction) (track_line direction) (along direction p) (table.grid.span direction p)

  -- its screen rectangle
  abbrev pub place_at : Position → Place
  place_at p = record {
    left = begin_along Columns p;
    top = begin_along Rows p;
    width = length_along Columns p;
    height = length_along Rows p;
  }

  -- a screen rectangle ends within both totals
  abbrev pub EndsWithin : Place → Type 0
  EndsWithin place = (place.left + place.width ≤ total_along Columns) × (place.top + place.height ≤ total_along Rows)

  -- its range ends past the last track
  abbrev pub Overflows : Position → Direction → Type 0
  Overflows p direction = track_count direction < along direction p + table.grid.span direction p

  -- it is visible, and overflows the table in neither direction
  pub record IsInsideTable (p : Position) : Type 0 where
    pub visible : table.grid.shows p ≡ true
    pub across : p.col + table.grid.span Columns p ≤ table.shape.1
    pub down : p.row + table.grid.span Rows p ≤ table.shape.0

  -- it has this screen rectangle, in a table whose totals fit
  pub record HasPlace (p : Position) (place : Place) : Type 0 where
    pub inside : IsInsideTable p
    pub fit : (direction : Direction) → total_along direction < 2 ^ 64
    pub exact : place ≡ place_at p

  -- its screen rectangle, or why it has none. It is hidden, else it overflows the table, else a
  -- total is past the greatest `usize`
  abbrev pub IsPlaced : Position → Result Place PlaceError → Type 0
  IsPlaced p (Ok place) = HasPlace p place
  IsPlaced p (Err Hidden) = table.grid.shows p ≡ false
  IsPlaced p (Err OutOfTable) = (table.grid.shows p ≡ true) × (Overflows p Columns ⊎ Overflows p Rows)
  IsPlaced p (Err TooLarge) = IsInsideTable p × ((2 ^ 64 ≤ total_along Columns) ⊎ (2 ^ 64 ≤ total_along Rows))

  -- a visible position of the table
  pub record IsVisibleCell (p : Position) : Type 0 where
    pub visible : table.grid.shows p ≡ true
    pub row_in : p.row < table.shape.0
    pub col_in : p.col < table.shape.1

  -- all visible positions of the table with their screen rectangles, by row and then by column
  pub record HaveAllPlaces (list : List (Position × Place)) : Type 0 where
    pub in_order : AllPairs (λ x y. IsBefore x.0 y.0) list
    pub placed : All (λ x. HasPlace x.0 x.1) list
    pub complete : (p : Position) → IsVisibleCell p → (place : Place) × Contains list (p, place)

  -- the first visible position of the table that has no screen rectangle, and why it has none
  pub record IsFirstRefused (p : Position) (error : PlaceError) : Type 0 where
    pub is_cell : IsVisibleCell p
    pub refused : IsPlaced p (Err error)
    pub earlier : (q : Position) → IsVisibleCell q → IsBefore q p → (place : Place) × HasPlace q place

  -- why the visible positions have no screen rectangles: the first that has none decides; an allocation may fail in place
  -- of any answer
  abbrev pub ArePlacesRefused : LayoutError → Type 0
  ArePlacesRefused (layout_error.OutOfTable p) = IsFirstRefused p OutOfTable
  ArePlacesRefused layout_error.TooLarge = (p : Position) × IsFirstRefused p TooLarge
  ArePlacesRefused (layout_error.Memory e) = ⊤

  -- the cell at a position has a screen rectangle, and that covers column x of the terminal in line y
  pub record StandsOver (x y : ℕ) (p : Position) : Type 0 where
    pub placed : HasPlace p (place_at p)
    pub covers : Covers (place_at p) x y

  -- the first position, by row and then by column, whose cell does, or none
  abbrev pub IsFirstOver : ℕ → ℕ → Option Position → Type 0
  IsFirstOver x y None = (p : Position) → StandsOver x y p → ⊥
  IsFirstOver x y (Some p) = StandsOver x y p × ((q : Position) → StandsOver x y q → IsBefore q p → ⊥)

-- no column of the terminal in a line is covered by both
abbrev pub DoNotMeet : Place → Place → Type 0
DoNotMeet a b = (x y : ℕ) → Covers a x y → Covers b x y → ⊥

-- no position lies in the rectangles of both cells
abbrev pub HaveNoneInCommon : Grid → Position → Position → Type 0
HaveNoneInCommon grid p q =
    (r : Position) → IsInRectangle grid.span p r → IsInRectangle grid.span q r → ⊥

-- the cell has a screen rectangle, which is at least as wide and as high as its measure with its paddings
pub record HasRoomAtPlace {C : Type 0} (table : TableView) (measure : C → ℕ × ℕ) (cell : Position × C) : Type 0 where
  pub place : Place
  pub is_placed : IsPlaced table cell.0 (Ok place)
  pub wide_enough : side Columns (measure cell.1) + table.grid.before Columns cell.0 + table.grid.after Columns cell.0 ≤ place.width
  pub high_enough : side Rows (measure cell.1) + table.grid.before Rows cell.0 + table.grid.after Rows cell.0 ≤ place.height
