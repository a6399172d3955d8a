-- What a ruler asks of its dimension, and what it reads of it and of its settings.
use Rattle.std.specs.Prelude.{ℕ, Bool}
use Rattle.papergrid_maps.specs.Grids.{Grid}
use Rattle.papergrid_layout.specs.Places.{size_along, total}
use Rattle.papergrid_layout.specs.Tables.{HasSizes, has_along}
use Rattle.papergrid_layout.specs.declared.ruler.Ruler.{Ruler}

-- the dimension has a size for the track
abbrev pub has_track : {D S : Type 0} → (D → ℕ → Type 0) → (D → ℕ → Type 0) → Ruler D S → ℕ → Type 0
has_track has_column has_row ruler = has_along (has_column ruler.dimension.now) (has_row ruler.dimension.now) ruler.direction

-- for each of them
abbrev pub HasTracks : {D S : Type 0} → (D → ℕ → Type 0) → (D → ℕ → Type 0) → Ruler D S → Type 0
HasTracks has_column has_row ruler = HasSizes (has_track has_column has_row ruler) ruler.count

-- the size of a track
abbrev pub ruler_size : {D S : Type 0} → (D → ℕ → ℕ) → (D → ℕ → ℕ) → Ruler D S → ℕ → ℕ
ruler_size width_of height_of ruler = size_along (width_of ruler.dimension.now) (height_of ruler.dimension.now) ruler.direction

-- whether there is a line before it, or after the last
abbrev pub ruler_line : {D S : Type 0} → (S → Grid) → Ruler D S → ℕ → Bool
ruler_line grid ruler = (grid ruler.settings.now).draws ruler.direction ruler.count

-- all sizes and lines, added up
abbrev pub ruler_total : {D S : Type 0} → (D → ℕ → ℕ) → (D → ℕ → ℕ) → (S → Grid) → Ruler D S → ℕ
ruler_total width_of height_of grid ruler = total (ruler_size width_of height_of ruler) (ruler_line grid ruler) ruler.count
