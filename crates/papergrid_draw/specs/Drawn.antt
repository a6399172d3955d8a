-- The lines of a drawn table, and the pieces of each.
use Rattle.std.specs.Prelude.{ℕ, ◌+◌, ◌-◌, ◌==◌, ◌&&◌, nat_lt, not, Bool, if◌then◌else◌, List, [], ◌∷◌, ◌++◌, Option, Some, None, map}
use Rattle.std.specs.List.{flat_map, range_with_len}
use Rattle.std.specs.Option.{option_eq}
use Rattle.papergrid_values.specs.Positions.{position_of}
use Rattle.papergrid_values.specs.declared.direction.Direction.TheVariants.{Columns, Rows}
use Rattle.papergrid_values.specs.declared.position.Position.{Position}
use Rattle.papergrid_values.specs.MapKeys.{position_eq}
use Rattle.papergrid_layout.specs.Places.{begin_along, line_offset, track_line, track_size}
use Rattle.papergrid_draw.specs.Characters.{Mark, crossing, segment, vertical}
use Rattle.papergrid_draw.specs.Contents.{block_at, content}
use Rattle.papergrid_draw.specs.Drawings.{Drawing, layout_of}
use Rattle.papergrid_draw.specs.Pieces.{Piece}
use Rattle.papergrid_draw.specs.Tiles.{owner}

-- a stretch of a horizontal line: a piece of the line, or the line of a cell that stands over it
pub data Stretch : Type 0 where
  OnLine : Mark → Stretch
  Over : List Piece → Stretch

-- a line of the table: of a row, or between rows
pub data DrawnLine : Type 0 where
  TextLine : List Piece → DrawnLine
  RuleLine : List Stretch → DrawnLine

module _ (d : Drawing) where
  -- whether there is a vertical line before column j, or after the last
  abbrev pub draws_vertical : ℕ → Bool
  draws_vertical j = track_line (layout_of d) Columns j

  -- whether there is a horizontal line before row i, or after the last
  abbrev pub draws_horizontal : ℕ → Bool
  draws_horizontal i = track_line (layout_of d) Rows i

  -- the owner of a position
  abbrev pub owner_at : ℕ → ℕ → Option Position
  owner_at r c = owner (layout_of d) (position_of (r, c))

  -- what stands in line y of the table of the owner's place, if that begins in column c
  abbrev pub content_from : Option Position → ℕ → ℕ → Option (List Piece)
  content_from None c y = None
  content_from (Some o) c y =
      if o.col == c then Some (content (block_at d o) (y - begin_along (layout_of d) Rows o)) else None

  -- the vertical line before column j in line k of row r, if there is one
  abbrev pub vertical_pieces : ℕ → ℕ → ℕ → List Piece
  vertical_pieces r j k =
      if draws_vertical j then vertical d.config d.shape (position_of (r, j)) (d.heights r) k ∷ [] else []

  -- the pieces of a cell, after these; nothing where there is no cell
  abbrev pub after_these : List Piece → Option (List Piece) → List Piece
  after_these front None = []
  after_these front (Some pieces) = front ++ pieces

  -- column c in line k of row r: the cell that begins there, after the line before it; nothing where none does
  abbrev pub column_pieces : ℕ → ℕ → ℕ → List Piece
  column_pieces r k c =
      after_these (vertical_pieces r c k)
      (content_from (owner_at r c) c (begin_along (layout_of d) Rows (position_of (r, c)) + k))

  -- line k of row r
  abbrev pub text_line : ℕ → ℕ → List Piece
  text_line r k = flat_map (column_pieces r k) (range_with_len 0 d.shape.1) ++ vertical_pieces r d.shape.1 k

  -- whether one cell stands over line i in column c: it owns the positions above and below
  abbrev pub stands_over : ℕ → ℕ → Bool
  stands_over i c = nat_lt 0 i && (nat_lt i d.shape.0
      && option_eq position_eq (owner_at (i - 1) c) (owner_at i c))

  -- whether one cell stands over the crossing of lines i and j: it owns the positions on both sides of both
  abbrev pub stands_over_crossing : ℕ → ℕ → Bool
  stands_over_crossing i j = nat_lt 0 i && (nat_lt i d.shape.0 && (nat_lt 0 j && (nat_lt j d.shape.1
      && option_eq position_eq (owner_at (i - 1) (j - 1)) (owner_at i j))))

  -- where the lines i and j cross, if line j is there and no cell stands over it
  abbrev pub crossing_stretch : ℕ → ℕ → List Stretch
  crossing_stretch i j =
      if draws_vertical j && not (stands_over_crossing i j) then OnLine (crossing d.config d.shape (position_of (i, j))) ∷ [] else []

  -- the line of a cell that stands over a horizontal line, if it begins here
  abbrev pub over_line : Option (List Piece) → List Stretch
  over_line None = []
  over_line (Some pieces) = Over pieces ∷ []

  -- line i in column c: the cell that stands over it, or the line
  abbrev pub column_stretch : ℕ → ℕ → List Stretch
  column_stretch i c =
      if stands_over i c
      then over_line (content_from (owner_at i c) c (line_offset (track_size (layout_of d) Rows) (track_line (layout_of d) Rows) i))
      else map OnLine (segment d.config d.shape (position_of (i, c)) (d.widths c))

  -- line i: before row i, or after the last
  abbrev pub rule_line : ℕ → List Stretch
  rule_line i =
      flat_map (λ c. crossing_stretch i c ++ column_stretch i c) (range_with_len 0 d.shape.1)
      ++ crossing_stretch i d.shape.1

  -- the horizontal line i, if there is one
  abbrev pub rule_lines : ℕ → List DrawnLine
  rule_lines i = if draws_horizontal i then RuleLine (rule_line i) ∷ [] else []

  -- row r: the line before it, and its lines
  abbrev pub row_lines : ℕ → List DrawnLine
  row_lines r = rule_lines r ++ map (λ k. TextLine (text_line r k)) (range_with_len 0 (d.heights r))

  -- all lines, from the top
  abbrev pub drawn_lines : List DrawnLine
  drawn_lines = flat_map row_lines (range_with_len 0 d.shape.0) ++ rule_lines d.shape.0
