-- The parts of a border table after calls, what is found, and which lines there are.
use Rattle.std.specs.Prelude.{◌≡◌, ℕ, ◌==◌, ◌&&◌, ◌||◌, nat_lt, not, Bool, true, if◌then◌else◌, List, [], ◌∷◌, Option, Some, None, IsSome, ◌⊎◌, option_and_then}
use Rattle.std.specs.Option.{option_or}
use Rattle.papergrid_values.specs.Borders.{frame_with, has_left, has_right, has_top, has_bottom, has_horizontal, has_vertical}
use Rattle.papergrid_values.specs.Positions.{along}
use Rattle.papergrid_values.specs.declared.direction.Direction.{Direction}
use Rattle.papergrid_values.specs.declared.direction.Direction.TheVariants.{Columns, Rows}
use Rattle.papergrid_values.specs.declared.position.Position.{Position}
use Rattle.papergrid_values.specs.declared.border.Border.{Border}
use Rattle.papergrid_values.specs.declared.borders.Borders.{Borders}
use Rattle.papergrid_values.specs.declared.horizontal_line.HorizontalLine.{HorizontalLine}
use Rattle.papergrid_values.specs.declared.vertical_line.VerticalLine.{VerticalLine}
use Rattle.papergrid_tables.specs.BorderCalls.{BorderCall, InsertBorder, RemoveBorder, InsertHorizontalLine, RemoveHorizontalLine, InsertVerticalLine, RemoveVerticalLine, SetBorders, SetGlobal, Clear, below, right_of, is_edge_of, is_corner_of, edge_part, corner_part}

-- the test for the first line, for the last one, or for those between
abbrev pub at_ends : ℕ → ℕ → Bool → Bool → Bool → Bool
at_ends index count first end inner =
    (index == 0 && first) || ((index == count && end) || (nat_lt 0 index && (nat_lt index count && inner)))

-- the parts
pub record BorderParts (T : Type 0) : Type 0 where
  pub global : Option T
  pub frame : Borders T
  pub horizontal_line : ℕ → Option (HorizontalLine T)
  pub vertical_line : ℕ → Option (VerticalLine T)
  pub horizontal_edge : Position → Option T
  pub vertical_edge : Position → Option T
  pub corner : Position → Option T

-- the lines with this one at a number, or with none there
abbrev pub lines_with : {L : Type 0} → ℕ → Option L → (ℕ → Option L) → ℕ → Option L
lines_with n line old k = if n == k then line else old k

module _ {T : Type 0} where
  -- no part is set
  abbrev pub no_parts : BorderParts T
  no_parts = record {
    global = None;
    frame = frame_with None;
    horizontal_line = λ _. None;
    vertical_line = λ _. None;
    horizontal_edge = λ _. None;
    vertical_edge = λ _. None;
    corner = λ _. None;
  }

  -- the parts after a call
  abbrev pub parts_after_call : BorderCall T → BorderParts T → BorderParts T
  parts_after_call (InsertBorder cell b) old = record old {
    horizontal_edge = λ p. option_or (edge_part Rows cell b p) (old.horizontal_edge p);
    vertical_edge = λ p. option_or (edge_part Columns cell b p) (old.vertical_edge p);
    corner = λ p. option_or (corner_part cell b p) (old.corner p);
  }
  parts_after_call (RemoveBorder cell) old = record old {
    horizontal_edge = λ p. if is_edge_of Rows cell p then None else old.horizontal_edge p;
    vertical_edge = λ p. if is_edge_of Columns cell p then None else old.vertical_edge p;
    corner = λ p. if is_corner_of cell p then None else old.corner p;
  }
  parts_after_call (InsertHorizontalLine n line) old =
      record old { horizontal_line = lines_with n (Some line) old.horizontal_line }
  parts_after_call (RemoveHorizontalLine n) old =
      record old { horizontal_line = lines_with n None old.horizontal_line }
  parts_after_call (InsertVerticalLine n line) old =
      record old { vertical_line = lines_with n (Some line) old.vertical_line }
  parts_after_call (RemoveVerticalLine n) old =
      record old { vertical_line = lines_with n None old.vertical_line }
  parts_after_call (SetBorders frame) old = record old { frame = frame }
  parts_after_call (SetGlobal v) old = record old { global = Some v }
  parts_after_call Clear old = no_parts

  -- the parts that the calls leave; the newest call first
  abbrev pub parts_from : List (BorderCall T) → BorderParts T
  parts_from [] = no_parts
  parts_from (call ∷ older) = parts_after_call call (parts_from older)

  -- no edge and no corner of a cell is set
  pub record HasNoCellParts (parts : BorderParts T) : Type 0 where
    pub horizontal_edges : (p : Position) → parts.horizontal_edge p ≡ None
    pub vertical_edges : (p : Position) → parts.vertical_edge p ≡ None
    pub corners : (p : Position) → parts.corner p ≡ None

  -- ---- what is found: the first that is set

  -- of the frame, at column c and at row r of count
  abbrev pub frame_vertical : Borders T → ℕ → ℕ → Option T
  frame_vertical frame c count = if c == count then frame.right else (if c == 0 then frame.left else frame.vertical)

  -- the part of the frame for the horizontal line r of count
  abbrev pub frame_horizontal : Borders T → ℕ → ℕ → Option T
  frame_horizontal frame r count = if r == 0 then frame.top else (if r == count then frame.bottom else frame.horizontal)

  -- the edge, the line's main part, the frame's part, the global value
  abbrev pub found_vertical : BorderParts T → Position → ℕ → Option T
  found_vertical parts p count =
      option_or (parts.vertical_edge p)
      (option_or (option_and_then (λ line. line.main) (parts.vertical_line p.col))
      (option_or (frame_vertical parts.frame p.col count) parts.global))

  -- at a horizontal edge, likewise
  abbrev pub found_horizontal : BorderParts T → Position → ℕ → Option T
  found_horizontal parts p count =
      option_or (parts.horizontal_edge p)
      (option_or (option_and_then (λ line. line.main) (parts.horizontal_line p.row))
      (option_or (frame_horizontal parts.frame p.row count) parts.global))

  -- a part that counts only where the test holds
  abbrev pub only_if : Bool → Option T → Option T
  only_if b part = if b then part else None

  -- the part of a line where others cross it. It is its first end at 0, its last end at the count,
  -- or its crossing where it is at neither
  abbrev pub crossing_part : ℕ → ℕ → Option T → Option T → Option T → Option T
  crossing_part index count first end inner =
      option_or (only_if (index == 0) first)
      (option_or (only_if (index == count) end) (only_if (not (index == 0) && not (index == count)) inner))

  -- the part of a horizontal line at its crossing with the vertical line c
  abbrev pub of_horizontal_line : ℕ → ℕ → HorizontalLine T → Option T
  of_horizontal_line c cols line = crossing_part c cols line.left line.right line.intersection

  -- the part of a vertical line at its crossing with the horizontal line r
  abbrev pub of_vertical_line : ℕ → ℕ → VerticalLine T → Option T
  of_vertical_line r rows line = crossing_part r rows line.top line.bottom line.intersection

  -- the one part of the frame at a crossing
  abbrev pub of_frame : Borders T → Position → ℕ → ℕ → Option T
  of_frame frame p rows cols =
      if p.row == 0 && p.col == 0 then frame.top_left else
      (if p.row == 0 && p.col == cols then frame.top_right else
      (if p.row == rows && p.col == 0 then frame.bottom_left else
      (if p.row == rows && p.col == cols then frame.bottom_right else
      (if p.row == 0 then frame.top_intersection else
      (if p.row == rows then frame.bottom_intersection else
      (if p.col == 0 then frame.left_intersection else
      (if p.col == cols then frame.right_intersection else frame.intersection)))))))

  -- at a crossing: the corner, a part of either line, the part of the frame, the global value
  abbrev pub found_intersection : BorderParts T → Position → ℕ → ℕ → Option T
  found_intersection parts p rows cols =
      option_or (parts.corner p)
      (option_or (option_and_then (of_horizontal_line p.col cols) (parts.horizontal_line p.row))
      (option_or (option_and_then (of_vertical_line p.row rows) (parts.vertical_line p.col))
      (option_or (of_frame parts.frame p rows cols) parts.global)))

  -- the eight parts round a cell
  abbrev pub found_border : BorderParts T → Position → ℕ → ℕ → Border T
  found_border parts p rows cols = record {
    top = found_horizontal parts p rows;
    bottom = found_horizontal parts (below p) rows;
    left = found_vertical parts p cols;
    right = found_vertical parts (right_of p) cols;
    left_top_corner = found_intersection parts p rows cols;
    left_bottom_corner = found_intersection parts (below p) rows cols;
    right_top_corner = found_intersection parts (right_of p) rows cols;
    right_bottom_corner = found_intersection parts (below (right_of p)) rows cols;
  }

  -- ---- which lines there are

  -- a line that ends here has its first end set, or one that ends there its last end
  abbrev pub HasEnd : ℕ → ℕ → Option T → Option T → Type 0
  HasEnd index count first end = ((index ≡ 0) × IsSome first) ⊎ ((index ≡ count) × IsSome end)

  -- one of the lines does
  abbrev pub EndsThere : {L : Type 0} → (ℕ → Option L) → (L → Option T) → (L → Option T) → ℕ → ℕ → Type 0
  EndsThere {L = L} lines first end index count =
      (n : ℕ) × (line : L) × (lines n ≡ Some line) × HasEnd index count (first line) (end line)

  -- something is at a position on the line n of a direction
  abbrev pub StandsOn : Direction → ℕ → (Position → Option T) → Type 0
  StandsOn direction n stored = (p : Position) × (along direction p ≡ n) × IsSome (stored p)

  -- the line n of a direction has an end of a line across, a line, an edge or a corner
  abbrev pub IsSet : Direction → BorderParts T → ℕ → ℕ → Type 0
  IsSet Columns parts n count =
      EndsThere parts.horizontal_line (λ line. line.left) (λ line. line.right) n count
      ⊎ IsSome (parts.vertical_line n)
      ⊎ StandsOn Columns n parts.vertical_edge ⊎ StandsOn Columns n parts.corner
  IsSet Rows parts n count =
      EndsThere parts.vertical_line (λ line. line.top) (λ line. line.bottom) n count
      ⊎ IsSome (parts.horizontal_line n)
      ⊎ StandsOn Rows n parts.horizontal_edge ⊎ StandsOn Rows n parts.corner

  -- whether the frame has a part for the line n of a direction
  abbrev pub in_frame : Direction → Borders T → ℕ → ℕ → Bool
  in_frame Columns f n count = at_ends n count (has_left f) (has_right f) (has_vertical f)
  in_frame Rows f n count = at_ends n count (has_top f) (has_bottom f) (has_horizontal f)

  -- there is a line i of count: the global value, the frame, or one of the above
  abbrev pub HasLine : Direction → BorderParts T → ℕ → ℕ → Type 0
  HasLine direction parts i count =
      IsSome parts.global ⊎ (in_frame direction parts.frame i count ≡ true) ⊎ IsSet direction parts i count
