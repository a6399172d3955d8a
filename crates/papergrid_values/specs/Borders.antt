-- The parts of a cell's border and of a table's frame, and their queries.
use Rattle.std.specs.Prelude.{Bool, List, [], ◌∷◌, Option}
use Rattle.papergrid_values.specs.declared.border.Border.{Border}
use Rattle.papergrid_values.specs.declared.borders.Borders.{Borders}
use Rattle.papergrid_values.specs.Parts.{any_set}

-- the eight parts of a border, in the order of the fields
abbrev pub border_parts : {T : Type 0} → Border T → List (Option T)
border_parts b =
    b.top ∷ b.bottom ∷ b.left ∷ b.right
    ∷ b.left_top_corner ∷ b.left_bottom_corner ∷ b.right_top_corner ∷ b.right_bottom_corner ∷ []

-- the fifteen parts of a frame, in the order of the fields
abbrev pub frame_parts : {T : Type 0} → Borders T → List (Option T)
frame_parts f =
    f.top ∷ f.top_left ∷ f.top_right ∷ f.top_intersection
    ∷ f.bottom ∷ f.bottom_left ∷ f.bottom_right ∷ f.bottom_intersection
    ∷ f.horizontal ∷ f.vertical ∷ f.intersection
    ∷ f.left ∷ f.left_intersection ∷ f.right ∷ f.right_intersection ∷ []

-- the frame with the same part everywhere
abbrev pub frame_with : {T : Type 0} → Option T → Borders T
frame_with part = record {
  top = part;
  top_left = part;
  top_right = part;
  top_intersection = part;
  bottom = part;
  bottom_left = part;
  bottom_right = part;
  bottom_intersection = part;
  horizontal = part;
  vertical = part;
  intersection = part;
  left = part;
  left_intersection = part;
  right = part;
  right_intersection = part;
}

-- whether a frame has something on a side of the table
abbrev pub has_left : {T : Type 0} → Borders T → Bool
has_left f = any_set (f.left ∷ f.left_intersection ∷ f.top_left ∷ f.bottom_left ∷ [])

-- at the right
abbrev pub has_right : {T : Type 0} → Borders T → Bool
has_right f = any_set (f.right ∷ f.right_intersection ∷ f.top_right ∷ f.bottom_right ∷ [])

-- at the top
abbrev pub has_top : {T : Type 0} → Borders T → Bool
has_top f = any_set (f.top ∷ f.top_intersection ∷ f.top_left ∷ f.top_right ∷ [])

-- at the bottom
abbrev pub has_bottom : {T : Type 0} → Borders T → Bool
has_bottom f = any_set (f.bottom ∷ f.bottom_intersection ∷ f.bottom_left ∷ f.bottom_right ∷ [])

-- whether a frame has something between rows, or between columns
abbrev pub has_horizontal : {T : Type 0} → Borders T → Bool
has_horizontal f =
    any_set (f.horizontal ∷ f.left_intersection ∷ f.right_intersection ∷ f.intersection ∷ [])

-- something between columns
abbrev pub has_vertical : {T : Type 0} → Borders T → Bool
has_vertical f =
    any_set (f.vertical ∷ f.top_intersection ∷ f.bottom_intersection ∷ f.intersection ∷ [])
