-- The values that settings are made of, as JSON tells them.
use Rattle.std.specs.Prelude.{ℕ, Bool, ◌&&◌, ◌||◌, if◌then◌else◌, List, [], ◌∷◌, Option, Some, None, option_and_then, option_map, is_some, unwrap_or, codes, bytes_eq, ◌==◌, true, false}
use Rattle.std.specs.Option.{option_zip}
use Rattle.serde_json.specs.Data.{Data, Members, no_members, member}
use Rattle.serde_json.specs.Find.{as_null, as_object}
use Rattle.papergrid_values.specs.declared.alignment.AlignmentHorizontal.{AlignmentHorizontal}
use Rattle.papergrid_values.specs.declared.alignment.AlignmentHorizontal.TheVariants as horizontal
use Rattle.papergrid_values.specs.declared.alignment.AlignmentVertical.{AlignmentVertical}
use Rattle.papergrid_values.specs.declared.alignment.AlignmentVertical.TheVariants as vertical
use Rattle.papergrid_values.specs.declared.border.Border.{Border}
use Rattle.papergrid_values.specs.declared.borders.Borders.{Borders}
use Rattle.papergrid_values.specs.declared.entity.Entity.{Entity}
use Rattle.papergrid_values.specs.declared.entity.Entity.TheVariants.{Global, Column, Row, Cell}
use Rattle.papergrid_values.specs.declared.horizontal_line.HorizontalLine.{HorizontalLine}
use Rattle.papergrid_values.specs.declared.indent.Indent.{Indent}
use Rattle.papergrid_values.specs.declared.offset.Offset.{Offset}
use Rattle.papergrid_values.specs.declared.offset.Offset.TheVariants.{Start, End}
use Rattle.papergrid_values.specs.declared.position.Position.{Position}
use Rattle.papergrid_values.specs.declared.sides.Sides.{Sides}
use Rattle.papergrid_values.specs.declared.vertical_line.VerticalLine.{VerticalLine}
use Rattle.papergrid_json.specs.Spots.{character_at, is_list_of, item_at, member_at, number_at, optional, two_numbers_at, text_at, when, word_at}

-- what two values tell, together
abbrev pub of_both : {A B C : Type 0} → (A → B → C) → Option A → Option B → Option C
of_both make first second = option_map (λ told. make told.0 told.1) (option_zip first second)

-- [row, column]
unfoldable pub position_at : Option Data → Option Position
position_at here = option_map (λ told. record { row = told.0; col = told.1 }) (two_numbers_at here)

-- the entity of a word, and of as many values behind it
abbrev pub entity_by_word : Option Data → List ℕ × ℕ → Option Entity
entity_by_word here word =
    if bytes_eq word.0 (codes "Global") && word.1 == 0 then Some Global
    else if bytes_eq word.0 (codes "Column") && word.1 == 1 then option_map Column (number_at (item_at 1 here))
    else if bytes_eq word.0 (codes "Row") && word.1 == 1 then option_map Row (number_at (item_at 1 here))
    else if bytes_eq word.0 (codes "Cell") && word.1 == 2 then of_both Cell (number_at (item_at 1 here)) (number_at (item_at 2 here))
    else None

-- the entity that stands there
unfoldable pub entity_at : Option Data → Option Entity
entity_at here = option_and_then (entity_by_word here) (word_at here)

-- a horizontal alignment by its word
abbrev pub horizontal_by_word : List ℕ → Option AlignmentHorizontal
horizontal_by_word word =
    if bytes_eq word (codes "Left") then Some horizontal.Left
    else if bytes_eq word (codes "Center") then Some horizontal.Center
    else if bytes_eq word (codes "Right") then Some horizontal.Right
    else None

-- the same that stands there
unfoldable pub horizontal_at : Option Data → Option AlignmentHorizontal
horizontal_at here = option_and_then horizontal_by_word (text_at here)

-- a vertical alignment by its word
abbrev pub vertical_by_word : List ℕ → Option AlignmentVertical
vertical_by_word word =
    if bytes_eq word (codes "Top") then Some vertical.Top
    else if bytes_eq word (codes "Center") then Some vertical.Center
    else if bytes_eq word (codes "Bottom") then Some vertical.Bottom
    else None

-- the same that stands there
unfoldable pub vertical_at : Option Data → Option AlignmentVertical
vertical_at here = option_and_then vertical_by_word (text_at here)

-- [size, character]
unfoldable pub indent_at : Option Data → Option Indent
indent_at here = when (is_list_of 2 here)
    (of_both (λ size fill. record { fill = fill; size = size }) (number_at (item_at 0 here)) (character_at (item_at 1 here)))

-- an offset by its word, and by the number behind it
abbrev pub offset_by_word : Option Data → List ℕ × ℕ → Option Offset
offset_by_word here word =
    if bytes_eq word.0 (codes "Start") && word.1 == 1 then option_map Start (number_at (item_at 1 here))
    else if bytes_eq word.0 (codes "End") && word.1 == 1 then option_map End (number_at (item_at 1 here))
    else None

-- the same that stands there
unfoldable pub offset_at : Option Data → Option Offset
offset_at here = option_and_then (offset_by_word here) (word_at here)

-- [text before, text after]
unfoldable pub color_at : Option Data → Option (List ℕ × List ℕ)
color_at here = when (is_list_of 2 here) (option_zip (text_at (item_at 0 here)) (text_at (item_at 1 here)))

-- ---- values by parts

-- whether a name is one of these
abbrev pub is_named : List ℕ → List (List ℕ) → Bool
is_named name [] = false
is_named name (first ∷ names) = bytes_eq name first || is_named name names

-- whether each member that is not `null` has one of these names
abbrev pub are_named : List (List ℕ) → Members → Bool
are_named names no_members = true
are_named names (member name value members) = (is_some (as_null value) || is_named name names) && are_named names members

-- whether an object of such members stands there
unfoldable pub are_named_at : List (List ℕ) → Option Data → Bool
are_named_at names here = unwrap_or (option_map (are_named names) (option_and_then as_object here)) false

module _ {A : Type 0} (told : Option Data → Option A) (here : Option Data) where
  -- the part of this name, or none where it is missing
  abbrev pub named_part : List ℕ → Option (Option A)
  named_part name = optional told (member_at name here)

  -- the parts of four names
  unfoldable pub four : List ℕ → List ℕ → List ℕ → List ℕ → Option ((Option A × Option A) × (Option A × Option A))
  four first second third fourth = option_zip (option_zip (named_part first) (named_part second)) (option_zip (named_part third) (named_part fourth))

  -- an object of four sides
  unfoldable pub sides_at : Option (Sides (Option A))
  sides_at = when (are_named_at (codes "top" ∷ codes "bottom" ∷ codes "left" ∷ codes "right" ∷ []) here)
      (option_map (λ told. record { top = told.0.0; bottom = told.0.1; left = told.1.0; right = told.1.1 })
      (four (codes "top") (codes "bottom") (codes "left") (codes "right")))

  -- an object of the border of a cell: sides, and corners
  unfoldable pub border_at : Option (Border A)
  border_at = when (are_named_at (
      codes "top" ∷ codes "bottom" ∷ codes "left" ∷ codes "right"
      ∷ codes "left_top_corner" ∷ codes "left_bottom_corner" ∷ codes "right_top_corner" ∷ codes "right_bottom_corner" ∷ []) here)
      (of_both (λ sides corners. record {
        top = sides.0.0;
        bottom = sides.0.1;
        left = sides.1.0;
        right = sides.1.1;
        left_top_corner = corners.0.0;
        left_bottom_corner = corners.0.1;
        right_top_corner = corners.1.0;
        right_bottom_corner = corners.1.1;
      })
      (four (codes "top") (codes "bottom") (codes "left") (codes "right"))
      (four (codes "left_top_corner") (codes "left_bottom_corner") (codes "right_top_corner") (codes "right_bottom_corner")))

  -- the lines within a frame, and their crossing
  unfoldable pub within_at : Option ((Option A × Option A) × Option A)
  within_at = option_zip (option_zip (named_part (codes "horizontal")) (named_part (codes "vertical"))) (named_part (codes "intersection"))

  -- a frame, with what stands within it
  unfoldable pub frame_by_parts : Option (Borders A)
  frame_by_parts = of_both (λ ends sides. record {
    top = ends.0.0.0;
    top_left = ends.0.0.1;
    top_right = ends.0.1.0;
    top_intersection = ends.0.1.1;
    bottom = ends.1.0.0;
    bottom_left = ends.1.0.1;
    bottom_right = ends.1.1.0;
    bottom_intersection = ends.1.1.1;
    left = sides.0.0.0;
    left_intersection = sides.0.0.1;
    right = sides.0.1.0;
    right_intersection = sides.0.1.1;
    horizontal = sides.1.0.0;
    vertical = sides.1.0.1;
    intersection = sides.1.1;
  })
      (option_zip (four (codes "top") (codes "top_left") (codes "top_right") (codes "top_intersection"))
      (four (codes "bottom") (codes "bottom_left") (codes "bottom_right") (codes "bottom_intersection")))
      (option_zip (four (codes "left") (codes "left_intersection") (codes "right") (codes "right_intersection")) within_at)

  -- an object of such parts
  unfoldable pub frame_at : Option (Borders A)
  frame_at = when (are_named_at (
      codes "top" ∷ codes "top_left" ∷ codes "top_right" ∷ codes "top_intersection"
      ∷ codes "bottom" ∷ codes "bottom_left" ∷ codes "bottom_right" ∷ codes "bottom_intersection"
      ∷ codes "left" ∷ codes "left_intersection" ∷ codes "right" ∷ codes "right_intersection"
      ∷ codes "horizontal" ∷ codes "vertical" ∷ codes "intersection" ∷ []) here) frame_by_parts

  -- an object of a horizontal line
  unfoldable pub horizontal_parts_at : Option (HorizontalLine A)
  horizontal_parts_at = when (are_named_at (codes "main" ∷ codes "intersection" ∷ codes "left" ∷ codes "right" ∷ []) here)
      (option_map (λ told. record { main = told.0.0; intersection = told.0.1; left = told.1.0; right = told.1.1 })
      (four (codes "main") (codes "intersection") (codes "left") (codes "right")))

  -- an object of a vertical line
  unfoldable pub vertical_parts_at : Option (VerticalLine A)
  vertical_parts_at = when (are_named_at (codes "main" ∷ codes "intersection" ∷ codes "top" ∷ codes "bottom" ∷ []) here)
      (option_map (λ told. record { main = told.0.0; intersection = told.0.1; top = told.1.0; bottom = told.1.1 })
      (four (codes "main") (codes "intersection") (codes "top") (codes "bottom")))

-- sides, where one that is missing is as this one
abbrev pub filled_sides : {A : Type 0} → A → Sides (Option A) → Sides A
filled_sides missing sides = record {
  top = unwrap_or sides.top missing;
  bottom = unwrap_or sides.bottom missing;
  left = unwrap_or sides.left missing;
  right = unwrap_or sides.right missing;
}
