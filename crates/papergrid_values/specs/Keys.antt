-- What decides the order of values: lists that are compared from the front on.
use Rattle.std.specs.Prelude.{ℕ, Bool, List, [], ◌∷◌}
use Rattle.papergrid_values.specs.declared.alignment.AlignmentHorizontal.{AlignmentHorizontal}
use Rattle.papergrid_values.specs.declared.alignment.AlignmentHorizontal.TheVariants as across
use Rattle.papergrid_values.specs.declared.alignment.AlignmentVertical.{AlignmentVertical}
use Rattle.papergrid_values.specs.declared.alignment.AlignmentVertical.TheVariants as down
use Rattle.papergrid_values.specs.declared.formatting.Formatting.{Formatting}
use Rattle.papergrid_values.specs.declared.entity.Entity.{Entity}
use Rattle.papergrid_values.specs.declared.entity.Entity.TheVariants.{Global, Column, Row, Cell}
use Rattle.papergrid_values.specs.declared.offset.Offset.{Offset}
use Rattle.papergrid_values.specs.declared.offset.Offset.TheVariants.{Start, End}
use Rattle.papergrid_values.specs.declared.sides.Sides.{Sides}

-- the four values, in the order of the fields
abbrev pub sides_parts : {T : Type 0} → Sides T → List T
sides_parts s = s.top ∷ s.bottom ∷ s.left ∷ s.right ∷ []

-- the kind of an entity, and its numbers
abbrev pub entity_key : Entity → List ℕ
entity_key Global = 0 ∷ []
entity_key (Column col) = 1 ∷ col ∷ []
entity_key (Row row) = 2 ∷ row ∷ []
entity_key (Cell row col) = 3 ∷ row ∷ col ∷ []

-- the kind of an offset, and its number
abbrev pub offset_key : Offset → List ℕ
offset_key (Start n) = 0 ∷ n ∷ []
offset_key (End n) = 1 ∷ n ∷ []

-- the flags, in the order of the fields
abbrev pub formatting_flags : Formatting → List Bool
formatting_flags f = f.horizontal_trim ∷ f.vertical_trim ∷ f.allow_lines_alignment ∷ []

-- alignments from left to right
abbrev pub horizontal_rank : AlignmentHorizontal → ℕ
horizontal_rank across.Left = 0
horizontal_rank across.Center = 1
horizontal_rank across.Right = 2

-- alignments from top to bottom
abbrev pub vertical_rank : AlignmentVertical → ℕ
vertical_rank down.Top = 0
vertical_rank down.Center = 1
vertical_rank down.Bottom = 2
