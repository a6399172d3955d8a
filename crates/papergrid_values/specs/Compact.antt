-- What a new compact configuration has, and how two of them compare.
use Rattle.std.specs.Prelude.{◌≡◌, ℕ, List, [], ◌∷◌, None}
use Rattle.std.specs.List.{AllByRecursion}
use Rattle.std.specs.declared.cmp.Ordering.{Ordering}
use Rattle.std.specs.declared.cmp.Ordering.TheVariants.{Equal}
use Rattle.std.specs.Ordering.{ordering_then}
use Rattle.papergrid_values.specs.declared.alignment.AlignmentHorizontal.TheVariants.{Left}
use Rattle.papergrid_values.specs.declared.ansi_str.ANSIStr.{ANSIStr}
use Rattle.papergrid_values.specs.declared.indent.Indent.{Indent}
use Rattle.papergrid_values.specs.declared.sides.Sides.{Sides}
use Rattle.papergrid_values.specs.Borders.{frame_with}
use Rattle.papergrid_values.specs.Colors.{texts_of}
use Rattle.papergrid_values.specs.Keys.{sides_parts}
use Rattle.papergrid_values.specs.declared.compact.CompactConfig.{CompactConfig}

-- so many spaces
abbrev pub spaces : ℕ → Indent
spaces n = record { fill = 32; size = n }

-- the same on each side
abbrev pub all_sides : {T : Type 0} → T → Sides T
all_sides v = record { top = v; bottom = v; left = v; right = v }

-- the colour of each side is of two empty texts
abbrev pub AreEmptyColors : Sides ANSIStr → Type 0
AreEmptyColors colors = AllByRecursion (λ color. texts_of color ≡ ([], [])) (sides_parts colors)

-- a new compact configuration: no lines and no colours, a space left and right of each text, and texts
-- at the left
pub record IsNew (config : CompactConfig) : Type 0 where
  pub borders : config.borders ≡ frame_with None
  pub border_colors : config.border_colors ≡ frame_with None
  pub margin : config.margin ≡ all_sides (spaces 0)
  pub margin_color : AreEmptyColors config.margin_color
  pub padding : config.padding ≡ record (all_sides (spaces 0)) { left = spaces 1; right = spaces 1 }
  pub padding_color : AreEmptyColors config.padding_color
  pub alignment : config.alignment ≡ Left

-- how two values compare, given how their fields do: by the first that differs
abbrev pub first_difference : List Ordering → Ordering
first_difference [] = Equal
first_difference (field ∷ fields) = ordering_then field (first_difference fields)
