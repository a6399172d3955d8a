-- Where the texts of a drawn table are as wide as is said of them, and separators stand between.
use Rattle.std.specs.Prelude.{◌≡◌, ◌+◌, ◌<◌, ◌⊎◌, ℕ, All, Bool, IsUtf8, List, [], ◌∷◌, None, Option, Some, flat_map, true}
use Rattle.std.specs.List.{list_all}
use Rattle.papergrid_values.specs.Borders.{border_parts, frame_parts}
use Rattle.papergrid_values.specs.Keys.{sides_parts}
use Rattle.papergrid_values.specs.Lines.{horizontal_parts, vertical_parts}
use Rattle.papergrid_values.specs.declared.direction.Direction.TheVariants.{Columns}
use Rattle.papergrid_values.specs.declared.indent.Indent.{Indent}
use Rattle.papergrid_values.specs.declared.position.Position.{Position}
use Rattle.papergrid_config.specs.declared.setting.Setting.{Setting}
use Rattle.papergrid_config.specs.declared.setting.Setting.TheVariants.{InsertHorizontalLine, InsertVerticalLine, SetBorder, SetBorderDefault, SetBorders, SetBordersMissing, SetHorizontalChar, SetJustification, SetPadding, SetVerticalChar}
use Rattle.papergrid_tables.specs.Overrides.{found_override, override_at}
use Rattle.papergrid_text.specs.Separators.{IsSeparator, is_separator}
use Rattle.papergrid_text.specs.Text.{width_of}
use Rattle.papergrid_layout.specs.Places.{IsVisibleCell}
use Rattle.papergrid_draw.specs.Characters.{crossing_character, segment_character, vertical_character}
use Rattle.papergrid_draw.specs.Contents.{Look, look_of}
use Rattle.papergrid_draw.specs.Drawings.{Drawing, layout_of}
use Rattle.papergrid_draw.specs.Drawn.{draws_vertical}
use Rattle.papergrid_draw.specs.Pieces.{Piece}

-- the texts of pieces, joined
abbrev pub pieces_text : List Piece → List ℕ
pieces_text pieces = flat_map (λ (piece : Piece). piece.text) pieces

-- a line of a cell is UTF-8, and as wide as is said
abbrev pub IsMeasuredLine : List ℕ × ℕ → Type 0
IsMeasuredLine line = IsUtf8 line.0 × (line.1 ≡ width_of line.0)

-- the characters that stand on all sides of a text in the place of its cell
abbrev pub fills_of : Look → List ℕ
fills_of look =
    look.padding.left.fill ∷ look.padding.right.fill ∷ look.padding.top.fill
    ∷ look.padding.bottom.fill ∷ look.justification ∷ []

module _ (d : Drawing) where
  -- so are all lines of visible cells
  abbrev pub IsHonest : Type 0
  IsHonest = (p : Position) → IsVisibleCell (layout_of d) p → All IsMeasuredLine (d.lines p)

  -- all characters but those of texts are separators
  pub record HasSeparators : Type 0 where
    pub vertical : (p : Position) (k : ℕ) →
        IsSeparator (vertical_character d.config d.shape p (d.heights p.row) k)
    pub crossing : (p : Position) → IsSeparator (crossing_character d.config d.shape p)
    pub horizontal : (p : Position) → IsSeparator (segment_character d.config d.shape p)
    pub overridden : (p : Position) (k c : ℕ) →
        found_override (override_at d.config.horizontal_chars p) k (d.widths p.col) ≡ Some c →
        IsSeparator c
    pub filled : (p : Position) → IsVisibleCell (layout_of d) p →
        All IsSeparator (fills_of (look_of d.config p))

  -- before each visible cell but those of the first column stands a vertical line or a padding
  abbrev pub AreApartBefore : Type 0
  AreApartBefore =
      (p : Position) → IsVisibleCell (layout_of d) p → 0 < p.col →
      (draws_vertical d p.col ≡ true) ⊎ (0 < (look_of d.config p).padding.left.size)

  -- after each visible cell but those that end with the last column does
  abbrev pub AreApartAfter : Type 0
  AreApartAfter =
      (p : Position) → IsVisibleCell (layout_of d) p →
      let end = p.col + (layout_of d).grid.span Columns p in
      end < d.shape.1 → (draws_vertical d end ≡ true) ⊎ (0 < (look_of d.config p).padding.right.size)

  -- one or the other
  abbrev pub AreApart : Type 0
  AreApart = AreApartBefore ⊎ AreApartAfter

-- a part of a border is not set, or a separator
abbrev pub part_separates : Option ℕ → Bool
part_separates None = true
part_separates (Some c) = is_separator c

-- each character that a setting sets is a separator, but for those of margins
abbrev pub setting_separates : Setting → Bool
setting_separates (SetBorders frame) = list_all part_separates (frame_parts frame)
setting_separates (SetBorderDefault c) = is_separator c
setting_separates (SetBordersMissing c) = is_separator c
setting_separates (InsertHorizontalLine row line) = list_all part_separates (horizontal_parts line)
setting_separates (InsertVerticalLine col line) = list_all part_separates (vertical_parts line)
setting_separates (SetBorder p border) = list_all part_separates (border_parts border)
setting_separates (SetHorizontalChar p offset c) = is_separator c
setting_separates (SetVerticalChar p offset c) = is_separator c
setting_separates (SetPadding entity sides) =
    list_all (λ (indent : Indent). is_separator indent.fill) (sides_parts sides)
setting_separates (SetJustification entity c) = is_separator c
setting_separates _ = true
