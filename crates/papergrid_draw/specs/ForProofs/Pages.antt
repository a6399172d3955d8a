-- A table while it is drawn: what stands in each column of a row.
use Rattle.std.specs.Prelude.{◌≡◌, ◌+◌, ◌-◌, ◌==◌, ◌^◌, ◌<◌, ◌≤◌, ℕ, Bool, List, [], Option, Some, None, if◌then◌else◌, length, slice_get, slice_index, slice_index_or, true}
use Rattle.papergrid_values.specs.declared.direction.Direction.TheVariants.{Rows}
use Rattle.papergrid_values.specs.declared.position.Position.{Position}
use Rattle.papergrid_config.specs.declared.spanned.SpannedConfig.{SpannedConfig}
use Rattle.papergrid_layout.specs.Places.{begin_along, line_offset, offset, total_along, track_line, track_size}
use Rattle.papergrid_layout.specs.Tables.{TableParts, view_of}
use Rattle.papergrid_draw.specs.Bytes.{pieces_bytes}
use Rattle.papergrid_draw.specs.Contents.{block_at}
use Rattle.papergrid_draw.specs.Drawings.{Drawing, layout_of}
use Rattle.papergrid_draw.specs.Drawn.{draws_horizontal, draws_vertical, owner_at, vertical_pieces}
use Rattle.papergrid_draw.specs.Pieces.{fill_text}
use Rattle.papergrid_draw.specs.ForProofs.Looks.{IsLookedUp}
use Rattle.papergrid_draw.specs.declared.look.Looks.{Looks}
use Rattle.papergrid_draw.specs.declared.page.Slot.{Slot}

-- what is told of the cells of a table: the lines of each text with their widths, and its colour
pub record Texts : Type 0 where
  pub lines : Position → List (List ℕ × ℕ)
  pub color : Position → Option (List ℕ × List ℕ)

-- the drawing of a table with these texts
abbrev pub drawing_of : TableParts → Texts → Drawing
drawing_of parts texts = record {
  config = parts.config;
  widths = slice_index parts.widths;
  heights = slice_index parts.heights;
  shape = (length parts.heights, length parts.widths);
  lines = texts.lines;
  color = texts.color;
}

-- whether a vertical line is drawn before each column, and after the last
pub record AreVerticals (parts : TableParts) (lines : List Bool) : Type 0 where
  pub many : length lines ≡ length parts.widths + 1
  pub each : (texts : Texts) (j : ℕ) (other : Bool) → j ≤ length parts.widths →
      slice_index_or lines j other ≡ draws_vertical (drawing_of parts texts) j

-- the bytes of a vertical line that has this character and no colour, or of none
abbrev pub character_bytes : Option ℕ → List ℕ
character_bytes None = []
character_bytes (Some character) = fill_text character 1

-- what stands for each vertical line in all rows, as far as the characters go
abbrev pub HaveCharacters : TableParts → List (Option ℕ) → Type 0
HaveCharacters parts characters = (texts : Texts) (r j k : ℕ) (found : Option ℕ) → slice_get characters j ≡ Some found →
    pieces_bytes (vertical_pieces (drawing_of parts texts) r j k) ≡ character_bytes found

-- what is read of a table once: its configuration, its shape, its height, and what all its cells and vertical lines have in common
pub record IsFrame (parts : TableParts) (config : SpannedConfig) (shape : ℕ × ℕ) (height : ℕ) (looks : Looks)
    (verticals : List Bool) (characters : List (Option ℕ)) : Type 0 where
  pub config_is : config ≡ parts.config
  pub shape_is : shape ≡ (length parts.heights, length parts.widths)
  pub high : height ≡ total_along (view_of parts) Rows
  pub fit : total_along (view_of parts) Rows < 2 ^ 64
  pub looks_are : IsLookedUp parts.config looks
  pub verticals_are : AreVerticals parts verticals
  pub characters_are : HaveCharacters parts characters

module _ (d : Drawing) where
  -- the line of the table on which row r begins, with the horizontal line before it
  abbrev pub row_start : ℕ → ℕ
  row_start r = line_offset (track_size (layout_of d) Rows) (track_line (layout_of d) Rows) r

  -- the line of the table on which its first text line is
  abbrev pub text_start : ℕ → ℕ
  text_start r = offset (track_size (layout_of d) Rows) (track_line (layout_of d) Rows) r

  -- what is kept in column c of the cell at o that covers it, where line y of the table comes next
  abbrev pub slot_at : {T : Type 0} → Position → ℕ → ℕ → Slot T
  slot_at o c y = record {
    owner = o;
    block = if o.col == c then Some (block_at d o) else None;
    drawn = y - begin_along (layout_of d) Rows o;
  }

  -- what is kept in column c of row r, where line y comes next
  abbrev pub IsSlot : {T : Type 0} → ℕ → ℕ → ℕ → Slot T → Type 0
  IsSlot r c y slot = (o : Position) × (owner_at d r c ≡ Some o) × (slot ≡ slot_at o c y)

  -- the line before the row of a position is drawn, and where there is such a row, it comes next in the column
  pub record IsBeforeRule {T : Type 0} (p : Position) (slot : Slot T) : Type 0 where
    pub column : p.col < d.shape.1
    pub drawn : draws_horizontal d p.row ≡ true
    pub kept : p.row < d.shape.0 → IsSlot p.row p.col (row_start p.row) slot

  -- so in each column of row r, where in column c line y c comes next
  pub record AreSlots {T : Type 0} (r : ℕ) (y : ℕ → ℕ) (slots : List (Slot T)) : Type 0 where
    pub each : length slots ≡ d.shape.1
    pub kept : (c : ℕ) (other : Slot T) → c < d.shape.1 → IsSlot r c (y c) (slice_index_or slots c other)

  -- the cells of row r are taken up to column c, and from there on those of the row above are still kept
  pub record AreSlotsSet {T : Type 0} (r c : ℕ) (slots : List (Slot T)) : Type 0 where
    pub each : length slots ≡ d.shape.1
    pub taken : (j : ℕ) (other : Slot T) → j < d.shape.1 → j < c →
        IsSlot r j (row_start r) (slice_index_or slots j other)
    pub above : (j : ℕ) (other : Slot T) → j < d.shape.1 → c ≤ j → 0 < r →
        IsSlot (r - 1) j (row_start r) (slice_index_or slots j other)
