-- The characters of the lines of a table, with their colours.
use Rattle.std.specs.Prelude.{ℕ, ◌==◌, ◌&&◌, not, Bool, false, if◌then◌else◌, List, [], ◌∷◌, Option, Some, None, length, map, unwrap_or}
use Rattle.std.specs.FinMap.{get, keys}
use Rattle.std.specs.List.{range_with_len}
use Rattle.std.specs.Option.{option_or}
use Rattle.papergrid_values.specs.declared.position.Position.{Position}
use Rattle.papergrid_tables.specs.StoredBorders.{parts_of_borders}
use Rattle.papergrid_tables.specs.Overrides.{StoredOffsets, found_override, override_at}
use Rattle.papergrid_tables.specs.BorderParts.{found_horizontal, found_intersection, found_vertical}
use Rattle.papergrid_config.specs.declared.spanned.SpannedConfig.{SpannedConfig}
use Rattle.papergrid_draw.specs.Pieces.{Crossing, Line, Piece, fill_text}

-- a piece of a horizontal line, whose colour it shares with its neighbours, and its own colour inside of that
pub record Mark : Type 0 where
  pub piece : Piece
  pub own : Option (List ℕ × List ℕ)

-- a piece with no colour of its own
abbrev pub plain_mark : Piece → Mark
plain_mark piece = record { piece = piece; own = None }

-- whether something is held at an offset of a position
abbrev pub has_overrides : {T : Type 0} → Option (StoredOffsets T) → Bool
has_overrides None = false
has_overrides (Some offsets) = not (length (keys offsets.from_start) == 0 && length (keys offsets.from_end) == 0)

-- of a configuration, in a table of so many rows and columns; lines are known by the position that they stand before,
-- or at the count after the last one
module _ (config : SpannedConfig) (shape : ℕ × ℕ) where
  -- the vertical line left of a position, in line k of a row of this height
  abbrev pub vertical_character : Position → ℕ → ℕ → ℕ
  vertical_character p height k =
      unwrap_or (option_or (found_override (override_at config.vertical_chars p) k height)
      (found_vertical (parts_of_borders config.characters) p shape.1)) config.missing

  -- its colour: that of the border, or else the one at the offset
  abbrev pub vertical_color : Position → ℕ → ℕ → Option (List ℕ × List ℕ)
  vertical_color p height k =
      option_or (found_vertical (parts_of_borders config.colors) p shape.1)
      (found_override (override_at config.vertical_colors p) k height)

  -- as a piece
  abbrev pub vertical : Position → ℕ → ℕ → Piece
  vertical p height k = record {
    kind = Line;
    text = fill_text (vertical_character p height k) 1;
    columns = 1;
    color = vertical_color p height k;
  }

  -- the character where both lines cross
  abbrev pub crossing_character : Position → ℕ
  crossing_character p = unwrap_or (found_intersection (parts_of_borders config.characters) p shape.0 shape.1) config.missing

  -- with its colour
  abbrev pub crossing : Position → Mark
  crossing p = plain_mark (record {
    kind = Crossing;
    text = fill_text (crossing_character p) 1;
    columns = 1;
    color = found_intersection (parts_of_borders config.colors) p shape.0 shape.1;
  })

  -- the character of the horizontal line above a position
  abbrev pub segment_character : Position → ℕ
  segment_character p = unwrap_or (found_horizontal (parts_of_borders config.characters) p shape.0) config.missing

  -- so many of a character of that line, in its colour
  abbrev pub segment_piece : Position → ℕ → ℕ → Piece
  segment_piece p character n = record {
    kind = Line;
    text = fill_text character n;
    columns = n;
    color = found_horizontal (parts_of_borders config.colors) p shape.0;
  }

  -- its character at an offset of a column of this width, where some are overridden: that, and its colour there
  abbrev pub overridden_mark : Position → ℕ → ℕ → Mark
  overridden_mark p width k = record {
    piece = segment_piece p (unwrap_or (found_override (override_at config.horizontal_chars p) k width)
        (segment_character p)) 1;
    own = found_override (override_at config.horizontal_colors p) k width;
  }

  -- that line over a column of this width: one piece, or where characters are overridden one of each
  abbrev pub segment : Position → ℕ → List Mark
  segment p width =
      if has_overrides (get config.horizontal_chars p) then map (overridden_mark p width) (range_with_len 0 width)
      else if width == 0 then [] else (plain_mark (segment_piece p (segment_character p) width) ∷ [])
