-- Crossings that are fitted one after another, by row and then by column.
use Rattle.std.specs.Prelude.{◌≡◌, ◌≤◌, ◌<◌, ◌-◌, ◌&&◌, ℕ, All, AllPairs, Bool, true, nat_lt, if◌then◌else◌, List, [], ◌∷◌, Option, None, Some, length, map, slice_index_or, unwrap_or}
use Rattle.std.specs.Option.{option_eq, option_or}
use Rattle.papergrid_values.specs.MapKeys.{position_eq}
use Rattle.papergrid_values.specs.Positions.{IsBefore, position_of}
use Rattle.papergrid_values.specs.declared.position.Position.{Position}
use Rattle.papergrid_tables.specs.BorderParts.{found_intersection}
use Rattle.papergrid_tables.specs.StoredBorders.{parts_of_borders}
use Rattle.papergrid_config.specs.Applied.{has_neighbours}
use Rattle.papergrid_config.specs.declared.setting.Setting.{Setting}
use Rattle.papergrid_config.specs.declared.spanned.SpannedConfig.{SpannedConfig}
use Rattle.papergrid_layout.specs.Places.{TableView}
use Rattle.papergrid_draw.specs.Characters.{crossing_character}
use Rattle.papergrid_draw.specs.Drawings.{layout_of}
use Rattle.papergrid_draw.specs.Tiles.{owner}
use Rattle.papergrid_draw.specs.Crossings.{IsSeenCrossing, IsUnfit, bare_drawing, crossing_setting, junction_at}
use Rattle.papergrid_draw.specs.declared.crossings.Junctions.{Junctions}
use Rattle.papergrid_draw.specs.declared.crossings.Line.{Line}

module _ (table : TableView) where
  -- these are the owners of the positions of a row
  abbrev pub AreOwners : ℕ → List Position → Type 0
  AreOwners row owners =
      (c : ℕ) (other : Position) → c < length owners → owner table (position_of (row, c)) ≡ Some (slice_index_or owners c other)

  -- one cell of a row goes over the vertical line j
  abbrev pub goes_over : ℕ → ℕ → Bool
  goes_over r j = nat_lt 0 j && (nat_lt j table.shape.1
      && option_eq position_eq (owner table (position_of (r, j - 1))) (owner table (position_of (r, j))))

-- the owners above and below the line are those of the table, which has rows and columns
pub record IsCrossingLine (line : Line) : Type 0 where
  pub has_rows : 0 < line.shape.0
  pub has_columns : 0 < line.shape.1
  pub within : line.row ≤ line.shape.0
  pub many_above : length line.above.now ≡ line.shape.1
  pub many_below : length line.below.now ≡ line.shape.1
  pub above : 0 < line.row → AreOwners (layout_of (bare_drawing line.config.now line.shape)) (line.row - 1) line.above.now
  pub below : line.row < line.shape.0 → AreOwners (layout_of (bare_drawing line.config.now line.shape)) line.row line.below.now

-- the character that the last of the marks at a position gives it
abbrev pub mark_at : List (Position × ℕ) → Position → Option ℕ
mark_at [] p = None
mark_at (mark ∷ marks) p = option_or (mark_at marks p) (if position_eq mark.0 p then Some mark.1 else None)

module _ (config : SpannedConfig) (shape : ℕ × ℕ) where
  -- the character of a crossing where the marks are given
  abbrev pub marked_character : List (Position × ℕ) → Position → ℕ
  marked_character marks p =
      unwrap_or (option_or (mark_at marks p) (found_intersection (parts_of_borders config.characters) p shape.0 shape.1)) config.missing

  module _ (junctions : Junctions) where
    -- the crossing is not seen, or it has the character of its lines
    abbrev pub FitsAlready : ℕ → ℕ → Type 0
    FitsAlready i j = IsSeenCrossing (bare_drawing config shape) i j →
        junction_at junctions (bare_drawing config shape) i j ≡ Some (crossing_character config shape (position_of (i, j)))

    -- a marked crossing has another character than that of its lines
    pub record IsMark (mark : Position × ℕ) : Type 0 where
      pub in_range : has_neighbours mark.0 ≡ true
      pub unfit : IsUnfit config shape junctions mark.0 mark.1

    -- the crossings before (i, j), by row and then by column, are fitted, and no later one is marked
    pub record AreFittedBefore (i j : ℕ) (settings : List Setting) : Type 0 where
      pub marks : List (Position × ℕ)
      pub are : settings ≡ map crossing_setting marks
      pub each : All IsMark marks
      pub ascending : AllPairs (λ a b. IsBefore a.0 b.0) marks
      pub before : All (λ mark. IsBefore mark.0 (position_of (i, j))) marks
      pub fit : (r c : ℕ) → IsSeenCrossing (bare_drawing config shape) r c → IsBefore (position_of (r, c)) (position_of (i, j)) →
          junction_at junctions (bare_drawing config shape) r c ≡ Some (marked_character marks (position_of (r, c)))
