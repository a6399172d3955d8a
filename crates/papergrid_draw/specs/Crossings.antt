-- Crossings of lines, by which lines meet there.
use Rattle.std.specs.Prelude.{◌≡◌, ◌≢◌, ◌↔◌, ◌≤◌, ◌<◌, ◌+◌, ◌-◌, ◌^◌, ◌⊎◌, ◌&&◌, ℕ, All, AllPairs, Bool, Contains, map, true, false, not, nat_lt, List, [], Option, None, Some}
use Rattle.std.specs.Option.{option_eq}
use Rattle.papergrid_values.specs.MapKeys.{position_eq}
use Rattle.papergrid_values.specs.Positions.{IsBefore, position_of}
use Rattle.papergrid_values.specs.declared.border.Border.{Border}
use Rattle.papergrid_values.specs.declared.borders.Borders.{Borders}
use Rattle.papergrid_values.specs.declared.position.Position.{Position}
use Rattle.papergrid_tables.specs.StoredBorders.{parts_of_borders}
use Rattle.papergrid_config.specs.Applied.{is_in_range}
use Rattle.papergrid_config.specs.ConfigSame.{HoldTheSameSettings}
use Rattle.papergrid_config.specs.History.{AppendsSettings, HasSettingHistory}
use Rattle.papergrid_config.specs.declared.setting.Setting.{Setting}
use Rattle.papergrid_config.specs.declared.setting.Setting.TheVariants.{SetBorder}
use Rattle.papergrid_config.specs.declared.spanned.SpannedConfig.{SpannedConfig}
use Rattle.papergrid_draw.specs.Characters.{crossing_character}
use Rattle.papergrid_draw.specs.Drawings.{Drawing, layout_of}
use Rattle.papergrid_draw.specs.Drawn.{draws_horizontal, draws_vertical, owner_at, stands_over, stands_over_crossing}
use Rattle.papergrid_draw.specs.Tiles.{IsTileFault, IsTiled}
use Rattle.papergrid_draw.specs.declared.error.DrawError.{DrawError}
use Rattle.papergrid_draw.specs.declared.error.DrawError.TheVariants.{TooLarge}
use Rattle.papergrid_draw.specs.declared.crossings.Junctions.{Junctions}

module _ (d : Drawing) where
  -- the vertical line j is seen in row r: it is there, and no cell of the row goes over it
  abbrev pub is_seen_down : ℕ → ℕ → Bool
  is_seen_down r j = nat_lt r d.shape.0 && (draws_vertical d j
      && not (nat_lt 0 j && (nat_lt j d.shape.1 && option_eq position_eq (owner_at d r (j - 1)) (owner_at d r j))))

  -- the horizontal line i is seen in column c: it is there, and no cell of the column goes over it
  abbrev pub is_seen_across : ℕ → ℕ → Bool
  is_seen_across i c = nat_lt c d.shape.1 && (draws_horizontal d i && not (stands_over d i c))

  -- the vertical line j is seen above its crossing with line i: in the row above
  abbrev pub is_seen_above : ℕ → ℕ → Bool
  is_seen_above i j = nat_lt 0 i && is_seen_down (i - 1) j

  -- the horizontal line i is seen left of its crossing with line j: in the column before
  abbrev pub is_seen_left : ℕ → ℕ → Bool
  is_seen_left i j = nat_lt 0 j && is_seen_across i (j - 1)

  -- the lines i and j cross, in a table that has rows and columns, and no cell goes over the crossing
  pub record IsSeenCrossing (i j : ℕ) : Type 0 where
    pub has_rows : 0 < d.shape.0
    pub has_columns : 0 < d.shape.1
    pub row : i ≤ d.shape.0
    pub col : j ≤ d.shape.1
    pub horizontal : draws_horizontal d i ≡ true
    pub vertical : draws_vertical d j ≡ true
    pub free : stands_over_crossing d i j ≡ false

module _ (junctions : Junctions) where
  -- the character that joins the lines above, below, left and right of it; none where fewer than two meet
  abbrev pub junction : Bool → Bool → Bool → Bool → Option ℕ
  junction true true true true = Some junctions.intersection
  junction true true false true = Some junctions.left_intersection
  junction true true true false = Some junctions.right_intersection
  junction false true true true = Some junctions.top_intersection
  junction true false true true = Some junctions.bottom_intersection
  junction false true false true = Some junctions.top_left
  junction false true true false = Some junctions.top_right
  junction true false false true = Some junctions.bottom_left
  junction true false true false = Some junctions.bottom_right
  junction true true false false = Some junctions.vertical
  junction false false true true = Some junctions.horizontal
  junction _ _ _ _ = None

  -- the character that the lines which meet at a crossing have
  abbrev pub junction_at : Drawing → ℕ → ℕ → Option ℕ
  junction_at d i j = junction (is_seen_above d i j) (is_seen_down d i j) (is_seen_left d i j) (is_seen_across d i j)

-- each of the eleven parts of a frame is the junction of its name
pub record AreOfFrame (frame : Borders ℕ) (junctions : Junctions) : Type 0 where
  pub horizontal : frame.horizontal ≡ Some junctions.horizontal
  pub vertical : frame.vertical ≡ Some junctions.vertical
  pub top_left : frame.top_left ≡ Some junctions.top_left
  pub top_intersection : frame.top_intersection ≡ Some junctions.top_intersection
  pub top_right : frame.top_right ≡ Some junctions.top_right
  pub left_intersection : frame.left_intersection ≡ Some junctions.left_intersection
  pub intersection : frame.intersection ≡ Some junctions.intersection
  pub right_intersection : frame.right_intersection ≡ Some junctions.right_intersection
  pub bottom_left : frame.bottom_left ≡ Some junctions.bottom_left
  pub bottom_intersection : frame.bottom_intersection ≡ Some junctions.bottom_intersection
  pub bottom_right : frame.bottom_right ≡ Some junctions.bottom_right

-- the border of a cell that has a corner at its top and left, and nothing else
abbrev pub corner_border : ℕ → Border ℕ
corner_border character = record {
  top = None;
  bottom = None;
  left = None;
  right = None;
  left_top_corner = Some character;
  left_bottom_corner = None;
  right_top_corner = None;
  right_bottom_corner = None;
}

-- a table with the lines and spans of a configuration, and without texts and sizes
abbrev pub bare_drawing : SpannedConfig → ℕ × ℕ → Drawing
bare_drawing config shape = record {
  config = config;
  widths = λ _. 0;
  heights = λ _. 0;
  shape = shape;
  lines = λ _. [];
  color = λ _. None;
}

-- a crossing that is seen has another character than this one, which joins the lines that meet there
pub record IsUnfit (config : SpannedConfig) (shape : ℕ × ℕ) (junctions : Junctions) (p : Position) (character : ℕ)
    : Type 0 where
  pub seen : IsSeenCrossing (bare_drawing config shape) p.row p.col
  pub joins : junction_at junctions (bare_drawing config shape) p.row p.col ≡ Some character
  pub other : crossing_character config shape p ≢ character

-- the setting that gives a crossing a character
abbrev pub crossing_setting : Position × ℕ → Setting
crossing_setting crossing = SetBorder crossing.0 (corner_border crossing.1)

-- a configuration made by settings becomes the other by further ones
pub record BecomesBy (old new : SpannedConfig) (further : List Setting) : Type 0 where
  pub history : List Setting
  pub told : HasSettingHistory history old
  pub appends : AppendsSettings old new further

-- a configuration that further settings are added to holds what it held but for crossings
pub record DifferInCrossings (old new : SpannedConfig) : Type 0 where
  pub others : HoldTheSameSettings (record new { characters = old.characters }) old
  pub parts : parts_of_borders new.characters
      ≡ record (parts_of_borders old.characters) { corner = (parts_of_borders new.characters).corner }

-- these settings fit the crossings of a configuration, in a table of so many rows and columns that its spans tile, to the
-- lines that meet there. They are those of the crossings that have another character, each once, by row and then by
-- column. Where they are added to it, each crossing that is seen has the character of its lines
pub record FitCrossings (config : SpannedConfig) (shape : ℕ × ℕ) (junctions : Junctions) (settings : List Setting)
    : Type 0 where
  pub tiled : IsTiled (layout_of (bare_drawing config shape))
  pub counted : (shape.0 + 1 < 2 ^ 64) × (shape.1 + 1 < 2 ^ 64)
  pub crossings : List (Position × ℕ)
  pub are : settings ≡ map crossing_setting crossings
  pub each : (p : Position) (character : ℕ) →
      Contains crossings (p, character) ↔ IsUnfit config shape junctions p character
  pub ascending : AllPairs (λ a b. IsBefore a.0 b.0) crossings
  pub in_range : All (λ setting. is_in_range setting ≡ true) settings
  pub keeps : (new : SpannedConfig) → BecomesBy config new settings → DifferInCrossings config new
  pub lines : (new : SpannedConfig) → BecomesBy config new settings → (d e : Drawing) → d.config ≡ config → e.config ≡ new →
      d.shape ≡ shape → e.shape ≡ shape → (n : ℕ) →
      (draws_vertical e n ≡ draws_vertical d n) × (draws_horizontal e n ≡ draws_horizontal d n)
  pub fit : (new : SpannedConfig) → BecomesBy config new settings → (d : Drawing) → d.config ≡ config → d.shape ≡ shape →
      (i j : ℕ) → IsSeenCrossing d i j →
      junction_at junctions d i j ≡ Some (crossing_character new shape (position_of (i, j)))

-- why there are no such settings. The spans do not tile the table, else it has so many rows or columns that no more can
-- be counted. An allocation may fail
abbrev pub IsFitFault : SpannedConfig → ℕ × ℕ → DrawError → Type 0
IsFitFault config shape TooLarge =
    IsTiled (layout_of (bare_drawing config shape)) × ((2 ^ 64 ≤ shape.0 + 1) ⊎ (2 ^ 64 ≤ shape.1 + 1))
IsFitFault config shape e = IsTileFault (layout_of (bare_drawing config shape)) e
