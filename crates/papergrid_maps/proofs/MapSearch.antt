-- The search for what a list of calls decides, from the newest call back, and what a map holds by it.
use Rattle.std.specs.Prelude.{◌≡◌, ℕ, ◌==◌, ◌&&◌, if◌then◌else◌, List, [], ◌∷◌, reverse, Option, Some, None, is_some, unwrap_or}
use Rattle.std.specs.FinMap.{get}
use Rattle.papergrid_values.specs.declared.position.Position.{Position}
use Rattle.papergrid_values.specs.declared.entity.Entity.{Entity}
use Rattle.papergrid_values.specs.declared.entity.Entity.TheVariants.{Global, Column, Row, Cell}
use Rattle.papergrid_maps.specs.Keys.{entity_eq}
use Rattle.papergrid_maps.specs.StoredMap.{Stored}
use Rattle.papergrid_maps.specs.declared.entity_map.MapCall.{MapCall}
use Rattle.papergrid_maps.specs.declared.entity_map.MapCall.TheVariants.{Insert, Remove}

-- a call of Global ends what stood before it
module _ {T : Type 0} where
  -- the value of a column (row) that stands: its last insert since the last call of Global
  abbrev pub standing_value : Entity → List (MapCall T) → Option T
  standing_value entity [] = None
  standing_value entity (Insert Global v ∷ older) = None
  standing_value entity (Remove Global ∷ older) = None
  standing_value entity (Insert other v ∷ older) = if entity_eq other entity then Some v else standing_value entity older
  standing_value entity (call ∷ older) = standing_value entity older

  -- the last value inserted for Global, or else the one given at first
  abbrev pub global_value : T → List (MapCall T) → T
  global_value given [] = given
  global_value given (Insert Global v ∷ older) = v
  global_value given (call ∷ older) = global_value given older

  -- the last override that counts: an insert of the cell, or one of its row (column) while its column
  -- (row) has a value. It counts if it comes after the last call of Global, and after the last remove of
  -- the cell, its row or its column
  abbrev pub cell_override_value : ℕ → ℕ → List (MapCall T) → Option T
  cell_override_value r c [] = None
  cell_override_value r c (Insert Global v ∷ older) = None
  cell_override_value r c (Remove Global ∷ older) = None
  cell_override_value r c (Insert (Cell i j) v ∷ older) = if i == r && j == c then Some v else cell_override_value r c older
  cell_override_value r c (Insert (Row i) v ∷ older) = if i == r && is_some (standing_value (Column c) older) then Some v else cell_override_value r c older
  cell_override_value r c (Insert (Column j) v ∷ older) = if j == c && is_some (standing_value (Row r) older) then Some v else cell_override_value r c older
  cell_override_value r c (Remove (Cell i j) ∷ older) = if i == r && j == c then None else cell_override_value r c older
  cell_override_value r c (Remove (Row i) ∷ older) = if i == r then None else cell_override_value r c older
  cell_override_value r c (Remove (Column j) ∷ older) = if j == c then None else cell_override_value r c older

  -- the effective value of the calls at a position, where the map was made with the value given
  abbrev pub effective_value : T → List (MapCall T) → Position → T
  effective_value given calls p =
      let newest_first = reverse calls in
      unwrap_or (cell_override_value p.row p.col newest_first)
      (unwrap_or (standing_value (Column p.col) newest_first)
      (unwrap_or (standing_value (Row p.row) newest_first) (global_value given newest_first)))

  -- a map that was made with a value, and then given the calls, holds what the search finds
  pub record HasMapSearch (given : T) (calls : List (MapCall T)) (stored : Stored T) : Type 0 where
    pub global : stored.global ≡ global_value given (reverse calls)
    pub columns : (c : ℕ) → get stored.columns c ≡ standing_value (Column c) (reverse calls)
    pub rows : (r : ℕ) → get stored.rows r ≡ standing_value (Row r) (reverse calls)
    pub cells : (p : Position) → get stored.cells p ≡ cell_override_value p.row p.col (reverse calls)
