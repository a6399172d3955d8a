-- What a list of calls decides, by indices in the list: apart from any search. The oldest call is the 0-th.
use Rattle.std.specs.Prelude.{◌≡◌, ◌⊎◌, ℕ, ◌<◌, ◌==◌, ◌&&◌, Bool, true, false, List, Option, Some, None, length, slice_get}
use Rattle.papergrid_values.specs.declared.entity.Entity.{Entity}
use Rattle.papergrid_values.specs.declared.position.Position.{Position}
use Rattle.papergrid_values.specs.declared.entity.Entity.TheVariants.{Global, Column, Row, Cell}
use Rattle.papergrid_maps.specs.Keys.{entity_eq}
use Rattle.papergrid_maps.specs.declared.entity_map.MapCall.{MapCall}
use Rattle.papergrid_maps.specs.declared.entity_map.MapCall.TheVariants.{Insert, Remove}

module _ {T : Type 0} where
  -- a call for the whole table
  abbrev pub is_for_all : MapCall T → Bool
  is_for_all (Insert Global v) = true
  is_for_all (Remove Global) = true
  is_for_all call = false

  -- a call that sets this column (row), or is for the whole table
  abbrev pub concerns : Entity → MapCall T → Bool
  concerns entity (Insert Global v) = true
  concerns entity (Insert other v) = entity_eq other entity
  concerns entity call = is_for_all call

  -- a call that sets the whole table
  abbrev pub sets_all : MapCall T → Bool
  sets_all (Insert Global v) = true
  sets_all call = false

  -- a call after which no earlier override of the cell counts. It is for the whole table, or a
  -- remove of the cell, its row or its column
  abbrev pub ends_overrides : ℕ → ℕ → MapCall T → Bool
  ends_overrides r c (Remove (Cell i j)) = (i == r) && (j == c)
  ends_overrides r c (Remove (Row i)) = i == r
  ends_overrides r c (Remove (Column j)) = j == c
  ends_overrides r c call = is_for_all call

  -- what has P, or where nothing has P what has Q
  abbrev pub OrElse : (T → Type 0) → (T → Type 0) → T → Type 0
  OrElse P Q v = P v ⊎ (((w : T) → ¬ (P w)) × Q v)

  -- what has P, where something has
  abbrev pub IsFound : (T → Type 0) → Option T → Type 0
  IsFound P None = (v : T) → ¬ (P v)
  IsFound P (Some v) = P v

module _ {T : Type 0} (calls : List (MapCall T)) where
  -- of the first n calls, the oldest being the 0-th, the i-th is this one, and none after it passes
  -- the test
  pub record IsLast (test : MapCall T → Bool) (n i : ℕ) (call : MapCall T) : Type 0 where
    pub before : i < n
    pub at : slice_get calls i ≡ Some call
    pub last : (j : ℕ) (other : MapCall T) → i < j → j < n → slice_get calls j ≡ Some other →
        test other ≡ false

  -- after the first n calls a column (row) has a value that stands. The last of them that sets it,
  -- or is for the whole table, sets it so
  abbrev pub EntityStands : Entity → ℕ → T → Type 0
  EntityStands entity n v = (i : ℕ) × IsLast (concerns entity) n i (Insert entity v)

  -- the i-th call overrides the cell with a value. It sets the cell, or its row while a value of
  -- its column stands, or the other way round
  abbrev pub IsCellOverride : ℕ → ℕ → ℕ → T → Type 0
  IsCellOverride r c i v =
      (slice_get calls i ≡ Some (Insert (Cell r c) v))
      ⊎ (((slice_get calls i ≡ Some (Insert (Row r) v)) × ((w : T) × EntityStands (Column c) i w))
      ⊎ ((slice_get calls i ≡ Some (Insert (Column c) v)) × ((w : T) × EntityStands (Row r) i w)))

  -- after the first n calls the cell has an override that counts: the last one, and no later call
  -- ends the overrides
  pub record OverrideStands (r c n : ℕ) (v : T) : Type 0 where
    pub index : ℕ
    pub before : index < n
    pub overrides_cell : IsCellOverride r c index v
    pub last : (j : ℕ) (w : T) → index < j → j < n → ¬ (IsCellOverride r c j w)
    pub counts : (j : ℕ) (call : MapCall T) → index < j → j < n → slice_get calls j ≡ Some call →
        ends_overrides r c call ≡ false

  -- the value of the whole table: that of the last call that sets it, else the one given at first
  abbrev pub IsGlobal : T → T → Type 0
  IsGlobal given = OrElse (λ v. (i : ℕ) × IsLast sets_all (length calls) i (Insert Global v)) (λ v. v ≡ given)

  -- the value that the calls decide for a cell. It is that of the last override that counts, else
  -- the column's that stands, else the row's, else that of the whole table
  abbrev pub IsEffective : T → Position → T → Type 0
  IsEffective given p =
      let n = length calls in
      OrElse (OverrideStands p.row p.col n) (OrElse (EntityStands (Column p.col) n) (OrElse (EntityStands (Row p.row) n) (IsGlobal given)))
