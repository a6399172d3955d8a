-- Which calls may allocate, and which copy a value.
use Rattle.std.specs.Prelude.{◌≡◌, Bool, true, false, ⊤}
use Rattle.papergrid_values.specs.declared.entity.Entity.{Entity}
use Rattle.papergrid_values.specs.declared.entity.Entity.TheVariants.{Global, Column, Row}
use Rattle.papergrid_maps.specs.declared.entity_map.MapCall.{MapCall}
use Rattle.papergrid_maps.specs.declared.entity_map.MapCall.TheVariants.{Insert, Remove}

-- a column or a row, whose value is also written to some of its cells
abbrev pub IsLine : Entity → Type 0
IsLine (Column col) = ⊤
IsLine (Row row) = ⊤
IsLine other = ⊥

module _ {T : Type 0} where
  -- an insert for anything but the whole table
  abbrev pub may_grow : MapCall T → Bool
  may_grow (Insert Global v) = false
  may_grow (Insert entity v) = true
  may_grow (Remove entity) = false

  -- where a call copies its value, a clone of the value equals it
  abbrev pub HasEqualClones : (T → T → Type 0) → MapCall T → Type 0
  HasEqualClones is_clone (Insert entity v) = IsLine entity → (clone : T) → is_clone v clone → clone ≡ v
  HasEqualClones is_clone (Remove entity) = ⊤
