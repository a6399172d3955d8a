-- What a map of values by entity holds.
use Rattle.std.specs.Prelude.{◌≡◌, ℕ, List, length, Option, Some, None, unwrap_or, refl}
use Rattle.std.specs.Ordering.{nat_cmp}
use Rattle.std.specs.FinMap.{FinMap, get, code}
use Rattle.std.specs.Coded.{Coded, code_by, coded×, coded_ℕ}
use Rattle.papergrid_values.specs.MapKeys.{position_cmp, coded_position}
use Rattle.papergrid_values.specs.History as told
use Rattle.papergrid_maps.specs.EffectiveCall.{EntityStands, IsFound, IsGlobal, OverrideStands}
use Rattle.papergrid_values.specs.declared.position.Position.{Position}
use Rattle.papergrid_values.specs.declared.entity.Entity.{Entity}
use Rattle.papergrid_values.specs.declared.entity.Entity.TheVariants.{Global, Column, Row, Cell}
use Rattle.papergrid_maps.specs.declared.entity_map.MapCall.{MapCall}

-- a value for the whole table, and values for some columns, rows and cells
pub record Stored (T : Type 0) : Type 0 where
  pub global : T
  pub columns : FinMap nat_cmp T
  pub rows : FinMap nat_cmp T
  pub cells : FinMap position_cmp T

-- a code of what a map holds
abbrev pub stored_code : {T : Type 0} → Coded T → Coded (Stored T)
stored_code {T} c =
    code_by (T × (FinMap nat_cmp T × (FinMap nat_cmp T × FinMap position_cmp T)))
    (coded× c (coded× (code coded_ℕ c) (coded× (code coded_ℕ c) (code coded_position c))))
    (λ h. (h.global, (h.columns, (h.rows, h.cells))))
    (λ p. record { global = p.0; columns = p.1.0; rows = p.1.1.0; cells = p.1.1.1 })
    (λ _. refl)

module _ {T : Type 0} where
  -- the value stored for a position: the cell's, or else the column's, the row's or the global one
  abbrev pub stored_value : Stored T → Position → T
  stored_value stored p =
      unwrap_or (get stored.cells p)
      (unwrap_or (get stored.columns p.col) (unwrap_or (get stored.rows p.row) stored.global))

  -- a map that was made with a value, and then given the calls, holds this
  pub record HasMapHistory (given : T) (calls : List (MapCall T)) (stored : Stored T) : Type 0 where
    pub global : IsGlobal calls given stored.global
    pub columns : (c : ℕ) → IsFound (EntityStands calls (Column c) (length calls)) (get stored.columns c)
    pub rows : (r : ℕ) → IsFound (EntityStands calls (Row r) (length calls)) (get stored.rows r)
    pub cells : (p : Position) → IsFound (OverrideStands calls p.row p.col (length calls)) (get stored.cells p)

  -- whatever the history of the map, it becomes this and then the further calls
  abbrev pub AppendsCalls : Stored T → Stored T → List (MapCall T) → Type 0
  AppendsCalls old new further = (given : T) → told.AppendsHistory (HasMapHistory given) old new further

  -- no value is stored for a column, a row or a cell
  pub record HasNothing (stored : Stored T) : Type 0 where
    pub columns : (c : ℕ) → get stored.columns c ≡ None
    pub rows : (r : ℕ) → get stored.rows r ≡ None
    pub cells : (p : Position) → get stored.cells p ≡ None

  -- the value stored for an entity
  abbrev pub held_for : Stored T → Entity → Option T
  held_for stored Global = Some stored.global
  held_for stored (Column c) = get stored.columns c
  held_for stored (Row r) = get stored.rows r
  held_for stored (Cell r c) = get stored.cells (record { row = r; col = c })

  -- the value is stored for some entity
  abbrev pub HoldsValue : Stored T → T → Type 0
  HoldsValue stored v = (entity : Entity) × (held_for stored entity ≡ Some v)
