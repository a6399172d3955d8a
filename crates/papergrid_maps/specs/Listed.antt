-- What is stored, as a hashed map and as a list of cells.
use Rattle.std.specs.Prelude.{◌≡◌, Bool, List, Option, is_some}
use Rattle.std.specs.HashMap.{HashMap, get}
use Rattle.std.specs.Set.{is_member}
use Rattle.papergrid_values.specs.MapKeys.{position_eq}
use Rattle.papergrid_values.specs.declared.entity.Entity.{Entity}
use Rattle.papergrid_values.specs.declared.entity.Entity.TheVariants.{Cell}
use Rattle.papergrid_values.specs.declared.position.Position.{Position}

-- the hashed map has this at each key, or nothing where this is none
abbrev pub HasAtEach : {K V S : Type 0} → (K → K → Bool) → HashMap K V S → (K → Option V) → Type 0
HasAtEach {K} eq all value = (key : K) → get eq all key ≡ value key

-- these are the cells for which something is set, in any order
abbrev pub AreSetCells : {V : Type 0} → (Entity → Option V) → List Position → Type 0
AreSetCells set cells =
    (p : Position) → is_member position_eq cells p ≡ is_some (set (Cell p.row p.col))
