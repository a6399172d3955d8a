-- Entities as keys.
use Rattle.std.specs.Prelude.{Bool, true, false, ◌&&◌, ◌==◌}
use Rattle.papergrid_values.specs.declared.entity.Entity.{Entity}
use Rattle.papergrid_values.specs.declared.entity.Entity.TheVariants.{Global, Column, Row, Cell}

-- the same entity
abbrev pub entity_eq : Entity → Entity → Bool
entity_eq Global Global = true
entity_eq (Column i) (Column j) = i == j
entity_eq (Row i) (Row j) = i == j
entity_eq (Cell i j) (Cell k l) = i == k && j == l
entity_eq x y = false
