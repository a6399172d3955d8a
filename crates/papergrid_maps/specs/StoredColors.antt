-- A map of colours by entity that is empty.
use Rattle.std.specs.Prelude.{◌≡◌, Option, None}
use Rattle.papergrid_maps.specs.StoredMap.{Stored, HasNothing}

-- nothing is stored for a column, a row or a cell, and the whole table has no colour
pub record IsBlank {C : Type 0} (stored : Stored (Option C)) : Type 0 where
  pub nothing : HasNothing stored
  pub global : stored.global ≡ None
