-- When two maps hold the same.
use Rattle.std.specs.Prelude.{Bool, ◌&&◌}
use Rattle.papergrid_values.specs.Equal.{numbers_eq, positions_eq}
use Rattle.papergrid_maps.specs.StoredMap.{Stored}

-- the global values are equal, and the columns, the rows and the cells have equal values
abbrev pub stored_eq : {T : Type 0} → (T → T → Bool) → Stored T → Stored T → Bool
stored_eq eq m n =
    eq m.global n.global
    && (numbers_eq eq m.columns n.columns
    && (numbers_eq eq m.rows n.rows && positions_eq eq m.cells n.cells))
