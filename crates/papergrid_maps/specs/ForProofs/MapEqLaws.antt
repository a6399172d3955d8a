-- Equality of maps is one where that of their values is.
use Rattle.std.specs.Prelude.{Bool}
use Rattle.std.specs.Cmp.{IsPartialEquivalence, and_per, on_per}
use Rattle.papergrid_values.specs.ForProofs.EqualLaws.{numbers_laws, positions_laws}
use Rattle.papergrid_maps.specs.MapEq.{stored_eq}
use Rattle.papergrid_maps.specs.StoredMap.{Stored}

pub stored_eq_laws : {T : Type 0} (eq : T → T → Bool) → IsPartialEquivalence eq → IsPartialEquivalence (stored_eq eq)
stored_eq_laws {T} eq laws =
    and_per (on_per (λ (m : Stored T). m.global) laws)
    (and_per (on_per (λ (m : Stored T). m.columns) (numbers_laws eq laws))
    (and_per (on_per (λ (m : Stored T). m.rows) (numbers_laws eq laws)) (on_per (λ (m : Stored T). m.cells) (positions_laws eq laws))))
