-- The test of whether two tables of overrides hold the same.
use Rattle.std.specs.Prelude.{Bool, true, ◌&&◌, ◌||◌, unwrap_or}
use Rattle.std.specs.Cmp.{IsPartialEquivalence, and_per, on_per}
use Rattle.std.specs.FinMap.{FinMap, empty, get, keys, retain_keys}
use Rattle.std.specs.List.{list_any}
use Rattle.std.specs.Ordering.{nat_cmp}
use Rattle.papergrid_values.specs.Equal.{numbers_eq, positions_eq}
use Rattle.papergrid_values.specs.ForProofs.EqualLaws.{numbers_laws, positions_laws}
use Rattle.papergrid_values.specs.MapKeys.{position_cmp}
use Rattle.papergrid_tables.specs.Overrides.{StoredOffsets}

module _ {T : Type 0} where
  -- no override
  abbrev pub no_offsets : StoredOffsets T
  no_offsets = record { from_start = empty; from_end = empty }

  -- whether a map holds anything
  abbrev pub has_number : FinMap nat_cmp T → Bool
  has_number m = list_any (λ _. true) (keys m)

  -- an override is stored, from either end
  abbrev pub has_override : StoredOffsets T → Bool
  has_override stored = has_number stored.from_start || has_number stored.from_end

  -- the positions that have an override, with theirs
  abbrev pub with_overrides : FinMap position_cmp (StoredOffsets T) → FinMap position_cmp (StoredOffsets T)
  with_overrides stored = retain_keys stored (λ p. has_override (unwrap_or (get stored p) no_offsets))

module _ {T : Type 0} (eq : T → T → Bool) where
  -- whether two positions have the same overrides
  abbrev pub offsets_eq : StoredOffsets T → StoredOffsets T → Bool
  offsets_eq s t = numbers_eq eq s.from_start t.from_start && numbers_eq eq s.from_end t.from_end

  -- a position that is kept with no override counts for nothing
  abbrev pub overrides_eq : FinMap position_cmp (StoredOffsets T) → FinMap position_cmp (StoredOffsets T) → Bool
  overrides_eq s t = positions_eq offsets_eq (with_overrides s) (with_overrides t)

pub offsets_eq_laws : {T : Type 0} (eq : T → T → Bool) → IsPartialEquivalence eq → IsPartialEquivalence (offsets_eq eq)
offsets_eq_laws {T} eq laws =
    and_per (on_per (λ (s : StoredOffsets T). s.from_start) (numbers_laws eq laws)) (on_per (λ (s : StoredOffsets T). s.from_end) (numbers_laws eq laws))

pub overrides_eq_laws : {T : Type 0} (eq : T → T → Bool) → IsPartialEquivalence eq → IsPartialEquivalence (overrides_eq eq)
overrides_eq_laws eq laws = on_per with_overrides (positions_laws (offsets_eq eq) (offsets_eq_laws eq laws))
