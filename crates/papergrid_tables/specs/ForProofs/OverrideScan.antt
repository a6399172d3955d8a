-- How the overrides of a position are kept, and what setting one leaves.
use Rattle.std.specs.Prelude.{◌≡◌, if◌then◌else◌, IsSome, List, Option, Some, is_some, option_and_then, refl}
use Rattle.std.specs.Coded.{Coded, code_by, coded×, coded_ℕ}
use Rattle.std.specs.FinMap.{FinMap, code}
use Rattle.std.specs.Map.{lookup}
use Rattle.std.specs.Ordering.{nat_cmp}
use Rattle.papergrid_values.specs.declared.offset.Offset.{Offset}
use Rattle.papergrid_values.specs.declared.position.Position.{Position}
use Rattle.papergrid_values.specs.MapKeys.{position_eq}
use Rattle.papergrid_tables.specs.Overrides.{StoredOffsets, at_offset, is_same_offset}

-- a code of the overrides of a position
abbrev pub offsets_code : {T : Type 0} → Coded T → Coded (StoredOffsets T)
offsets_code {T} c =
    code_by (FinMap nat_cmp T × FinMap nat_cmp T) (coded× (code coded_ℕ c) (code coded_ℕ c))
    (λ h. (h.from_start, h.from_end)) (λ p. record { from_start = p.0; from_end = p.1 }) (λ _. refl)

-- each position with overrides has one
abbrev pub AreSet : {T : Type 0} → List (Position × StoredOffsets T) → Type 0
AreSet {T} es =
    (p : Position) (offsets : StoredOffsets T) → lookup (position_eq p) es ≡ Some offsets → (o : Offset) × IsSome (at_offset offsets o)

-- the position has this value at the offset and what it had at others, and other positions have what they had
pub record AfterSet {T : Type 0} (position : Position) (offset : Offset) (value : T) (old new : Position → Option (StoredOffsets T)) : Type 0 where
  pub offsets : StoredOffsets T
  pub stored : (o : Offset) → at_offset offsets o ≡ (if is_same_offset offset o then Some value else option_and_then (λ h. at_offset h o) (old position))
  pub others : (p : Position) → new p ≡ (if position_eq position p then Some offsets else old p)

-- a copy has values at the same offsets, and equals its original where C ties a value to itself alone
pub record IsCopy {T : Type 0} (C : T → T → Type 0) (old copy : StoredOffsets T) : Type 0 where
  pub offsets : (o : Offset) → is_some (at_offset copy o) ≡ is_some (at_offset old o)
  pub same : ((x y : T) → C x y → y ≡ x) → copy ≡ old
