-- Overrides at the offsets of positions: what the calls leave, what is stored, and what is found.
use Rattle.std.specs.Prelude.{◌≡◌, ℕ, ◌-◌, ◌==◌, ◌&&◌, nat_lt, Bool, true, false, if◌then◌else◌, List, [], ◌∷◌, reverse, Option, Some, None, IsSome, option_and_then}
use Rattle.std.specs.FinMap.{FinMap, get}
use Rattle.std.specs.Option.{option_eq, option_or}
use Rattle.std.specs.Ordering.{nat_cmp}
use Rattle.papergrid_values.specs.declared.offset.Offset.{Offset}
use Rattle.papergrid_values.specs.declared.offset.Offset.TheVariants.{Start, End}
use Rattle.papergrid_values.specs.declared.position.Position.{Position}
use Rattle.papergrid_values.specs.MapKeys.{position_cmp, position_eq}

-- the calls that change overrides
pub data OffsetCall (T : Type 0) : Type 0 where
  SetAt : Position → Offset → T → OffsetCall T
  RemoveAt : Position → OffsetCall T
  RemoveAll : OffsetCall T

-- whether two offsets are the same
abbrev pub is_same_offset : Offset → Offset → Bool
is_same_offset (Start m) (Start n) = m == n
is_same_offset (End m) (End n) = m == n
is_same_offset a b = false

-- the overrides of one position
pub record StoredOffsets (T : Type 0) : Type 0 where
  pub from_start : FinMap nat_cmp T
  pub from_end : FinMap nat_cmp T

module _ {T : Type 0} where
  -- the override of a position at an offset after a call, by those before it
  abbrev pub override_after_call : OffsetCall T → (Position → Offset → Option T) → Position → Offset
      → Option T
  override_after_call (SetAt q k v) old p o =
      if position_eq q p && is_same_offset k o then Some v else old p o
  override_after_call (RemoveAt q) old p o = if position_eq q p then None else old p o
  override_after_call RemoveAll old p o = None

  -- what the calls leave there; the newest call first
  abbrev pub overrides_from : List (OffsetCall T) → Position → Offset → Option T
  overrides_from [] = λ _ _. None
  overrides_from (call ∷ older) = override_after_call call (overrides_from older)

  -- the override at an offset
  abbrev pub at_offset : StoredOffsets T → Offset → Option T
  at_offset stored (Start n) = get stored.from_start n
  at_offset stored (End n) = get stored.from_end n

  -- what is stored for a position at an offset
  abbrev pub override_at : FinMap position_cmp (StoredOffsets T) → Position → Offset → Option T
  override_at stored p o = option_and_then (λ offsets. at_offset offsets o) (get stored p)

  -- a new table that was given the calls holds this
  abbrev pub HasOverrideHistory : List (OffsetCall T) → FinMap position_cmp (StoredOffsets T) → Type 0
  HasOverrideHistory calls stored =
      (p : Position) (o : Offset) → override_at stored p o ≡ overrides_from (reverse calls) p o

  -- what is found at an offset of an end: the one from the start, or else the one from the end
  abbrev pub found_override : (Offset → Option T) → ℕ → ℕ → Option T
  found_override stored offset limit =
      option_or (stored (Start offset)) (if nat_lt offset limit then stored (End (limit - offset - 1)) else None)

  -- the position has an override
  abbrev pub IsOverridden : FinMap position_cmp (StoredOffsets T) → Position → Type 0
  IsOverridden stored p = (o : Offset) × IsSome (override_at stored p o)

  -- at each position and offset both tables hold equal values, or neither holds one
  abbrev pub HoldTheSame : (T → T → Bool) → FinMap position_cmp (StoredOffsets T) → FinMap position_cmp (StoredOffsets T) → Type 0
  HoldTheSame eq s t =
      (p : Position) (o : Offset) → option_eq eq (override_at s p o) (override_at t p o) ≡ true
