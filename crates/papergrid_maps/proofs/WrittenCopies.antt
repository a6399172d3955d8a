-- A loop that writes copies of a value at positions.
use Rattle.std.proofs.Common.{◌≡◌, ℕ, ◌+◌, ◌-◌, ◌≤◌, List, length, take, Option, Some, ◌∙◌}
use Rattle.std.proofs.lemmas.List.{take_all}
use Rattle.std.specs.Prelude.{if◌then◌else◌, replicate}
use Rattle.std.specs.Set.{is_member}
use Rattle.papergrid_values.specs.MapKeys.{position_eq}
use Rattle.papergrid_values.specs.declared.position.Position.{Position}

-- the first n positions have the value, the copies for the others are left, and there is room for them
pub record Written {T : Type 0} (n : ℕ) (positions : List Position) (value : T) (copies : List T) (room : ℕ) (now before : Position → Option T) : Type 0 where
  pub within : n ≤ length positions
  pub copies_left : copies ≡ replicate (length positions - n) value
  pub room_left : length positions ≤ n + room
  pub written : (q : Position) → now q ≡ (if is_member position_eq (take n positions) q then Some value else before q)

pub all_written : {T : Type 0} {n : ℕ} {positions : List Position} {value : T} {copies : List T} {room : ℕ} {now before : Position → Option T} (old : Position → Option T)
    → Written n positions value copies room now before → length positions ≤ n → ((q : Position) → before q ≡ old q)
    → (q : Position) → now q ≡ (if is_member position_eq positions q then Some value else old q)
all_written {positions = positions} {value = value} old w all same q =
    w.written q ∙ (λ i. if is_member position_eq (take_all _ positions all i) q then Some value else same q i)
