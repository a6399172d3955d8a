-- What calls of a reader or a writer do to what they tell of themselves.
use Rattle.std.specs.Prelude.{◌≡◌, ◌⊎◌, ℕ, Bool, false, true, Option, Result, List, length, nat_eq, not, take, ◌&&◌, ◌||◌, Ok, Err}
use Rattle.std.specs.Io.KnownBytes.{Appends}

-- whether it has failed, after a call with this result
abbrev pub failed_after : {X E : Type 0} → Bool → Result X E → Bool
failed_after before (Ok x) = before
failed_after before (Err e) = true

-- whether it has ever taken nothing of a piece that isn't empty, after a call with this result
abbrev pub stalled_after : {E : Type 0} → Bool → Result ℕ E → List ℕ → Bool
stalled_after before (Ok n) piece = before || (nat_eq n 0 && not (nat_eq (length piece) 0))
stalled_after before (Err e) piece = before

-- a writer, by what it tells
module _ {W : Type 0} (contents : W → Option (List ℕ)) (has_failed has_stalled : W → Bool) where
  -- all the bytes were taken. Whether a write has failed, and whether one took nothing, is as before
  pub record IsTaken (old : W) (bytes : List ℕ) (new : W) : Type 0 where
    pub bytes_are : Appends (contents old) (contents new) bytes
    pub works : has_failed new ≡ has_failed old
    pub moves : has_stalled new ≡ has_stalled old

  -- a beginning of them was taken
  abbrev pub HasBegun : W → List ℕ → W → Type 0
  HasBegun old bytes new = (n : ℕ) × Appends (contents old) (contents new) (take n bytes)

  -- what can be known of a sink that did not take all
  abbrev pub HasEnded : W → W → Type 0
  HasEnded old new = (has_failed new ≡ true) ⊎ (has_stalled old ≡ false → has_stalled new ≡ true)

  -- whether a write has failed, and whether one took nothing, is as before
  abbrev pub IsSteady : W → W → Type 0
  IsSteady old new = (has_failed new ≡ has_failed old) × (has_stalled new ≡ has_stalled old)
