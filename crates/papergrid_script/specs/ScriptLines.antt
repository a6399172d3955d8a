-- The lines of a script.
use Rattle.std.specs.Prelude.{◌≡◌, ◌≢◌, ◌⊎◌, ℕ, List, [], ◌∷◌, ◌++◌}
use Rattle.std.specs.List.{AllZip}
use Rattle.papergrid_text.specs.Text.{IsLines}

-- the byte of a carriage return
abbrev pub carriage_return : ℕ
carriage_return = 13

-- the one list is the other without one such element at its end. Or the other ends with no such
-- element, and both are the same
abbrev pub IsWithoutLast : {A : Type 0} → A → List A → List A → Type 0
IsWithoutLast x all kept = (all ≡ kept ++ x ∷ []) ⊎ (((front : List _) → all ≢ front ++ x ∷ []) × (kept ≡ all))

-- newline-free pieces that join to the input by newlines, but for an empty last one, each without one carriage return at its end
pub record AreScriptLines (input : List ℕ) (lines : List (List ℕ)) : Type 0 where
  pub pieces : List (List ℕ)
  pub kept : List (List ℕ)
  pub cut : IsLines input pieces
  pub but_empty_last : IsWithoutLast [] pieces kept
  pub each : AllZip (IsWithoutLast carriage_return) kept lines
