-- Values that are written to the front of a list, one by one.
use Rattle.std.proofs.Common.{◌≡◌, ◌∙◌, ◌+◌, ◌<◌, ℕ, zero, suc, List, [], ◌∷◌, ◌++◌, ap, arith, drop, get_or, length, map, refl, set, take}

module _ {A B : Type 0} (f : A → B) where
  set-next : (i : ℕ) (xs : List A) (old : List B) (d : A) → i < length xs → i < length old →
      set (map f (take i xs) ++ drop i old) i (f (get_or xs i d)) ≡ map f (take (suc i) xs) ++ drop (suc i) old
  set-next i [] old d within room = absurd (omega (arith, within))
  set-next i (x ∷ xs) [] d within room = absurd (omega (arith, room))
  set-next zero (x ∷ xs) (o ∷ old) d within room = refl
  set-next (suc i) (x ∷ xs) (o ∷ old) d within room = ap (λ ys. f x ∷ ys) (set-next i xs old d (omega (arith, within)) (omega (arith, room)))

  -- one more
  pub set-more : (i : ℕ) (xs : List A) (old : List B) (d : A) → i < length xs → i < length old →
      set (map f (take i xs) ++ drop i old) i (f (get_or xs i d)) ≡ map f (take (i + 1) xs) ++ drop (i + 1) old
  set-more i xs old d within room =
      let next : suc i ≡ i + 1 = omega arith in
      set-next i xs old d within room ∙ ap (λ n. map f (take n xs) ++ drop n old) next
