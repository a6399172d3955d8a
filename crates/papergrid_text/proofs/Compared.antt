-- Lists that are compared from a place on.
use Rattle.std.proofs.Common.{◌≡◌, ℕ, ◌+◌, ◌<◌, List, [], ◌∷◌, length, drop, min, refl, arith, suc}
use Rattle.std.specs.Cmp.{ranked}
use Rattle.std.specs.Cmp.Lexicographic.{slice_cmp}
use Rattle.std.specs.Ordering.{nat_cmp, MatchOrdering}
use Rattle.std.specs.declared.cmp.Ordering.{Ordering}
use Rattle.std.specs.declared.cmp.Ordering.TheVariants.{Less, Equal, Greater}
use Rattle.std.proofs.lemmas.List.{length-drop}

module _ {A : Type 0} (R : A → A → Ordering) where
  by_lengths : (xs ys : List A) (r : Ordering) → min (length xs) (length ys) ≡ 0 → MatchOrdering r (length xs < length ys) (length xs ≡ length ys) (length ys < length xs) → r ≡ slice_cmp R xs ys
  by_lengths [] [] Less none h = let k : 0 < 0 = h in absurd (omega arith)
  by_lengths [] [] Equal none h = refl
  by_lengths [] [] Greater none h = let k : 0 < 0 = h in absurd (omega arith)
  by_lengths [] (y ∷ ys) Less none h = refl
  by_lengths [] (y ∷ ys) Equal none h = let k : 0 ≡ suc (length ys) = h in absurd (omega arith)
  by_lengths [] (y ∷ ys) Greater none h = let k : suc (length ys) < 0 = h in absurd (omega arith)
  by_lengths (x ∷ xs) [] Less none h = let k : suc (length xs) < 0 = h in absurd (omega arith)
  by_lengths (x ∷ xs) [] Equal none h = let k : suc (length xs) ≡ 0 = h in absurd (omega arith)
  by_lengths (x ∷ xs) [] Greater none h = refl
  by_lengths (x ∷ xs) (y ∷ ys) r none h = let k : min (suc (length xs)) (suc (length ys)) ≡ 0 = none in absurd (omega arith)

  shifted : (a b i c d : ℕ) (r : Ordering) → c + i ≡ a → d + i ≡ b → MatchOrdering r (a < b) (a ≡ b) (b < a) → MatchOrdering r (c < d) (c ≡ d) (d < c)
  shifted a b i c d Less p q h = let k : a < b = h in omega arith
  shifted a b i c d Equal p q h = let k : a ≡ b = h in omega arith
  shifted a b i c d Greater p q h = let k : b < a = h in omega arith

  -- where one of the lists has ended, the lengths decide
  pub ended : (xs ys : List A) (i : ℕ) (r : Ordering) → i ≡ min (length xs) (length ys) → r ≡ nat_cmp (length xs) (length ys) → r ≡ slice_cmp R (drop i xs) (drop i ys)
  ended xs ys i r m h =
      let p = length-drop i xs in
      let q = length-drop i ys in
      by_lengths (drop i xs) (drop i ys) r (omega arith) (shifted (length xs) (length ys) i (length (drop i xs)) (length (drop i ys)) r (omega arith) (omega arith) (ranked _ _ r h))
