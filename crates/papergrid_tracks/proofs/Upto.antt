-- Sums of a function over the numbers below n, and over a range.
use Rattle.std.proofs.Common.{◌≡◌, ℕ, zero, suc, ◌+◌, ◌<◌, ◌≤◌, true, false, ◌⊎◌, inl, inr, List, [], ◌∷◌, length, get_or, take, sum, refl, sym, arith, add-suc, add-zero, get_or-drop}
use Rattle.std.proofs.lemmas.List.Sums.{sum_by-cons}
use Rattle.std.proofs.lemmas.Bool.Decides.{nat_tests}
use Rattle.papergrid_tracks.specs.declared.demand.Demand.{Demand}
use Rattle.papergrid_tracks.specs.Ranges.{end_of, holds}
use Rattle.papergrid_tracks.specs.Fits.{range_sum}

abbrev pub upto : (ℕ → ℕ) → ℕ → ℕ
upto f zero = 0
upto f (suc n) = upto f n + f n

pub upto-ext : (f g : ℕ → ℕ) (n : ℕ) → ((i : ℕ) → i < n → f i ≡ g i) → upto f n ≡ upto g n
upto-ext f g zero h = refl
upto-ext f g (suc n) h =
    let e : upto f n ≡ upto g n = upto-ext f g n (λ i l. h i (omega arith)) in
    omega arith

pub upto-zero : (f : ℕ → ℕ) (n : ℕ) → ((i : ℕ) → i < n → f i ≡ 0) → upto f n ≡ 0
upto-zero f zero h = refl
upto-zero f (suc n) h =
    let e : upto f n ≡ 0 = upto-zero f n (λ i l. h i (omega arith)) in
    omega arith

pub upto-add : (f g : ℕ → ℕ) (n : ℕ) → upto (λ i. f i + g i) n ≡ upto f n + upto g n
upto-add f g zero = refl
upto-add f g (suc n) = grind (arith, upto-add f g n)

pub upto-split : (f : ℕ → ℕ) (a b : ℕ) → upto f (a + b) ≡ upto f a + upto (λ i. f (a + i)) b
upto-split f a zero = rw add-zero (omega arith)
upto-split f a (suc b) = rw add-suc (omega (arith, upto-split f a b))

pub upto-front : (f : ℕ → ℕ) (n : ℕ) → upto f (suc n) ≡ f 0 + upto (λ i. f (suc i)) n
upto-front f zero = omega arith
upto-front f (suc n) = grind (arith, upto-front f n)

pub upto-point : (f : ℕ → ℕ) (n i : ℕ) → i < n → f i ≤ upto f n
upto-point f zero i l = omega arith
upto-point f (suc n) i l = elim (cases_at n i l) [
  | inl e ↦ rw e (omega arith)
  | inr l' ↦ let h : f i ≤ upto f n = upto-point f n i l' in omega arith
]
  where
    cases_at : (n i : ℕ) → i < suc n → (i ≡ n) ⊎ (i < n)
    cases_at n i l = grind arith

-- a list and the function of its index
pub sum-take : (k : ℕ) (xs : List ℕ) → sum (take k xs) ≡ upto (λ i. get_or xs i 0) k
sum-take zero xs = refl
sum-take (suc k) [] = sym (upto-zero (λ i. get_or [] i 0) (suc k) (λ i l. refl))
sum-take (suc k) (x ∷ xs) =
    let e : sum (x ∷ take k xs) ≡ x + sum (take k xs) = sum_by-cons (λ y. y) x (take k xs) in
    let e'' : upto (λ i. get_or (x ∷ xs) i 0) (suc k) ≡ x + upto (λ i. get_or xs i 0) k = upto-front (λ i. get_or (x ∷ xs) i 0) k in
    omega (arith, sum-take k xs)

pub sum-upto : (xs : List ℕ) → sum xs ≡ upto (λ i. get_or xs i 0) (length xs)
sum-upto [] = refl
sum-upto (x ∷ xs) =
    let e : sum (x ∷ xs) ≡ x + sum xs = sum_by-cons (λ y. y) x xs in
    let e'' : upto (λ i. get_or (x ∷ xs) i 0) (suc (length xs)) ≡ x + upto (λ i. get_or xs i 0) (length xs) = upto-front (λ i. get_or (x ∷ xs) i 0) (length xs) in
    omega (arith, sum-upto xs)

-- the sum of f over the range
abbrev pub within : (ℕ → ℕ) → Demand → ℕ
within f d = upto (λ i. f (d.start + i)) d.span

pub range_sum-within : (xs : List ℕ) (d : Demand) → range_sum xs d ≡ within (λ i. get_or xs i 0) d
range_sum-within xs d = grind (arith, sum-take, upto-ext, get_or-drop)

-- whether the range holds i
pub holds_cases : (d : Demand) (i : ℕ) → ((holds d i ≡ true) × (d.start ≤ i) × (i < end_of d)) ⊎ ((holds d i ≡ false) × ((i < d.start) ⊎ (end_of d ≤ i)))
holds_cases d i = grind (arith, nat_tests)

pub holds-inside : (d : Demand) (i : ℕ) → d.start ≤ i → i < end_of d → holds d i ≡ true
holds-inside d i l l' = grind (arith, holds_cases)
