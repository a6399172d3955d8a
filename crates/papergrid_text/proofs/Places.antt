-- The first places of bytes: of either of two, in a front of a list, and further on in it.
use Rattle.std.proofs.Common.{◌≡◌, ℕ, zero, suc, ◌+◌, ◌<◌, ◌≤◌, ◌||◌, Bool, true, false, not, cond, min, List, [], ◌∷◌, length, get_or, take, drop, refl, sym, arith}
use Rattle.std.specs.Prelude.{◌==◌}
use Rattle.std.specs.List.{position_or_len}
use Rattle.std.proofs.lemmas.Bool.{eqb-true, eq-eqb, true≢false, cases_lt}
use Rattle.std.proofs.lemmas.List.Sums.{prefix_len-le-length, prefix_len_passes, prefix_len_stops}

earlier : (v w : Bool) (m a b : ℕ) → m ≡ min a b → cond (not (v || w)) (1 + m) 0 ≡ min (cond (not v) (1 + a) 0) (cond (not w) (1 + b) 0)
earlier true true m a b h = omega arith
earlier true false m a b h = omega arith
earlier false true m a b h = omega arith
earlier false false m a b h = omega arith

pub first_of_either : (p q : ℕ → Bool) (xs : List ℕ) → position_or_len (λ b. p b || q b) xs ≡ min (position_or_len p xs) (position_or_len q xs)
first_of_either p q [] = omega arith
first_of_either p q (x ∷ xs) = earlier (p x) (q x) _ _ _ (first_of_either p q xs)

in_front_step : (v : Bool) (m a n : ℕ) → m ≡ min a n → cond (not v) (1 + m) 0 ≡ min (cond (not v) (1 + a) 0) (suc n)
in_front_step true m a n h = omega arith
in_front_step false m a n h = omega arith

pub first_in_front : (p : ℕ → Bool) (xs : List ℕ) (n : ℕ) → position_or_len p (take n xs) ≡ min (position_or_len p xs) n
first_in_front p [] zero = omega arith
first_in_front p [] (suc n) = omega arith
first_in_front p (x ∷ xs) zero = omega arith
first_in_front p (x ∷ xs) (suc n) = in_front_step (p x) _ _ n (first_in_front p xs n)

further_step : (v : Bool) (a k n : ℕ) → suc n ≤ cond (not v) (1 + a) 0 → (n ≤ a → a ≡ n + k) → cond (not v) (1 + a) 0 ≡ suc n + k
further_step true a k n within later = absurd (omega arith)
further_step false a k n within later = let e : a ≡ n + k = later (omega arith) in omega arith

-- none is passed over
pub first_further : (p : ℕ → Bool) (xs : List ℕ) (n : ℕ) → n ≤ position_or_len p xs → position_or_len p xs ≡ n + position_or_len p (drop n xs)
first_further p xs zero within = omega arith
first_further p [] (suc n) within = absurd (omega arith)
first_further p (x ∷ xs) (suc n) within = further_step (p x) _ _ n within (first_further p xs n)

pub no_more_than : (xs : List ℕ) (b : ℕ) → position_or_len (λ x. x == b) xs ≤ length xs
no_more_than xs b = prefix_len-le-length (λ x. not (x == b)) xs

passed : (v : Bool) → v ≡ true → not v ≡ true → ⊥
passed true is isnt = true≢false (sym isnt)
passed false is isnt = true≢false (sym is)

-- no place before it holds the byte
pub no_later : (xs : List ℕ) (b n : ℕ) → get_or xs n 0 ≡ b → position_or_len (λ x. x == b) xs ≤ n
no_later xs b n at = grind (arith, cases_lt, passed, eq-eqb, prefix_len_passes)

from_not : (v : Bool) → not v ≡ false → v ≡ true
from_not true h = refl
from_not false h = absurd (true≢false h)

-- a first place that is no end holds the byte
pub is_there : (xs : List ℕ) (b n : ℕ) → n ≡ position_or_len (λ x. x == b) xs → ¬ (n ≡ length xs) → (n < length xs) × (get_or xs n 0 ≡ b)
is_there xs b n is other = grind (arith, no_more_than, prefix_len_stops, eqb-true, from_not)
