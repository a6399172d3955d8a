-- Counts over a beginning of a list and what comes after it.
use Rattle.std.proofs.Common.{◌≡◌, ℕ, ◌+◌, ◌-◌, ◌≤◌, Bool, List, length, ap, ◌∙◌, arith, take, drop, count_by, cond}
use Rattle.std.proofs.lemmas.List.Sums.{sum_by-append, sum_by-take-drop, count_by-le-length}
use Rattle.std.proofs.lemmas.List.{length-drop, length-take, take_all}
use Rattle.std.proofs.Math.Seq.{take-add}

pub count_more : (p : ℕ → Bool) (n m : ℕ) (xs : List ℕ) → count_by p (take (n + m) xs) ≡ count_by p (take n xs) + count_by p (take m (drop n xs))
count_more p n m xs = ap (count_by p) (take-add n m xs) ∙ sum_by-append (λ x. cond (p x) 1 0) (take n xs) (take m (drop n xs))

pub count_fits : (p : ℕ → Bool) (n m a b : ℕ) (xs : List ℕ) → a ≡ count_by p (take n xs) → b ≡ count_by p (take m (drop n xs)) → a + b ≤ length xs
count_fits p n m a b xs e f =
    let few = count_by-le-length p (take (n + m) xs) in
    let part = length-take (n + m) xs in
    omega (arith, count_more p n m xs)

-- the count of a beginning and that of all that is left
pub count_whole : (p : ℕ → Bool) (n : ℕ) (xs : List ℕ) → n ≤ length xs → count_by p (take n xs) + count_by p (take (length xs - n) (drop n xs)) ≡ count_by p xs
count_whole p n xs below = grind (arith, length-drop, take_all, sum_by-take-drop)
