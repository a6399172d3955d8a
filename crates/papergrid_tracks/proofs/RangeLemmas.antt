-- Disjoint ranges split a total into their own sums and what lies outside of them.
use Rattle.std.proofs.Common.{◌≡◌, ℕ, zero, suc, ◌+◌, ◌-◌, ◌<◌, ◌≤◌, Bool, true, false, cond, ◌⊎◌, inl, inr, List, [], ◌∷◌, sum_by, refl, arith, rules}
use Rattle.std.specs.Prelude.{AllPairs, ⊤}
use Rattle.std.specs.List.{AllByRecursion, list_any}
use Rattle.std.proofs.lemmas.List.Sums.{sum_by-cons}
use Rattle.std.proofs.lemmas.List.Elements.{recursion_from_All, All-from_recursion}
use Rattle.std.proofs.lemmas.Bool.{or_from, false≢true}
use Rattle.papergrid_tracks.specs.declared.demand.Demand.{Demand}
use Rattle.papergrid_tracks.specs.Ranges.{end_of, holds, AreDisjoint}
use Rattle.papergrid_tracks.proofs.Upto.{upto, upto-ext, upto-zero, upto-add, upto-split, within, holds_cases}

-- f on the range, 0 elsewhere
abbrev pub masked : (ℕ → ℕ) → Demand → ℕ → ℕ
masked f d i = cond (holds d i) (f i) 0

pub masked_in : (f : ℕ → ℕ) (d : Demand) (i : ℕ) → d.start ≤ i → i < end_of d → masked f d i ≡ f i
masked_in f d i l l' = grind (arith, holds_cases)

pub masked_out : (f : ℕ → ℕ) (d : Demand) (i : ℕ) → (i < d.start) ⊎ (end_of d ≤ i) → masked f d i ≡ 0
masked_out f d i out = grind (arith, holds_cases)

pub masked_sum : (f : ℕ → ℕ) (d : Demand) (n : ℕ) → end_of d ≤ n → upto (masked f d) n ≡ within f d
masked_sum f d n le =
    let r : ℕ = n - end_of d in
    let e : n ≡ d.start + (d.span + r) = omega arith in
    let a = upto-split (masked f d) d.start (d.span + r) in
    let b = upto-split (λ i. masked f d (d.start + i)) d.span r in
    let before : upto (masked f d) d.start ≡ 0 = upto-zero (masked f d) d.start (λ i l. masked_out f d i (inl l)) in
    let after : upto (λ i. masked f d (d.start + (d.span + i))) r ≡ 0 =
    upto-zero (λ i. masked f d (d.start + (d.span + i))) r (λ i l. masked_out f d (d.start + (d.span + i)) (inr (omega arith))) in
    let inside : upto (λ i. masked f d (d.start + i)) d.span ≡ within f d =
    upto-ext (λ i. masked f d (d.start + i)) (λ i. f (d.start + i)) d.span (λ i l. masked_in f d (d.start + i) (omega arith) (omega arith)) in
    rw e (omega arith)

-- pairwise disjoint, by recursion
abbrev pub ArePairwiseDisjoint : List Demand → Type 0
ArePairwiseDisjoint [] = ⊤
ArePairwiseDisjoint (d ∷ ds) = AllByRecursion (AreDisjoint d) ds × ArePairwiseDisjoint ds

pub ArePairwiseDisjoint-from_AllPairs : (ds : List Demand) → AllPairs AreDisjoint ds → ArePairwiseDisjoint ds
ArePairwiseDisjoint-from_AllPairs [] h = tt
ArePairwiseDisjoint-from_AllPairs (d ∷ ds) h = (
  recursion_from_All (AreDisjoint d) ds (λ k e l. h 0 (suc k) e (omega arith) (omega arith)),
  ArePairwiseDisjoint-from_AllPairs ds (λ i j e l l'. h (suc i) (suc j) e (omega arith) (omega arith)),
)

pub AllPairs-from_pairwise : (ds : List Demand) → ArePairwiseDisjoint ds → AllPairs AreDisjoint ds
AllPairs-from_pairwise [] h i j e l l' = absurd (omega arith)
AllPairs-from_pairwise (d ∷ ds) h zero zero e l l' = absurd (omega arith)
AllPairs-from_pairwise (d ∷ ds) h zero (suc j) e l l' = All-from_recursion (AreDisjoint d) ds h.0 j e (omega arith)
AllPairs-from_pairwise (d ∷ ds) h (suc i) zero e l l' = absurd (omega arith)
AllPairs-from_pairwise (d ∷ ds) h (suc i) (suc j) e l l' = AllPairs-from_pairwise ds h.1 i j e (omega arith) (omega arith)

-- whether some range of the list holds i
abbrev pub covered : List Demand → ℕ → Bool
covered ds i = list_any (λ d. holds d i) ds

-- f outside of the ranges, 0 on them
abbrev pub outside : List Demand → (ℕ → ℕ) → ℕ → ℕ
outside ds f i = cond (covered ds i) 0 (f i)

pub not_both : (a b : Demand) (i : ℕ) → AreDisjoint a b → holds a i ≡ true → holds b i ≡ false
not_both a b i disjoint h = grind (arith, holds_cases, false≢true)

pub not_covered : (a : Demand) (ds : List Demand) (i : ℕ) → AllByRecursion (AreDisjoint a) ds → holds a i ≡ true → covered ds i ≡ false
not_covered a [] i disjoint h = refl
not_covered a (d ∷ ds) i disjoint h = or_from (holds d i) (covered ds i) (not_both a d i disjoint.0 h) (not_covered a ds i disjoint.1 h)

outside-cons : (f : ℕ → ℕ) (d : Demand) (ds : List Demand) (i : ℕ) → AllByRecursion (AreDisjoint d) ds → outside ds f i ≡ masked f d i + outside (d ∷ ds) f i
outside-cons f d ds i disjoint = grind (arith, holds_cases, not_covered)

-- the total is the sums of disjoint ranges and what lies outside
pub partition : (f : ℕ → ℕ) (n : ℕ) (ds : List Demand) → AllByRecursion (λ d. end_of d ≤ n) ds → ArePairwiseDisjoint ds → upto f n ≡ sum_by (within f) ds + upto (outside ds f) n
partition f n [] inside disjoint = omega arith
partition f n (d ∷ ds) inside disjoint =
    let a : upto (outside ds f) n ≡ upto (λ i. masked f d i + outside (d ∷ ds) f i) n = grind (arith, upto-ext, outside-cons) in
    let b : upto (λ i. masked f d i + outside (d ∷ ds) f i) n ≡ upto (masked f d) n + upto (outside (d ∷ ds) f) n = search (rules, upto-add) in
    omega (arith, partition f n ds inside.1 disjoint.1, masked_sum f d n inside.0, sum_by-cons (within f) d ds)
