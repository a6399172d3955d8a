-- Sums over lists that are made by `filter_map` and `find`.
use Rattle.std.proofs.Common.{◌≡◌, ℕ, zero, suc, ◌+◌, ◌<◌, ◌≤◌, max, Bool, true, false, cond, ◌&&◌, ◌==◌, inl, inr, List, [], ◌∷◌, sum_by, refl, ap, arith, eqb, eq-eqb, ne_eqb, Option, Some, None, rules}
use Rattle.std.specs.Prelude.{find, filter_map}
use Rattle.std.specs.List.{AllByRecursion, range_with_len, cons_option}
use Rattle.std.proofs.lemmas.Bool.{cases_Bool, cases_eq, and_from, and_left, and_right}
use Rattle.std.proofs.lemmas.List.Sums.{sum_by-cons}
use Rattle.papergrid_tracks.specs.declared.demand.Demand.{Demand}
use Rattle.papergrid_tracks.specs.Ranges.{AreDisjoint}
use Rattle.papergrid_tracks.specs.Fits.{greatest_minimum}
use Rattle.papergrid_tracks.proofs.Upto.{upto, upto-ext, upto-zero, upto-add, upto-front}
use Rattle.papergrid_tracks.proofs.RangeLemmas.{ArePairwiseDisjoint}

-- the weight of a cell, 0 where there is none
abbrev pub weight : (Demand → ℕ) → Option Demand → ℕ
weight w None = 0
weight w (Some d) = w d

sum_by-cons_option : (w : Demand → ℕ) (o : Option Demand) (ds : List Demand) → sum_by w (cons_option o ds) ≡ weight w o + sum_by w ds
sum_by-cons_option w None ds = omega arith
sum_by-cons_option w (Some d) ds = sum_by-cons w d ds

sum_by-filter_map_from : (w : Demand → ℕ) (h : ℕ → Option Demand) (a n : ℕ) → sum_by w (filter_map h (range_with_len a n)) ≡ upto (λ i. weight w (h (a + i))) n
sum_by-filter_map_from w h a zero = refl
sum_by-filter_map_from w h a (suc n) =
    let e : sum_by w (filter_map h (range_with_len (a + 1) n)) ≡ upto (λ i. weight w (h (a + 1 + i))) n = sum_by-filter_map_from w h (a + 1) n in
    let s : sum_by w (filter_map h (range_with_len a (suc n))) ≡ weight w (h a) + sum_by w (filter_map h (range_with_len (a + 1) n)) =
    sum_by-cons_option w (h a) (filter_map h (range_with_len (a + 1) n)) in
    let f : upto (λ i. weight w (h (a + i))) (suc n) ≡ weight w (h (a + 0)) + upto (λ i. weight w (h (a + suc i))) n = upto-front (λ i. weight w (h (a + i))) n in
    let z : weight w (h (a + 0)) ≡ weight w (h a) = ap (λ k. weight w (h k)) (let e' : a + 0 ≡ a = omega arith in e') in
    let x : upto (λ i. weight w (h (a + suc i))) n ≡ upto (λ i. weight w (h (a + 1 + i))) n =
    upto-ext (λ i. weight w (h (a + suc i))) (λ i. weight w (h (a + 1 + i))) n (λ i l. ap (λ k. weight w (h k)) (let e' : a + suc i ≡ a + 1 + i = omega arith in e')) in
    omega arith

pub sum_by-filter_map : (w : Demand → ℕ) (h : ℕ → Option Demand) (n : ℕ) → sum_by w (filter_map h (range_with_len 0 n)) ≡ upto (λ i. weight w (h i)) n
sum_by-filter_map w h n = grind (arith, sum_by-filter_map_from, upto-ext)

-- what holds of each cell found holds of the list made of them
pub filter_map-all : (P : Demand → Type 0) (h : ℕ → Option Demand) (is : List ℕ) → ((i : ℕ) (d : Demand) → h i ≡ Some d → P d) → AllByRecursion P (filter_map h is)
filter_map-all P h [] each = tt
filter_map-all P h (i ∷ is) each = search (rules, step, filter_map-all P h is each)
  where
    step : AllByRecursion P (filter_map h is) → (o : Option Demand) → h i ≡ o → AllByRecursion P (cons_option o (filter_map h is))
    step rest None e = rest
    step rest (Some d) e = (each i d e, rest)

-- the same from a on: the cells found at a or later
pub filter_map-all_from : (P : Demand → Type 0) (h : ℕ → Option Demand) (a n : ℕ) → ((i : ℕ) (d : Demand) → a ≤ i → h i ≡ Some d → P d) →
    AllByRecursion P (filter_map h (range_with_len a n))
filter_map-all_from P h a zero each = tt
filter_map-all_from P h a (suc n) each = step (filter_map-all_from P h (a + 1) n (λ i d l e. each i d (omega arith) e)) (h a) refl
  where
    step : AllByRecursion P (filter_map h (range_with_len (a + 1) n)) → (o : Option Demand) → h a ≡ o →
        AllByRecursion P (cons_option o (filter_map h (range_with_len (a + 1) n)))
    step rest None e = rest
    step rest (Some d) e = (each a d (omega arith) e, rest)

-- cells found at different numbers are disjoint, so all are
pub ArePairwiseDisjoint-filter_map : (h : ℕ → Option Demand) (a n : ℕ) → ((i j : ℕ) (d e : Demand) → i < j → h i ≡ Some d → h j ≡ Some e → AreDisjoint d e) →
    ArePairwiseDisjoint (filter_map h (range_with_len a n))
ArePairwiseDisjoint-filter_map h a zero each = tt
ArePairwiseDisjoint-filter_map h a (suc n) each = step (ArePairwiseDisjoint-filter_map h (a + 1) n each) (h a) refl
  where
    step : ArePairwiseDisjoint (filter_map h (range_with_len (a + 1) n)) → (o : Option Demand) → h a ≡ o → ArePairwiseDisjoint (cons_option o (filter_map h (range_with_len (a + 1) n)))
    step rest None e = rest
    step rest (Some d) e = (filter_map-all_from (AreDisjoint d) h (a + 1) n (λ j f l e'. each a j d f (omega arith) e e'), rest)

-- what `find` finds passes the test, and is in the list
pub find-all : (P : Demand → Type 0) (test : Demand → Bool) (ds : List Demand) (d : Demand) → AllByRecursion P ds → find test ds ≡ Some d → (test d ≡ true) × P d
find-all P test [] d all e = grind arith
find-all P test (x ∷ ds) d all e = elim (cases_Bool (test x)) [
  | inl t ↦ grind arith
  | inr f ↦ find-all P test ds d all.1 (rw f at e)
]

pub find-none : (test : Demand → Bool) (ds : List Demand) → AllByRecursion (λ d. test d ≡ false) ds → find test ds ≡ None
find-none test [] all = refl
find-none test (d ∷ ds) all = rw all.0 (find-none test ds all.1)

-- one number alone
pub upto-single : (s v n : ℕ) → s < n → upto (λ i. cond (eqb s i) v 0) n ≡ v
upto-single s v zero l = absurd (omega arith)
upto-single s v (suc n) l = elim (cases_eq s n) [
  | inl e ↦ grind (arith, upto-zero, eq-eqb)
  | inr ne ↦
      rw (ne_eqb s n ne) (omega (arith, upto-single s v n (omega arith)))
]

-- disjoint cells that cover something start at different numbers
starts_differ : (d : Demand) (ds : List Demand) (i : ℕ) → 1 ≤ d.span → AllByRecursion (λ e. 1 ≤ e.span) ds → AllByRecursion (AreDisjoint d) ds → d.start ≡ i →
    AllByRecursion (λ e. eqb e.start i ≡ false) ds
starts_differ d [] i one ones disjoint e = tt
starts_differ d (c ∷ ds) i one ones disjoint e = grind (arith, starts_differ d ds i one ones.1 disjoint.1 e)

-- each of the cells is found at its start
pub sum-by_start : (w : Demand → ℕ) (n : ℕ) (ds : List Demand) → AllByRecursion (λ d. 1 ≤ d.span) ds → AllByRecursion (λ d. d.start < n) ds → ArePairwiseDisjoint ds →
    upto (λ i. weight w (find (λ d. d.start == i) ds)) n ≡ sum_by w ds
sum-by_start w n [] ones inside disjoint = upto-zero (λ i. 0) n (λ i l. refl)
sum-by_start w n (d ∷ ds) ones inside disjoint =
    let each : (i : ℕ) → i < n → weight w (find (λ e. e.start == i) (d ∷ ds)) ≡ cond (eqb d.start i) (w d) 0 + weight w (find (λ e. e.start == i) ds) = λ i l. at i in
    let a : upto (λ i. weight w (find (λ e. e.start == i) (d ∷ ds))) n ≡ upto (λ i. cond (eqb d.start i) (w d) 0 + weight w (find (λ e. e.start == i) ds)) n =
    upto-ext (λ i. weight w (find (λ e. e.start == i) (d ∷ ds))) (λ i. cond (eqb d.start i) (w d) 0 + weight w (find (λ e. e.start == i) ds)) n each in
    let b = upto-add (λ i. cond (eqb d.start i) (w d) 0) (λ i. weight w (find (λ e. e.start == i) ds)) n in
    omega (arith, upto-single d.start (w d) n inside.0, sum-by_start w n ds ones.1 inside.1 disjoint.1, sum_by-cons w d ds)
  where
    at : (i : ℕ) → weight w (find (λ e. e.start == i) (d ∷ ds)) ≡ cond (eqb d.start i) (w d) 0 + weight w (find (λ e. e.start == i) ds)
    at i = elim (cases_eq d.start i) [
      | inl e ↦
          let none : find (λ c. c.start == i) ds ≡ None = find-none (λ c. c.start == i) ds (starts_differ d ds i ones.0 ones.1 disjoint.0 e) in
          rw (eq-eqb d.start i e, none) (omega arith)
      | inr ne ↦ rw (ne_eqb d.start i ne) (omega arith)
    ]

-- a greatest minimum size above 0 is the minimum size of some cell
pub find-greatest : (test : Demand → Bool) (ds : List Demand) (v : ℕ) → 0 < v → greatest_minimum test ds ≡ v →
    (d : Demand) × (find (λ e. test e && e.minimum == v) ds ≡ Some d)
find-greatest test [] v positive e = absurd (omega arith)
find-greatest test (d ∷ ds) v positive e = elim (cases_Bool (test d)) [
  | inr f ↦
      rw (and_left (test d) (eqb d.minimum v) f) (find-greatest test ds v positive (rw f at e))
  | inl t ↦
      let e' : max d.minimum (greatest_minimum test ds) ≡ v = rw t at e in
      elim (cases_eq d.minimum v) [
        | inl same ↦ rw (and_from (test d) (eqb d.minimum v) t (eq-eqb d.minimum v same)) (d, refl)
        | inr ne ↦
            rw (and_right (test d) (eqb d.minimum v) (ne_eqb d.minimum v ne)) (find-greatest test ds v positive (omega arith))
      ]
]
