-- All cells of longer spans are taken, and no cell after one that its range lies in.
use Rattle.std.proofs.Common.{◌≡◌, ℕ, zero, suc, ◌+◌, ◌-◌, ◌<◌, ◌≤◌, ◌⊎◌, Bool, true, ◌==◌, inl, inr, List, [], ◌∷◌, ◌++◌, length, get_or, filter, refl, arith, eqb, eq-eqb, eqb-true}
use Rattle.std.specs.Prelude.{All, Contains, flat_map}
use Rattle.std.specs.List.{AllByRecursion, range_with_len}
use Rattle.std.proofs.lemmas.Bool.{cases_Bool, cases_eq}
use Rattle.std.proofs.lemmas.List.{get_or_default}
use Rattle.std.proofs.lemmas.List.Elements.{recursion_from_All, All-from_recursion, All-contains, All-contains_itself, Contains-append_left, Contains-append_right}
use Rattle.papergrid_tracks.specs.declared.demand.Demand.{Demand}
use Rattle.papergrid_tracks.specs.Ranges.{end_of, IsInTable, AreNested, AreDisjoint, IsLaminar}
use Rattle.papergrid_tracks.specs.Sizes.{by_span}
use Rattle.papergrid_tracks.specs.ForProofs.LastCells.{Precedes, IsLaminarInOrder}
use Rattle.papergrid_tracks.proofs.FitBound.{TakesAll, ByRecursion-weaker}

pub Contains-later : (ds : List Demand) (c d : Demand) → Contains ds d → Contains (c ∷ ds) d
Contains-later ds c d m = (suc m.0, omega (arith, m.1), m.2)

-- what passes is in the filter
pub Contains-filter : (test : Demand → Bool) (ds : List Demand) (d : Demand) → Contains ds d → test d ≡ true → Contains (filter test ds) d
Contains-filter test ds d m t = at ds m.0 m.1 m.2
  where
    at : (ds : List Demand) (k : ℕ) → k < length ds → get_or ds k d ≡ d → Contains (filter test ds) d
    at [] k l e = absurd (omega arith)
    at (c ∷ ds) zero l e = rw (e, t) (0, omega arith, refl)
    at (c ∷ ds) (suc k) l e =
        let rest : Contains (filter test ds) d = at ds k (omega arith) e in
        elim (cases_Bool (test c)) [
          | inl y ↦ rw y (Contains-later (filter test ds) c d rest)
          | inr n ↦ rw n rest
        ]

-- what is in the filter passes, and was there
pub filter-all : (P : Demand → Type 0) (test : Demand → Bool) (ds : List Demand) → AllByRecursion P ds → AllByRecursion (λ d. (test d ≡ true) × P d) (filter test ds)
filter-all P test [] all = tt
filter-all P test (d ∷ ds) all = grind (arith, cases_Bool, filter-all P test ds all.1)

ByRecursion-append : (P : Demand → Type 0) (xs ys : List Demand) → AllByRecursion P xs → AllByRecursion P ys → AllByRecursion P (xs ++ ys)
ByRecursion-append P [] ys all all' = all'
ByRecursion-append P (x ∷ xs) ys all all' = (all.0, ByRecursion-append P xs ys all.1 all')

pub cells_themselves : (demands : List Demand) → AllByRecursion (Contains demands) demands
cells_themselves demands = recursion_from_All (Contains demands) demands (All-contains_itself demands)

Contains-get_or_self : (ds : List Demand) (k : ℕ) (d : Demand) → k < length ds → Contains ds (get_or ds k d)
Contains-get_or_self ds k d l = (k, l, get_or_default ds k (get_or ds k d) d l)

-- the cells of one span
abbrev of_span : List Demand → ℕ → List Demand
of_span demands span = filter (λ d. d.span == span) demands

-- a cell of the table whose span is from a on
record IsFrom (demands : List Demand) (a : ℕ) (d : Demand) : Type 0 where
  cell : Contains demands d
  long : a ≤ d.span

of_span-all : (demands : List Demand) (a : ℕ) → AllByRecursion (λ d. (d.span ≡ a) × Contains demands d) (of_span demands a)
of_span-all demands a =
    ByRecursion-weaker (λ d. (eqb d.span a ≡ true) × Contains demands d) (λ d. (d.span ≡ a) × Contains demands d) (λ d h. (eqb-true d.span a h.0, h.1)) (of_span demands a)
    (filter-all (Contains demands) (λ d. d.span == a) demands (cells_themselves demands))

spans_from-all : (demands : List Demand) (a m : ℕ) → AllByRecursion (IsFrom demands a) (flat_map (of_span demands) (range_with_len a m))
spans_from-all demands a zero = tt
spans_from-all demands a (suc m) =
    ByRecursion-append (IsFrom demands a) (of_span demands a) (flat_map (of_span demands) (range_with_len (a + 1) m))
    (ByRecursion-weaker (λ d. (d.span ≡ a) × Contains demands d) (IsFrom demands a) (λ d h. let e : d.span ≡ a = h.0 in record { cell = h.1; long = omega arith }) (of_span demands a) (of_span-all demands a))
    (ByRecursion-weaker (IsFrom demands (a + 1)) (IsFrom demands a) (λ d h. let l : a + 1 ≤ d.span = h.long in record { cell = h.cell; long = omega arith })
    (flat_map (of_span demands) (range_with_len (a + 1) m)) (spans_from-all demands (a + 1) m))

spans_from-contains : (demands : List Demand) (d : Demand) (a m : ℕ) → Contains demands d → a ≤ d.span → d.span < a + m → Contains (flat_map (of_span demands) (range_with_len a m)) d
spans_from-contains demands d a zero c l l' = absurd (omega arith)
spans_from-contains demands d a (suc m) c l l' = elim (cases_eq d.span a) [
  | inl e ↦ Contains-append_left (of_span demands a) (flat_map (of_span demands) (range_with_len (a + 1) m)) d (Contains-filter (λ x. x.span == a) demands d c (eq-eqb d.span a e))
  | inr ne ↦ Contains-append_right (of_span demands a) (flat_map (of_span demands) (range_with_len (a + 1) m)) d
      (spans_from-contains demands d (a + 1) m c (omega arith) (omega arith))
]

pub TakesAll-by_span : (n : ℕ) (demands : List Demand) → All (IsInTable n) demands → TakesAll demands (by_span n demands)
TakesAll-by_span n demands table = record {
  cells = All-from_recursion (Contains demands) (by_span n demands)
      (ByRecursion-weaker (IsFrom demands 2) (Contains demands) (λ d h. h.cell) (by_span n demands) (spans_from-all demands 2 (n - 1)));
  long = λ k d l two.
      let le : end_of (get_or demands k d) ≤ n = (All-contains (IsInTable n) demands (get_or demands k d) table (Contains-get_or_self demands k d l)).ends_within in
      spans_from-contains demands (get_or demands k d) 2 (n - 1) (Contains-get_or_self demands k d l) two (omega arith);
}

-- where any two precede each other, the order does not matter
laminar_of_pairs : (P : Demand → Type 0) → ((a b : Demand) → P a → P b → Precedes a b) → (ds : List Demand) → AllByRecursion P ds → IsLaminarInOrder ds
laminar_of_pairs P related [] all = tt
laminar_of_pairs P related (d ∷ ds) all =
    (ByRecursion-weaker P (Precedes d) (λ e p. related d e all.0 p) ds all.1, laminar_of_pairs P related ds all.1)

laminar-append : (xs ys : List Demand) → IsLaminarInOrder xs → IsLaminarInOrder ys → AllByRecursion (λ x. AllByRecursion (Precedes x) ys) xs → IsLaminarInOrder (xs ++ ys)
laminar-append [] ys lx ly cross = ly
laminar-append (x ∷ xs) ys lx ly cross = (ByRecursion-append (Precedes x) xs ys lx.0 cross.0, laminar-append xs ys lx.1 ly cross.1)

-- the smaller of two nested ranges lies in the larger
smaller_first : (a b : Demand) → a.span ≤ b.span → AreNested a b ⊎ AreDisjoint a b → Precedes a b
smaller_first a b le (inl (inl x)) = inr x
smaller_first a b le (inl (inr y)) = let p : a.start ≤ b.start = y.0 in let q : end_of b ≤ end_of a = y.1 in inr ((omega arith), (omega arith))
smaller_first a b le (inr y) = inl y

laminar_from : (demands : List Demand) → IsLaminar demands → (a m : ℕ) → 2 ≤ a → IsLaminarInOrder (flat_map (of_span demands) (range_with_len a m))
laminar_from demands laminar a zero two = tt
laminar_from demands laminar a (suc m) two =
    laminar-append (of_span demands a) (flat_map (of_span demands) (range_with_len (a + 1) m))
    (laminar_of_pairs (λ d. (d.span ≡ a) × Contains demands d)
    (λ x y p q. let e : x.span ≡ a = p.0 in let e' : y.span ≡ a = q.0 in smaller_first x y (omega arith) (laminar x y p.1 q.1 (omega arith) (omega arith)))
    (of_span demands a) (of_span-all demands a))
    (laminar_from demands laminar (a + 1) m (omega arith))
    (ByRecursion-weaker (λ d. (d.span ≡ a) × Contains demands d) (λ x. AllByRecursion (Precedes x) (flat_map (of_span demands) (range_with_len (a + 1) m)))
    (λ x p. ByRecursion-weaker (IsFrom demands (a + 1)) (Precedes x)
    (λ y q. let e : x.span ≡ a = p.0 in let l : a + 1 ≤ y.span = q.long in smaller_first x y (omega arith) (laminar x y p.1 q.cell (omega arith) (omega arith)))
    (flat_map (of_span demands) (range_with_len (a + 1) m)) (spans_from-all demands (a + 1) m))
    (of_span demands a) (of_span-all demands a))

-- where the ranges are nested or disjoint, no cell is taken after one that its range meets and that does not lie in it
pub IsLaminarInOrder-by_span : (n : ℕ) (demands : List Demand) → IsLaminar demands → IsLaminarInOrder (by_span n demands)
IsLaminarInOrder-by_span n demands laminar = laminar_from demands laminar 2 (n - 1) (omega arith)
