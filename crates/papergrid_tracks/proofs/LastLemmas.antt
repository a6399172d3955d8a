-- A table that holds, for each track, the last cell taken whose range holds it: it decides whether the ranges are nested or
-- disjoint, and gives the cells of the certificate at one look for each track.
use Rattle.std.proofs.Common.{◌≡◌, ℕ, zero, suc, ◌<◌, ◌≤◌, true, false, cond, ◌==◌, ◌⊎◌, inl, inr, List, [], ◌∷◌, ◌++◌, length, get_or, refl, sym, ap, ◌∙◌, subst, arith, eqb, eq-eqb, Option, Some, None, rules}
use Rattle.std.specs.Prelude.{find, All, Contains}
use Rattle.std.specs.List.{AllByRecursion, list_any}
use Rattle.std.proofs.lemmas.Bool.{cases_Bool, cases_eq, cases_lt, or_parts, or_from, true≢false, false≢true}
use Rattle.std.proofs.lemmas.List.Elements.{All-contains, All-from_recursion}
use Rattle.std.specs.Option.{option_or}
use Rattle.papergrid_tracks.specs.declared.demand.Demand.{Demand}
use Rattle.papergrid_tracks.specs.Sizes.{by_span}
use Rattle.papergrid_tracks.specs.Ranges.{end_of, holds, AreDisjoint, AreNested, IsLaminar, IsInTable, LiesIn}
use Rattle.papergrid_tracks.specs.ForProofs.LastCells.{Precedes, IsLaminarInOrder, last_holding}
use Rattle.papergrid_tracks.specs.Certificates.{lies_in, outermost, single_at}
use Rattle.papergrid_tracks.proofs.Upto.{holds-inside}
use Rattle.papergrid_tracks.proofs.RangeLemmas.{covered, not_covered, not_both}
use Rattle.papergrid_tracks.proofs.Orders.{TakesAll-by_span}
use Rattle.papergrid_tracks.proofs.GrowLemmas.{disjoint-from_outer, covered_by_later}
use Rattle.papergrid_tracks.proofs.Certified.{AreDisjoint-sym, holds_start, none_some, some_same}

-- one more cell overwrites the table on its range
pub last_holding_push : (ds : List Demand) (d : Demand) (i : ℕ) → last_holding (ds ++ d ∷ []) i ≡ cond (holds d i) (Some d) (last_holding ds i)
last_holding_push [] d i = refl
last_holding_push (c ∷ ds) d i = grind (arith, cases_Bool, last_holding_push ds d i)

pub last_holding-none : (ds : List Demand) (i : ℕ) → covered ds i ≡ false → last_holding ds i ≡ None
last_holding-none [] i f = refl
last_holding-none (d ∷ ds) i f =
    let p : (holds d i ≡ false) × (covered ds i ≡ false) = or_parts (holds d i) (covered ds i) f in
    rw (last_holding-none ds i p.1, p.0) refl

option_or-some : (o : Option Demand) (d : Demand) → (e : Demand) × (option_or o (Some d) ≡ Some e)
option_or-some None d = (d, refl)
option_or-some (Some e) d = (e, refl)

pub last_holding-some : (ds : List Demand) (i : ℕ) → covered ds i ≡ true → (d : Demand) × (last_holding ds i ≡ Some d)
last_holding-some [] i t = absurd (false≢true t)
last_holding-some (d ∷ ds) i t = elim (cases_Bool (covered ds i)) [
  | inl u ↦
      let found : (e : Demand) × (last_holding ds i ≡ Some e) = last_holding-some ds i u in
      rw found.1 (found.0, refl)
  | inr f ↦
      let h : holds d i ≡ true = elim (cases_Bool (holds d i)) [ inl h ↦ h | inr h ↦ absurd (true≢false (sym t ∙ or_from (holds d i) (covered ds i) h f)) ] in
      rw h (option_or-some (last_holding ds i) d)
]

-- the cell, where its range starts at i
abbrev pub starting_at : ℕ → Option Demand → Option Demand
starting_at i None = None
starting_at i (Some d) = cond (eqb d.start i) (Some d) None

starting_at-other : (d : Demand) (i : ℕ) (o : Option Demand) → eqb d.start i ≡ false → starting_at i o ≡ starting_at i (option_or o (cond (holds d i) (Some d) None))
starting_at-other d i (Some e) f = refl
starting_at-other d i None f = grind (arith, cases_Bool)

-- the outermost cell that starts at i is the one that the table holds at i, where that one starts there
pub find-outermost : (ds : List Demand) (i : ℕ) → IsLaminarInOrder ds → AllByRecursion (λ d. 1 ≤ d.span) ds →
    find (λ d. d.start == i) (outermost ds) ≡ starting_at i (last_holding ds i)
find-outermost [] i laminar ones = refl
find-outermost (d ∷ rest) i laminar ones =
    let ih : find (λ d. d.start == i) (outermost rest) ≡ starting_at i (last_holding rest i) = find-outermost rest i laminar.1 ones.1 in
    elim (cases_Bool (list_any (lies_in d) rest)) [
      | inl inner ↦ rw inner (ih ∙ elim (cases_Bool (covered rest i)) [
        | inl t ↦ grind (arith, last_holding-some)
        | inr f ↦ elim (cases_Bool (holds d i)) [
          | inl h ↦ absurd (true≢false (sym (covered_by_later d rest i inner h) ∙ f))
          | inr h ↦ rw (last_holding-none rest i f, h) refl
        ]
      ])
      | inr outer ↦
          let disjoint : AllByRecursion (AreDisjoint d) rest = disjoint-from_outer d rest laminar.0 outer in
          grind (arith, cases_eq d.start i, holds_start, last_holding-none, not_covered, disjoint, eq-eqb, ih, starting_at-other)
    ]

-- the cell of the certificate at i, by one look at the table
pub certificate_cells-at : (demands growing_cells : List Demand) (sizes : List ℕ) (i : ℕ) → IsLaminarInOrder growing_cells → AllByRecursion (λ d. 1 ≤ d.span) growing_cells →
    option_or (find (λ d. d.start == i) (outermost growing_cells)) (single_at demands growing_cells sizes i) ≡ option_or (starting_at i (last_holding growing_cells i)) (single_at demands growing_cells sizes i)
certificate_cells-at demands growing_cells sizes i laminar ones = ap (λ o. option_or o (single_at demands growing_cells sizes i)) (find-outermost growing_cells i laminar ones)

-- the last cell that holds i is one of the cells, and holds i
pub last_holding-all : (P : Demand → Type 0) (ds : List Demand) (i : ℕ) (o : Demand) → AllByRecursion P ds → last_holding ds i ≡ Some o → (holds o i ≡ true) × P o
last_holding-all P [] i o all e = absurd (none_some e)
last_holding-all P (d ∷ rest) i o all e = step (last_holding rest i) (λ e'. last_holding-all P rest i o all.1 e') e
  where
    step : (p : Option Demand) → (p ≡ Some o → (holds o i ≡ true) × P o) → option_or p (cond (holds d i) (Some d) None) ≡ Some o → (holds o i ≡ true) × P o
    step (Some c) later e = later e
    step None later e = grind (arith, cases_Bool, some_same, none_some)

-- a number that both ranges hold, or they are disjoint
pub meet : (c d : Demand) → 1 ≤ c.span → 1 ≤ d.span → AreDisjoint c d ⊎ ((i : ℕ) × (holds c i ≡ true) × (holds d i ≡ true))
meet c d one one' = elim (cases_lt c.start (end_of d)) [
  | inr before ↦ inl (inr before)
  | inl l ↦ elim (cases_lt d.start (end_of c)) [
    | inr after ↦ inl (inl after)
    | inl l' ↦ elim (cases_lt c.start d.start) [
      | inl x ↦ inr (d.start, holds-inside c d.start (omega arith) l', holds-inside d d.start (omega arith) (omega arith))
      | inr x ↦ inr (c.start, holds-inside c c.start (omega arith) (omega arith), holds-inside d c.start x l)
    ]
  ]
]

-- two ranges that hold the same number are not disjoint
pub together : (a b : Demand) (i : ℕ) → holds a i ≡ true → holds b i ≡ true → AreDisjoint a b → ⊥
together a b i h h' disjoint = true≢false (sym h' ∙ not_both a b i disjoint h)

-- where each cell precedes all later ones, one more cell comes after all of them if the last one at each number of its range lies in it
pub precedes-from_last : (ds : List Demand) (d : Demand) → IsLaminarInOrder ds → 1 ≤ d.span → AllByRecursion (λ c. 1 ≤ c.span) ds →
    ((i : ℕ) (o : Demand) → holds d i ≡ true → last_holding ds i ≡ Some o → LiesIn o d) → AllByRecursion (λ c. Precedes c d) ds
precedes-from_last [] d laminar one ones each = tt
precedes-from_last (c ∷ rest) d laminar one ones each =
    (first, precedes-from_last rest d laminar.1 one ones.1 (λ i o h e. each i o h (rw e refl)))
  where
    through : (i : ℕ) → holds c i ≡ true → holds d i ≡ true → (p : Option Demand) → last_holding rest i ≡ p → LiesIn c d
    through i h h' None e = each i c h' (rw (e, h) refl)
    through i h h' (Some o) e =
        let is : (holds o i ≡ true) × Precedes c o = last_holding-all (Precedes c) rest i o laminar.0 e in
        let outer : LiesIn o d = each i o h' (rw e refl) in
        let inner : LiesIn c o = elim is.1 [ inl x ↦ absurd (together c o i h is.0 x) | inr x ↦ x ] in
        ((omega arith), (omega (arith, inner.0, inner.1, outer.0, outer.1)))

    first : Precedes c d
    first = elim (meet c d ones.0 one) [
      | inl disjoint ↦ inl disjoint
      | inr both ↦ inr (through both.0 both.1 both.2 (last_holding rest both.0) refl)
    ]

-- and if it comes after all of them, the last one at each number of its range lies in it
pub last-from_precedes : (ds : List Demand) (d : Demand) → AllByRecursion (λ c. Precedes c d) ds →
    (i : ℕ) (o : Demand) → holds d i ≡ true → last_holding ds i ≡ Some o → LiesIn o d
last-from_precedes ds d all i o h e =
    let is : (holds o i ≡ true) × Precedes o d = last_holding-all (λ c. Precedes c d) ds i o all e in
    elim is.1 [ inl x ↦ absurd (together o d i is.0 h x) | inr x ↦ x ]

abbrev AreCompatible : Demand → Demand → Type 0
AreCompatible a b = AreNested a b ⊎ AreDisjoint a b

compatible-from_precedes : (a b : Demand) → Precedes a b → AreCompatible a b
compatible-from_precedes a b (inl x) = inr x
compatible-from_precedes a b (inr x) = inl (inl x)

compatible-sym : (a b : Demand) → AreCompatible a b → AreCompatible b a
compatible-sym a b (inl (inl x)) = inl (inr x)
compatible-sym a b (inl (inr x)) = inl (inl x)
compatible-sym a b (inr x) = inr (AreDisjoint-sym a b x)

compatible-refl : (a : Demand) → AreCompatible a a
compatible-refl a = inl (inl ((omega arith), (omega arith)))

-- any two cells of a laminar list are nested or disjoint
compatible-pairs : (ds : List Demand) (a b : Demand) → IsLaminarInOrder ds → Contains ds a → Contains ds b → AreCompatible a b
compatible-pairs ds a b laminar m m' = search (rules, go, compatible-refl, compatible-from_precedes, All-contains, All-from_recursion, compatible-sym)
  where
    go : (ds : List Demand) → IsLaminarInOrder ds → (i j : ℕ) → i < length ds → j < length ds → get_or ds i a ≡ a → get_or ds j b ≡ b → AreCompatible a b
    go [] laminar i j l l' e e' = absurd (omega arith)
    go (d ∷ ds) laminar zero zero l l' e e' = subst (λ x. AreCompatible a x) (sym e ∙ e') (compatible-refl a)
    go (d ∷ ds) laminar zero (suc j) l l' e e' = grind (arith, compatible-from_precedes, All-contains, All-from_recursion)
    go (d ∷ ds) laminar (suc i) zero l l' e e' = grind (arith, compatible-sym, compatible-from_precedes, All-contains, All-from_recursion)
    go (d ∷ ds) laminar (suc i) (suc j) l l' e e' = go ds laminar.1 i j (omega arith) (omega arith) e e'

-- so whether ranges are nested or disjoint is decided on the cells that are taken
pub IsLaminar-from_laminar : (n : ℕ) (demands : List Demand) → All (IsInTable n) demands → IsLaminarInOrder (by_span n demands) → IsLaminar demands
IsLaminar-from_laminar n demands table laminar a b m m' two two' =
    let takes = TakesAll-by_span n demands table in
    compatible-pairs (by_span n demands) a b laminar
    (All-contains (λ d. 2 ≤ d.span → Contains (by_span n demands) d) demands a takes.long m two)
    (All-contains (λ d. 2 ≤ d.span → Contains (by_span n demands) d) demands b takes.long m' two')

-- ---- one more cell

ByRecursion_push : (P : Demand → Type 0) (ds : List Demand) (d : Demand) → AllByRecursion P ds → P d → AllByRecursion P (ds ++ d ∷ [])
ByRecursion_push P [] d all p = (p, tt)
ByRecursion_push P (c ∷ ds) d all p = (all.0, ByRecursion_push P ds d all.1 p)

ByRecursion-last : (P : Demand → Type 0) (ds : List Demand) (d : Demand) (es : List Demand) → AllByRecursion P (ds ++ d ∷ es) → P d
ByRecursion-last P [] d es all = all.0
ByRecursion-last P (c ∷ ds) d es all = ByRecursion-last P ds d es all.1

-- the cells before one of a laminar list precede it
pub IsLaminarInOrder-before : (ds : List Demand) (d : Demand) (es : List Demand) → IsLaminarInOrder (ds ++ d ∷ es) → AllByRecursion (λ c. Precedes c d) ds
IsLaminarInOrder-before [] d es laminar = tt
IsLaminarInOrder-before (c ∷ ds) d es laminar = (ByRecursion-last (Precedes c) ds d es laminar.0, IsLaminarInOrder-before ds d es laminar.1)

pub IsLaminarInOrder_push : (ds : List Demand) (d : Demand) → IsLaminarInOrder ds → AllByRecursion (λ c. Precedes c d) ds → IsLaminarInOrder (ds ++ d ∷ [])
IsLaminarInOrder_push [] d laminar all = (tt, tt)
IsLaminarInOrder_push (c ∷ ds) d laminar all = (ByRecursion_push (Precedes c) ds d laminar.0 all.0, IsLaminarInOrder_push ds d laminar.1 all.1)
