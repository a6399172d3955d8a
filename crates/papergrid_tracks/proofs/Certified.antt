-- The cells of the certificate certify the sizes, so the sizes are least.
use Rattle.std.proofs.Common.{◌≡◌, ℕ, ◌+◌, ◌<◌, ◌≤◌, ◌≢◌, Bool, true, false, ◌&&◌, ◌==◌, ◌⊎◌, inl, inr, List, [], ◌∷◌, length, get_or, sum, sum_by, refl, sym, ap, ◌∙◌, subst, arith, eqb, ne_eqb, eqb-true, Option, Some, None, rules}
use Rattle.std.specs.Prelude.{find, All, Contains}
use Rattle.std.specs.List.{AllByRecursion, range_with_len}
use Rattle.std.proofs.lemmas.Bool.{cases_Bool, and_parts, or_parts, or_left, or_right, eqb-false, true≢false}
use Rattle.std.proofs.lemmas.List.Sums.{sum_by-cons}
use Rattle.std.proofs.lemmas.List.Elements.{recursion_from_All, All-from_recursion, All-contains_itself}
use Rattle.std.specs.Option.{option_or}
use Rattle.papergrid_tracks.specs.Problem.{problem_of_demands}
use Rattle.papergrid_tracks.specs.declared.demand.Demand.{Demand}
use Rattle.papergrid_tracks.specs.Ranges.{end_of, holds, AreDisjoint, inner_lines, IsInTable}
use Rattle.papergrid_tracks.specs.Fits.{IsCertificate, IsLeast}
use Rattle.papergrid_tracks.specs.Sizes.{base_size, base_sizes}
use Rattle.papergrid_tracks.specs.Certificates.{growing_demands, outermost, single_at, certificate_cells}
use Rattle.papergrid_tracks.proofs.Upto.{upto, upto-ext, upto-add, upto-zero, sum-upto, within, range_sum-within, holds_cases}
use Rattle.papergrid_tracks.proofs.RangeLemmas.{ArePairwiseDisjoint, AllPairs-from_pairwise, covered, outside, partition}
use Rattle.papergrid_tracks.proofs.Duality.{IsLeast-from_certificate}
use Rattle.papergrid_tracks.proofs.Greatest.{holds_alone, get_or-base_sizes, length-base_sizes}
use Rattle.papergrid_tracks.proofs.FitBound.{TakesAll, sizes_after, table_of_by_span, Fits-sizes_after, length-by_span, ByRecursion-weaker}
use Rattle.papergrid_tracks.proofs.GrowLemmas.{IsLaminarInOrder, IsTight, growing-all, outermost-all, size-not_covered, ArePairwiseDisjoint-outermost, tight-outermost, covered-outermost}
use Rattle.papergrid_tracks.proofs.Counting.{weight, sum_by-filter_map, filter_map-all, ArePairwiseDisjoint-filter_map, find-all, sum-by_start, find-greatest}

pub AreDisjoint-sym : (a b : Demand) → AreDisjoint a b → AreDisjoint b a
AreDisjoint-sym a b (inl l) = inr l
AreDisjoint-sym a b (inr l) = inl l

pub none_some : {d : Demand} → None ≡ Some d → ⊥
none_some e = cc

pub some_same : {c d : Demand} → Some c ≡ Some d → c ≡ d
some_same e = cc

option_or_cases : (o p : Option Demand) (d : Demand) → option_or o p ≡ Some d → (o ≡ Some d) ⊎ (p ≡ Some d)
option_or_cases None p d e = inr e
option_or_cases (Some x) p d e = inl e

weight-option_or : (w : Demand → ℕ) (o p : Option Demand) → ((d : Demand) → o ≡ Some d → p ≡ None) → weight w (option_or o p) ≡ weight w o + weight w p
weight-option_or w None p h = omega arith
weight-option_or w (Some x) p h = rw (h x refl) (omega arith)

-- a cell that covers something holds its start
pub holds_start : (d : Demand) (i : ℕ) → 1 ≤ d.span → d.start ≡ i → holds d i ≡ true
holds_start d i one e = grind (arith, holds_cases)

covered-found : (ds : List Demand) (i : ℕ) (d : Demand) → AllByRecursion (λ e. 1 ≤ e.span) ds → find (λ e. e.start == i) ds ≡ Some d → covered ds i ≡ true
covered-found [] i d ones e = absurd (none_some e)
covered-found (c ∷ ds) i d ones e = elim (cases_Bool (eqb c.start i)) [
  | inl t ↦ or_left (holds c i) (covered ds i) (holds_start c i ones.0 (eqb-true c.start i t))
  | inr f ↦ or_right (holds c i) (covered ds i) (covered-found ds i d ones.1 (rw f at e))
]

not_covered-each : (ds : List Demand) (i : ℕ) → covered ds i ≡ false → AllByRecursion (λ d. holds d i ≡ false) ds
not_covered-each [] i f = tt
not_covered-each (d ∷ ds) i f = let p : (holds d i ≡ false) × (covered ds i ≡ false) = or_parts (holds d i) (covered ds i) f in (p.0, not_covered-each ds i p.1)

-- two of the disjoint cells that start at different numbers
two_found : (ds : List Demand) (i j : ℕ) (a b : Demand) → ArePairwiseDisjoint ds → i ≢ j → find (λ e. e.start == i) ds ≡ Some a → find (λ e. e.start == j) ds ≡ Some b → AreDisjoint a b
two_found [] i j a b disjoint ne e e' = absurd (none_some e)
two_found (c ∷ ds) i j a b disjoint ne e e' = elim (cases_Bool (eqb c.start i)) [
  | inl t ↦
      let not_j : c.start ≢ j = λ at_j. ne (sym (eqb-true c.start i t) ∙ at_j) in
      let later : find (λ e. e.start == j) ds ≡ Some b = rw (ne_eqb c.start j not_j) at e' in
      subst (λ y. AreDisjoint y b) (some_same (rw t at e)) (find-all (AreDisjoint c) (λ e. e.start == j) ds b disjoint.0 later).1
  | inr f ↦ elim (cases_Bool (eqb c.start j)) [
    | inl t ↦
        let same : c ≡ b = some_same (rw t at e') in
        subst (λ y. AreDisjoint a y) same (AreDisjoint-sym c a (find-all (AreDisjoint c) (λ e. e.start == i) ds a disjoint.0 (rw f at e)).1)
    | inr f' ↦ two_found ds i j a b disjoint.1 ne (rw f at e) (rw f' at e')
  ]
]

-- what a single cell is
record IsSingle (demands growing_cells : List Demand) (sizes : List ℕ) (i : ℕ) (d : Demand) : Type 0 where
  free : covered growing_cells i ≡ false
  one : d.span ≡ 1
  at : d.start ≡ i
  size : d.minimum ≡ get_or sizes i 0
  cell : Contains demands d

single_is : (demands growing_cells : List Demand) (sizes : List ℕ) (i : ℕ) (d : Demand) → single_at demands growing_cells sizes i ≡ Some d → IsSingle demands growing_cells sizes i d
single_is demands growing_cells sizes i d e = elim (cases_Bool (covered growing_cells i)) [
  | inl t ↦ absurd (none_some {d = d} (rw t at e))
  | inr f ↦ elim (cases_Bool (eqb (get_or sizes i 0) 0)) [
    | inl z ↦ absurd (none_some {d = d} (rw (f, z) at e))
    | inr nz ↦
        let found : ((d.span == 1 && d.start == i && d.minimum == get_or sizes i 0) ≡ true) × Contains demands d =
        find-all (Contains demands) (λ c. c.span == 1 && c.start == i && c.minimum == get_or sizes i 0) demands d
        (recursion_from_All (Contains demands) demands (All-contains_itself demands)) (rw (f, nz) at e) in
        let parts : ((d.span == 1 && d.start == i) ≡ true) × (eqb d.minimum (get_or sizes i 0) ≡ true) = and_parts (d.span == 1 && d.start == i) (eqb d.minimum (get_or sizes i 0)) found.0 in
        let alone : (d.span ≡ 1) × (d.start ≡ i) = holds_alone d i parts.0 in
        record { free = f; one = alone.0; at = alone.1; size = eqb-true d.minimum (get_or sizes i 0) parts.1; cell = found.1 }
  ]
]

single-none : (demands growing_cells : List Demand) (sizes : List ℕ) (i : ℕ) → covered growing_cells i ≡ true → single_at demands growing_cells sizes i ≡ None
single-none demands growing_cells sizes i t = rw t refl

sum-tight : (line : ℕ → Bool) (sizes : List ℕ) (ds : List Demand) → AllByRecursion (IsTight line sizes) ds →
    sum_by (λ d. d.minimum) ds ≡ sum_by (within (λ i. get_or sizes i 0)) ds + sum_by (inner_lines line) ds
sum-tight line sizes [] all = omega arith
sum-tight line sizes (d ∷ ds) all =
    let a : sum_by (λ d. d.minimum) (d ∷ ds) ≡ d.minimum + sum_by (λ d. d.minimum) ds = sum_by-cons (λ d. d.minimum) d ds in
    let b = sum_by-cons (within (λ i. get_or sizes i 0)) d ds in
    omega (arith, sum-tight line sizes ds all.1, sum_by-cons (inner_lines line) d ds, range_sum-within sizes d, all.0)

-- the facts on the growing cells that the rest stands on
pub record GrowingCellsAre (line : ℕ → Bool) (n : ℕ) (demands growing_cells : List Demand) (sizes : List ℕ) : Type 0 where
  pub many : length sizes ≡ n
  pub cells : AllByRecursion (Contains demands) (outermost growing_cells)
  pub table : AllByRecursion (IsInTable n) (outermost growing_cells)
  pub disjoint : ArePairwiseDisjoint (outermost growing_cells)
  pub tight : AllByRecursion (IsTight line sizes) (outermost growing_cells)
  pub base : (i : ℕ) → i < n → covered growing_cells i ≡ false → get_or sizes i 0 ≡ base_size demands i

module _ (line : ℕ → Bool) (n : ℕ) (demands growing_cells : List Demand) (sizes : List ℕ) (g : GrowingCellsAre line n demands growing_cells sizes) where
  spans : AllByRecursion (λ d. 1 ≤ d.span) (outermost growing_cells)
  spans = ByRecursion-weaker (IsInTable n) (λ d. 1 ≤ d.span) (λ d t. t.covers_one) (outermost growing_cells) g.table

  found_single : (i j : ℕ) (d e : Demand) → find (λ d. d.start == i) (outermost growing_cells) ≡ Some d → IsSingle demands growing_cells sizes j e → AreDisjoint d e
  found_single i j d e f s =
      let free : covered (outermost growing_cells) j ≡ false = covered-outermost growing_cells j ∙ s.free in
      let out : holds d j ≡ false = (find-all (λ c. holds c j ≡ false) (λ c. c.start == i) (outermost growing_cells) d (not_covered-each (outermost growing_cells) j free) f).1 in
      grind (arith, holds_cases, true≢false, out)

  pair_apart : (i j : ℕ) (d e : Demand) → i < j →
      option_or (find (λ d. d.start == i) (outermost growing_cells)) (single_at demands growing_cells sizes i) ≡ Some d →
      option_or (find (λ d. d.start == j) (outermost growing_cells)) (single_at demands growing_cells sizes j) ≡ Some e → AreDisjoint d e
  pair_apart i j d e l p q =
      elim (option_or_cases (find (λ d. d.start == i) (outermost growing_cells)) (single_at demands growing_cells sizes i) d p) [
        | inl x ↦ elim (option_or_cases (find (λ d. d.start == j) (outermost growing_cells)) (single_at demands growing_cells sizes j) e q) [
          | inl y ↦ two_found (outermost growing_cells) i j d e g.disjoint (omega arith) x y
          | inr y ↦ found_single i j d e x (single_is demands growing_cells sizes j e y)
        ]
        | inr x ↦ elim (option_or_cases (find (λ d. d.start == j) (outermost growing_cells)) (single_at demands growing_cells sizes j) e q) [
          | inl y ↦ AreDisjoint-sym e d (found_single j i e d y (single_is demands growing_cells sizes i d x))
          | inr y ↦
              let s : IsSingle demands growing_cells sizes i d = single_is demands growing_cells sizes i d x in
              inl (omega (arith, s.at, s.one, (single_is demands growing_cells sizes j e y).at))
        ]
      ]

  certificate_cells-disjoint : ArePairwiseDisjoint (certificate_cells n demands growing_cells sizes)
  certificate_cells-disjoint =
      ArePairwiseDisjoint-filter_map (λ i. option_or (find (λ d. d.start == i) (outermost growing_cells)) (single_at demands growing_cells sizes i)) 0 n pair_apart

  certificate_cells-cells : AllByRecursion (Contains demands) (certificate_cells n demands growing_cells sizes)
  certificate_cells-cells =
      filter_map-all (Contains demands) (λ i. option_or (find (λ d. d.start == i) (outermost growing_cells)) (single_at demands growing_cells sizes i)) (range_with_len 0 n)
      (λ i d e. elim (option_or_cases (find (λ d. d.start == i) (outermost growing_cells)) (single_at demands growing_cells sizes i) d e) [
        | inl x ↦ (find-all (Contains demands) (λ d. d.start == i) (outermost growing_cells) d g.cells x).1
        | inr x ↦ (single_is demands growing_cells sizes i d x).cell
      ])

  -- a sum over the chosen cells is one over the outermost growing cells and one over the single cells
  sum-certificate_cells : (w : Demand → ℕ) → sum_by w (certificate_cells n demands growing_cells sizes) ≡ sum_by w (outermost growing_cells) + upto (λ i. weight w (single_at demands growing_cells sizes i)) n
  sum-certificate_cells w =
      let a : sum_by w (certificate_cells n demands growing_cells sizes) ≡ upto (λ i. weight w (option_or (find (λ d. d.start == i) (outermost growing_cells)) (single_at demands growing_cells sizes i))) n =
      sum_by-filter_map w (λ i. option_or (find (λ d. d.start == i) (outermost growing_cells)) (single_at demands growing_cells sizes i)) n in
      let b : upto (λ i. weight w (option_or (find (λ d. d.start == i) (outermost growing_cells)) (single_at demands growing_cells sizes i))) n
      ≡ upto (λ i. weight w (find (λ d. d.start == i) (outermost growing_cells)) + weight w (single_at demands growing_cells sizes i)) n =
      upto-ext (λ i. weight w (option_or (find (λ d. d.start == i) (outermost growing_cells)) (single_at demands growing_cells sizes i)))
      (λ i. weight w (find (λ d. d.start == i) (outermost growing_cells)) + weight w (single_at demands growing_cells sizes i)) n
      (λ i l. weight-option_or w (find (λ d. d.start == i) (outermost growing_cells)) (single_at demands growing_cells sizes i)
      (λ d e. single-none demands growing_cells sizes i (sym (covered-outermost growing_cells i) ∙ covered-found (outermost growing_cells) i d spans e))) in
      let c : upto (λ i. weight w (find (λ d. d.start == i) (outermost growing_cells)) + weight w (single_at demands growing_cells sizes i)) n
      ≡ upto (λ i. weight w (find (λ d. d.start == i) (outermost growing_cells))) n + upto (λ i. weight w (single_at demands growing_cells sizes i)) n =
      upto-add (λ i. weight w (find (λ d. d.start == i) (outermost growing_cells))) (λ i. weight w (single_at demands growing_cells sizes i)) n in
      let starts : AllByRecursion (λ d. d.start < n) (outermost growing_cells) =
      ByRecursion-weaker (IsInTable n) (λ d. d.start < n) (λ d t. let one : 1 ≤ d.span = t.covers_one in let le : end_of d ≤ n = t.ends_within in omega arith) (outermost growing_cells) g.table in
      let s : upto (λ i. weight w (find (λ d. d.start == i) (outermost growing_cells))) n ≡ sum_by w (outermost growing_cells) =
      sum-by_start w n (outermost growing_cells) spans starts g.disjoint in
      omega arith

  -- a single cell needs what lies outside of the growing cells there
  single-minimum : (i : ℕ) → i < n → weight (λ d. d.minimum) (single_at demands growing_cells sizes i) ≡ outside (outermost growing_cells) (λ i. get_or sizes i 0) i
  single-minimum i l = elim (cases_Bool (covered growing_cells i)) [
    | inl t ↦ grind (arith, covered-outermost)
    | inr f ↦
        rw (covered-outermost growing_cells i ∙ f) (elim (cases_Bool (eqb (get_or sizes i 0) 0)) [
          | inl z ↦ rw (f, z) (sym (eqb-true (get_or sizes i 0) 0 z))
          | inr nz ↦
              let ne : get_or sizes i 0 ≢ 0 = eqb-false (get_or sizes i 0) 0 nz in
              let found : (d : Demand) × (find (λ e. (e.span == 1 && e.start == i) && e.minimum == get_or sizes i 0) demands ≡ Some d) =
              find-greatest (λ e. e.span == 1 && e.start == i) demands (get_or sizes i 0) (omega arith) (sym (g.base i l f)) in
              let e : single_at demands growing_cells sizes i ≡ Some found.0 = rw (f, nz) found.1 in
              ap (weight (λ d. d.minimum)) e ∙ (single_is demands growing_cells sizes i found.0 e).size
        ])
  ]

  single-inner : (i : ℕ) → weight (inner_lines line) (single_at demands growing_cells sizes i) ≡ 0
  single-inner i = search (rules, step, weight, single_is)
    where
      step : (o : Option Demand) → single_at demands growing_cells sizes i ≡ o → weight (inner_lines line) o ≡ 0
      step None e = refl
      step (Some d) e = grind (arith, single_is)

  certificate_cells-adds_up : sum_by (λ d. d.minimum) (certificate_cells n demands growing_cells sizes) ≡ sum sizes + sum_by (inner_lines line) (certificate_cells n demands growing_cells sizes)
  certificate_cells-adds_up =
      let a : sum_by (λ d. d.minimum) (certificate_cells n demands growing_cells sizes) ≡ sum_by (λ d. d.minimum) (outermost growing_cells) + upto (λ i. weight (λ d. d.minimum) (single_at demands growing_cells sizes i)) n = sum-certificate_cells (λ d. d.minimum) in
      let z : upto (λ i. weight (inner_lines line) (single_at demands growing_cells sizes i)) n ≡ 0 = upto-zero (λ i. weight (inner_lines line) (single_at demands growing_cells sizes i)) n (λ i l. single-inner i) in
      let o : upto (λ i. weight (λ d. d.minimum) (single_at demands growing_cells sizes i)) n ≡ upto (outside (outermost growing_cells) (λ i. get_or sizes i 0)) n =
      upto-ext (λ i. weight (λ d. d.minimum) (single_at demands growing_cells sizes i)) (outside (outermost growing_cells) (λ i. get_or sizes i 0)) n single-minimum in
      let inside : AllByRecursion (λ d. end_of d ≤ n) (outermost growing_cells) = ByRecursion-weaker (IsInTable n) (λ d. end_of d ≤ n) (λ d t. t.ends_within) (outermost growing_cells) g.table in
      let p : upto (λ i. get_or sizes i 0) n ≡ sum_by (within (λ i. get_or sizes i 0)) (outermost growing_cells) + upto (outside (outermost growing_cells) (λ i. get_or sizes i 0)) n =
      partition (λ i. get_or sizes i 0) n (outermost growing_cells) inside g.disjoint in
      let s : sum sizes ≡ upto (λ i. get_or sizes i 0) (length sizes) = sum-upto sizes in
      let s' : upto (λ i. get_or sizes i 0) (length sizes) ≡ upto (λ i. get_or sizes i 0) n = ap (upto (λ i. get_or sizes i 0)) g.many in
      omega (arith, sum-certificate_cells (inner_lines line), sum-tight line sizes (outermost growing_cells) g.tight)

  pub certificate_of_growing_cells : IsCertificate (problem_of_demands line n demands) sizes (certificate_cells n demands growing_cells sizes)
  certificate_of_growing_cells = record {
    visible = All-from_recursion (Contains demands) (certificate_cells n demands growing_cells sizes) certificate_cells-cells;
    disjoint = AllPairs-from_pairwise (certificate_cells n demands growing_cells sizes) certificate_cells-disjoint;
    adds_up = certificate_cells-adds_up;
  }

-- where no growing cell's range holds i, its size is the base size
pub base-not_covered : (line : ℕ → Bool) (n : ℕ) (demands by_span : List Demand) → All (IsInTable n) demands → TakesAll demands by_span → (i : ℕ) → i < n →
    covered (growing_demands line (base_sizes n demands) by_span) i ≡ false → get_or (sizes_after line n demands by_span) i 0 ≡ base_size demands i
base-not_covered line n demands by_span table takes i l f =
    let many : length (base_sizes n demands) ≡ n = length-base_sizes n demands in
    let table' : AllByRecursion (IsInTable (length (base_sizes n demands))) by_span = grind (arith, recursion_from_All, table_of_by_span, table) in
    let ones : AllByRecursion (λ d. 1 ≤ d.span) by_span = grind (arith, ByRecursion-weaker, table') in
    size-not_covered line (base_sizes n demands) by_span i ones (omega arith) f ∙ get_or-base_sizes n demands i l

growing_cells_are : (line : ℕ → Bool) (n : ℕ) (demands by_span : List Demand) → All (IsInTable n) demands → TakesAll demands by_span → IsLaminarInOrder by_span →
    GrowingCellsAre line n demands (growing_demands line (base_sizes n demands) by_span) (sizes_after line n demands by_span)
growing_cells_are line n demands by_span table takes laminar =
    let many : length (base_sizes n demands) ≡ n = length-base_sizes n demands in
    let cells : AllByRecursion (Contains demands) by_span = recursion_from_All (Contains demands) by_span takes.cells in
    let table' : AllByRecursion (IsInTable (length (base_sizes n demands))) by_span = grind (arith, recursion_from_All, table_of_by_span, table) in
    let table'' : AllByRecursion (IsInTable n) by_span = rw many at table' in
    record {
      many = length-by_span line (base_sizes n demands) by_span ∙ many;
      cells = outermost-all (Contains demands) (growing_demands line (base_sizes n demands) by_span) (growing-all (Contains demands) line (base_sizes n demands) by_span cells);
      table = outermost-all (IsInTable n) (growing_demands line (base_sizes n demands) by_span) (growing-all (IsInTable n) line (base_sizes n demands) by_span table'');
      disjoint = ArePairwiseDisjoint-outermost line (base_sizes n demands) by_span laminar;
      tight = tight-outermost line (base_sizes n demands) by_span table' laminar;
      base = base-not_covered line n demands by_span table takes;
    }

-- the cells of the certificate certify the sizes
pub certificate_of : (line : ℕ → Bool) (n : ℕ) (demands by_span : List Demand) → All (IsInTable n) demands → TakesAll demands by_span → IsLaminarInOrder by_span →
    IsCertificate (problem_of_demands line n demands) (sizes_after line n demands by_span) (certificate_cells n demands (growing_demands line (base_sizes n demands) by_span) (sizes_after line n demands by_span))
certificate_of line n demands by_span table takes laminar = search (rules, certificate_of_growing_cells, sizes_after, growing_cells_are, table)

-- so the sizes are least
pub IsLeast-sizes_after : (line : ℕ → Bool) (n : ℕ) (demands by_span : List Demand) → All (IsInTable n) demands → TakesAll demands by_span → IsLaminarInOrder by_span →
    IsLeast (problem_of_demands line n demands) (sizes_after line n demands by_span)
IsLeast-sizes_after line n demands by_span table takes laminar =
    IsLeast-from_certificate line n demands (certificate_cells n demands (growing_demands line (base_sizes n demands) by_span) (sizes_after line n demands by_span)) (sizes_after line n demands by_span) table
    (Fits-sizes_after line n demands by_span table takes) (certificate_of line n demands by_span table takes laminar)
