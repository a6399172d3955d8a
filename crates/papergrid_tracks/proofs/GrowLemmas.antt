-- The cells that grow: after all steps the outermost of them are disjoint, and each has exactly its minimum size.
use Rattle.std.proofs.Common.{◌≡◌, ℕ, ◌+◌, ◌<◌, ◌≤◌, Bool, true, false, ◌||◌, inl, inr, List, [], ◌∷◌, length, get_or, fold, refl, sym, ◌∙◌, arith, leb, ltb}
use Rattle.std.specs.List.{AllByRecursion, list_any}
use Rattle.std.proofs.lemmas.Bool.{cases_Bool, and_from, and_parts, or_parts, or_left, or_right, or_cases, ltb-true, ltb-false, leb-true, le-leb, true≢false}
use Rattle.papergrid_tracks.specs.declared.demand.Demand.{Demand}
use Rattle.papergrid_tracks.specs.Ranges.{end_of, holds, AreDisjoint, LiesIn, inner_lines, IsInTable}
use Rattle.papergrid_tracks.specs.Fits.{range_sum}
use Rattle.papergrid_tracks.specs.Sizes.{deficit, grown_sizes, share}
pub use Rattle.papergrid_tracks.specs.ForProofs.LastCells.{Precedes, IsLaminarInOrder}
use Rattle.papergrid_tracks.specs.Certificates.{growing_demands, lies_in, outermost}
use Rattle.papergrid_tracks.proofs.Upto.{upto-ext, range_sum-within, holds_cases}
use Rattle.papergrid_tracks.proofs.RangeLemmas.{ArePairwiseDisjoint, covered, not_covered}
use Rattle.papergrid_tracks.proofs.Steps.{get_or-grown, share-out, tight-grown}
use Rattle.papergrid_tracks.proofs.FitBound.{length-grown, grown_same, ByRecursion-weaker}

-- what holds of the cells taken holds of those that grow, and of the outermost
pub growing-all : (P : Demand → Type 0) (line : ℕ → Bool) (sizes : List ℕ) (by_span : List Demand) → AllByRecursion P by_span → AllByRecursion P (growing_demands line sizes by_span)
growing-all P line sizes [] all = tt
growing-all P line sizes (d ∷ rest) all = grind (arith, cases_Bool, growing-all P line (grown_sizes line sizes d) rest all.1)

pub outermost-all : (P : Demand → Type 0) (ds : List Demand) → AllByRecursion P ds → AllByRecursion P (outermost ds)
outermost-all P [] all = tt
outermost-all P (d ∷ later) all = grind (arith, cases_Bool, outermost-all P later all.1)

-- a number in no growing cell's range keeps its size
pub size-not_covered : (line : ℕ → Bool) (sizes : List ℕ) (by_span : List Demand) (i : ℕ) → AllByRecursion (λ d. 1 ≤ d.span) by_span → i < length sizes →
    covered (growing_demands line sizes by_span) i ≡ false → get_or (fold (grown_sizes line) sizes by_span) i 0 ≡ get_or sizes i 0
size-not_covered line sizes [] i ones l out = refl
size-not_covered line sizes (d ∷ rest) i ones l out =
    let same : length (grown_sizes line sizes d) ≡ length sizes = length-grown line sizes d in
    elim (cases_Bool (ltb 0 (deficit line sizes d))) [
      | inl t ↦
          let out' : (holds d i || covered (growing_demands line (grown_sizes line sizes d) rest) i) ≡ false = rw t at out in
          let parts : (holds d i ≡ false) × (covered (growing_demands line (grown_sizes line sizes d) rest) i ≡ false) = or_parts (holds d i) (covered (growing_demands line (grown_sizes line sizes d) rest) i) out' in
          let ih : get_or (fold (grown_sizes line) (grown_sizes line sizes d) rest) i 0 ≡ get_or (grown_sizes line sizes d) i 0 =
          size-not_covered line (grown_sizes line sizes d) rest i ones.1 (omega arith) parts.1 in
          let a : get_or (grown_sizes line sizes d) i 0 ≡ get_or sizes i 0 + share (deficit line sizes d) d i = get_or-grown line sizes d i l in
          let z : share (deficit line sizes d) d i ≡ 0 = elim (holds_cases d i) [
            | inl h ↦ absurd (true≢false (sym h.0 ∙ parts.0))
            | inr h ↦ share-out (deficit line sizes d) d i ones.0 h.1
          ] in
          omega arith
      | inr f ↦
          let out' : covered (growing_demands line (grown_sizes line sizes d) rest) i ≡ false = rw f at out in
          let none : deficit line sizes d ≤ 0 = ltb-false 0 (deficit line sizes d) f in
          size-not_covered line (grown_sizes line sizes d) rest i ones.1 (omega arith) out' ∙ grown_same line sizes d i ones.0 l (omega arith)
    ]

-- a range that is disjoint from all growing cells keeps its sum
pub range_sum-disjoint : (line : ℕ → Bool) (sizes : List ℕ) (by_span : List Demand) (e : Demand) → AllByRecursion (λ d. 1 ≤ d.span) by_span → end_of e ≤ length sizes →
    AllByRecursion (AreDisjoint e) (growing_demands line sizes by_span) → range_sum (fold (grown_sizes line) sizes by_span) e ≡ range_sum sizes e
range_sum-disjoint line sizes by_span e ones le disjoint =
    range_sum-within (fold (grown_sizes line) sizes by_span) e
    ∙ upto-ext (λ i. get_or (fold (grown_sizes line) sizes by_span) (e.start + i) 0) (λ i. get_or sizes (e.start + i) 0) e.span
    (λ i l. size-not_covered line sizes by_span (e.start + i) ones (omega arith) (not_covered e (growing_demands line sizes by_span) (e.start + i) disjoint (inside i l)))
    ∙ sym (range_sum-within sizes e)
  where
    inside : (i : ℕ) → i < e.span → holds e (e.start + i) ≡ true
    inside i l = grind (arith, holds_cases)

-- a cell that lies in no later cell is disjoint from them
lies_in-false : (a b : Demand) → lies_in a b ≡ false → LiesIn a b → ⊥
lies_in-false a b f h = true≢false (sym (and_from (leb b.start a.start) (leb (end_of a) (end_of b)) (le-leb b.start a.start h.0) (le-leb (end_of a) (end_of b) h.1)) ∙ f)

pub disjoint-from_outer : (d : Demand) (later : List Demand) → AllByRecursion (Precedes d) later → list_any (lies_in d) later ≡ false → AllByRecursion (AreDisjoint d) later
disjoint-from_outer d [] all f = tt
disjoint-from_outer d (e ∷ later) all f =
    let parts : (lies_in d e ≡ false) × (list_any (lies_in d) later ≡ false) = or_parts (lies_in d e) (list_any (lies_in d) later) f in
    (elim all.0 [ inl x ↦ x | inr x ↦ absurd (lies_in-false d e parts.0 x) ], disjoint-from_outer d later all.1 parts.1)

pub IsLaminarInOrder-growing : (line : ℕ → Bool) (sizes : List ℕ) (by_span : List Demand) → IsLaminarInOrder by_span → IsLaminarInOrder (growing_demands line sizes by_span)
IsLaminarInOrder-growing line sizes [] laminar = tt
IsLaminarInOrder-growing line sizes (d ∷ rest) laminar = elim (cases_Bool (ltb 0 (deficit line sizes d))) [
  | inl t ↦ rw t (growing-all (Precedes d) line (grown_sizes line sizes d) rest laminar.0, IsLaminarInOrder-growing line (grown_sizes line sizes d) rest laminar.1)
  | inr f ↦ rw f (IsLaminarInOrder-growing line (grown_sizes line sizes d) rest laminar.1)
]

ArePairwiseDisjoint-outermost_laminar : (ds : List Demand) → IsLaminarInOrder ds → ArePairwiseDisjoint (outermost ds)
ArePairwiseDisjoint-outermost_laminar [] laminar = tt
ArePairwiseDisjoint-outermost_laminar (d ∷ later) laminar = elim (cases_Bool (list_any (lies_in d) later)) [
  | inl t ↦ rw t (ArePairwiseDisjoint-outermost_laminar later laminar.1)
  | inr f ↦ rw f (outermost-all (AreDisjoint d) later (disjoint-from_outer d later laminar.0 f), ArePairwiseDisjoint-outermost_laminar later laminar.1)
]

-- the outermost growing cells are pairwise disjoint
pub ArePairwiseDisjoint-outermost : (line : ℕ → Bool) (sizes : List ℕ) (by_span : List Demand) → IsLaminarInOrder by_span → ArePairwiseDisjoint (outermost (growing_demands line sizes by_span))
ArePairwiseDisjoint-outermost line sizes by_span laminar = ArePairwiseDisjoint-outermost_laminar (growing_demands line sizes by_span) (IsLaminarInOrder-growing line sizes by_span laminar)

-- a cell has exactly its minimum size
abbrev pub IsTight : (ℕ → Bool) → List ℕ → Demand → Type 0
IsTight line sizes d = d.minimum ≡ range_sum sizes d + inner_lines line d

-- each outermost growing cell has exactly its minimum size
pub tight-outermost : (line : ℕ → Bool) (sizes : List ℕ) (by_span : List Demand) → AllByRecursion (IsInTable (length sizes)) by_span → IsLaminarInOrder by_span →
    AllByRecursion (IsTight line (fold (grown_sizes line) sizes by_span)) (outermost (growing_demands line sizes by_span))
tight-outermost line sizes [] table laminar = tt
tight-outermost line sizes (d ∷ rest) table laminar =
    let same : length (grown_sizes line sizes d) ≡ length sizes = length-grown line sizes d in
    let one : 1 ≤ d.span = table.0.covers_one in
    let le : end_of d ≤ length sizes = table.0.ends_within in
    let ones : AllByRecursion (λ e. 1 ≤ e.span) rest = ByRecursion-weaker (IsInTable (length sizes)) (λ e. 1 ≤ e.span) (λ e t. t.covers_one) rest table.1 in
    let ih : AllByRecursion (IsTight line (fold (grown_sizes line) (grown_sizes line sizes d) rest)) (outermost (growing_demands line (grown_sizes line sizes d) rest)) =
    tight-outermost line (grown_sizes line sizes d) rest (rw same table.1) laminar.1 in
    elim (cases_Bool (ltb 0 (deficit line sizes d))) [
      | inr f ↦ rw f ih
      | inl t ↦ rw t (elim (cases_Bool (list_any (lies_in d) (growing_demands line (grown_sizes line sizes d) rest))) [
        | inl inner ↦ rw inner ih
        | inr outer ↦
            let disjoint : AllByRecursion (AreDisjoint d) (growing_demands line (grown_sizes line sizes d) rest) =
            disjoint-from_outer d (growing_demands line (grown_sizes line sizes d) rest) (growing-all (Precedes d) line (grown_sizes line sizes d) rest laminar.0) outer in
            let kept : range_sum (fold (grown_sizes line) (grown_sizes line sizes d) rest) d ≡ range_sum (grown_sizes line sizes d) d =
            range_sum-disjoint line (grown_sizes line sizes d) rest d ones (omega arith) disjoint in
            let tight : d.minimum ≡ range_sum (grown_sizes line sizes d) d + inner_lines line d = tight-grown line sizes d one le (ltb-true 0 (deficit line sizes d) t) in
            rw outer ((omega arith), ih)
      ])
    ]

-- what lies in a growing cell's range lies in an outermost one's
pub covered_by_later : (d : Demand) (later : List Demand) (i : ℕ) → list_any (lies_in d) later ≡ true → holds d i ≡ true → covered later i ≡ true
covered_by_later d [] i inner h = inner
covered_by_later d (e ∷ later) i inner h = elim (or_cases (lies_in d e) (list_any (lies_in d) later) inner) [
  | inl x ↦ grind (arith, and_parts, leb-true, or_left, covered, holds_cases, true≢false)
  | inr x ↦ or_right (holds e i) (covered later i) (covered_by_later d later i x h)
]

pub covered-outermost : (ds : List Demand) (i : ℕ) → covered (outermost ds) i ≡ covered ds i
covered-outermost [] i = refl
covered-outermost (d ∷ later) i = grind (arith, cases_Bool, covered_by_later, or_left, covered, covered-outermost later i)
