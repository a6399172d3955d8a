-- The sizes have room for each cell, and none is above its top minimum size.
use Rattle.std.proofs.Common.{◌≡◌, ℕ, ◌+◌, ◌-◌, ◌<◌, ◌≤◌, Bool, true, ◌&&◌, ◌==◌, inl, inr, List, [], ◌∷◌, length, get_or, fold, refl, ap, ◌∙◌, arith, rules}
use Rattle.std.specs.Prelude.{All, Contains}
use Rattle.std.specs.List.{AllByRecursion}
use Rattle.std.proofs.lemmas.Bool.{cases_lt}
use Rattle.std.proofs.lemmas.List.Elements.{recursion_from_All, All-from_recursion, All-contains}
use Rattle.papergrid_tracks.specs.Problem.{problem_of_demands}
use Rattle.papergrid_tracks.specs.declared.demand.Demand.{Demand}
use Rattle.std.proofs.lemmas.List.{get_or_default}
use Rattle.papergrid_tracks.specs.Ranges.{end_of, holds, inner_lines, IsInTable}
use Rattle.papergrid_tracks.specs.Fits.{top_minimum, range_sum, HasRoom, Fits}
use Rattle.papergrid_tracks.specs.Sizes.{base_size, base_sizes, share, deficit, grown_sizes}
use Rattle.papergrid_tracks.proofs.Upto.{upto-point, within, range_sum-within, holds_cases}
use Rattle.papergrid_tracks.proofs.Steps.{length-distributed, get_or-grown, share-out, HasRoom-kept, HasRoom-grown, tight-grown}
use Rattle.papergrid_tracks.proofs.Greatest.{greatest_minimum-above, greatest_minimum-below, minimum-below_greatest, holds_alone, get_or-base_sizes, length-base_sizes, HasRoom-base}

pub length-by_span : (line : ℕ → Bool) (sizes : List ℕ) (by_span : List Demand) → length (fold (grown_sizes line) sizes by_span) ≡ length sizes
length-by_span line sizes [] = refl
length-by_span line sizes (d ∷ rest) = length-by_span line (grown_sizes line sizes d) rest ∙ length-distributed (deficit line sizes d) d sizes

pub length-grown : (line : ℕ → Bool) (sizes : List ℕ) (d : Demand) → length (grown_sizes line sizes d) ≡ length sizes
length-grown line sizes d = length-distributed (deficit line sizes d) d sizes

-- a cell with room keeps it through the steps
pub HasRoom-by_span : (line : ℕ → Bool) (sizes : List ℕ) (by_span : List Demand) (e : Demand) → end_of e ≤ length sizes → HasRoom line sizes e →
    HasRoom line (fold (grown_sizes line) sizes by_span) e
HasRoom-by_span line sizes [] e le room = room
HasRoom-by_span line sizes (d ∷ rest) e le room =
    let same : length (grown_sizes line sizes d) ≡ length sizes = length-grown line sizes d in
    HasRoom-by_span line (grown_sizes line sizes d) rest e (omega arith) (HasRoom-kept line sizes d e le room)

-- each cell that was taken has room
pub HasRoom-each_by_span : (line : ℕ → Bool) (sizes : List ℕ) (by_span : List Demand) → AllByRecursion (IsInTable (length sizes)) by_span →
    AllByRecursion (HasRoom line (fold (grown_sizes line) sizes by_span)) by_span
HasRoom-each_by_span line sizes [] table = tt
HasRoom-each_by_span line sizes (d ∷ rest) table =
    let same : length (grown_sizes line sizes d) ≡ length sizes = length-grown line sizes d in
    let le : end_of d ≤ length sizes = table.0.ends_within in
    let table' : AllByRecursion (IsInTable (length (grown_sizes line sizes d))) rest = rw same table.1 in (
      HasRoom-by_span line (grown_sizes line sizes d) rest d (omega arith) (HasRoom-grown line sizes d table.0.covers_one le),
      HasRoom-each_by_span line (grown_sizes line sizes d) rest table',
    )

-- the sizes after these cells were taken
abbrev pub sizes_after : (ℕ → Bool) → ℕ → List Demand → List Demand → List ℕ
sizes_after line n demands by_span = fold (grown_sizes line) (base_sizes n demands) by_span

-- the cells taken are cells of the table, and all those of longer spans are taken
pub record TakesAll (demands by_span : List Demand) : Type 0 where
  pub cells : All (Contains demands) by_span
  pub long : All (λ d. 2 ≤ d.span → Contains by_span d) demands

module _ (line : ℕ → Bool) (n : ℕ) (demands by_span : List Demand) (table : All (IsInTable n) demands) (takes : TakesAll demands by_span) where
  pub table_of_by_span : All (IsInTable (length (base_sizes n demands))) by_span
  table_of_by_span k d l =
      rw length-base_sizes (All-contains (IsInTable n) demands (get_or by_span k d) table (takes.cells k d l))

  room_of : (d : Demand) → Contains demands d → HasRoom line (sizes_after line n demands by_span) d
  room_of d m =
      let cell : IsInTable n d = All-contains (IsInTable n) demands d table m in
      let same : length (base_sizes n demands) ≡ n = length-base_sizes n demands in
      elim (cases_lt 1 d.span) [
        | inl two ↦
            All-contains (HasRoom line (sizes_after line n demands by_span)) by_span d
            (All-from_recursion (HasRoom line (sizes_after line n demands by_span)) by_span
            (HasRoom-each_by_span line (base_sizes n demands) by_span (recursion_from_All (IsInTable (length (base_sizes n demands))) by_span table_of_by_span)))
            (All-contains (λ d. 2 ≤ d.span → Contains by_span d) demands d takes.long m (omega arith))
        | inr le1 ↦ HasRoom-by_span line (base_sizes n demands) by_span d (omega arith) (HasRoom-base line n demands d cell m (omega arith))
      ]

  -- the sizes fit
  pub Fits-sizes_after : Fits (problem_of_demands line n demands) (sizes_after line n demands by_span)
  Fits-sizes_after = search (rules, length-by_span, length-base_sizes, room_of, get_or_self, get_or_default)
    where
      get_or_self : (ds : List Demand) (k : ℕ) (d : Demand) → k < length ds → get_or ds k (get_or ds k d) ≡ get_or ds k d
      get_or_self ds k d l = get_or_default ds k (get_or ds k d) d l

pub ByRecursion-weaker : {X : Type 0} (P Q : X → Type 0) → ((x : X) → P x → Q x) → (xs : List X) → AllByRecursion P xs → AllByRecursion Q xs
ByRecursion-weaker P Q h [] all = tt
ByRecursion-weaker P Q h (x ∷ xs) all = (h x all.0, ByRecursion-weaker P Q h xs all.1)

-- a base size is at most the top minimum size
base-below_top : (demands : List Demand) (i : ℕ) → base_size demands i ≤ top_minimum demands i
base-below_top demands i =
    greatest_minimum-below (λ d. d.span == 1 && d.start == i) demands (top_minimum demands i)
    (ByRecursion-weaker (λ d. holds d i ≡ true → d.minimum ≤ top_minimum demands i) (λ d. (d.span == 1 && d.start == i) ≡ true → d.minimum ≤ top_minimum demands i)
    (λ d below alone. below (holds_one d i (holds_alone d i alone))) demands
    (greatest_minimum-above (λ d. holds d i) demands (top_minimum demands i) (omega arith)))
  where
    holds_one : (d : Demand) (i : ℕ) → (d.span ≡ 1) × (d.start ≡ i) → holds d i ≡ true
    holds_one d i e = grind (arith, holds_cases)

-- a step that gives nothing leaves each size as it was
pub grown_same : (line : ℕ → Bool) (sizes : List ℕ) (d : Demand) (i : ℕ) → 1 ≤ d.span → i < length sizes → deficit line sizes d ≡ 0 →
    get_or (grown_sizes line sizes d) i 0 ≡ get_or sizes i 0
grown_same line sizes d i one l none =
    let a : get_or (grown_sizes line sizes d) i 0 ≡ get_or sizes i 0 + share (deficit line sizes d) d i = get_or-grown line sizes d i l in
    grind (arith, holds_cases, within, upto-point, share-out)

-- one step keeps the bound
bound-grown : (line : ℕ → Bool) (sizes : List ℕ) (demands : List Demand) (d : Demand) (i : ℕ) → 1 ≤ d.span → end_of d ≤ length sizes → Contains demands d →
    i < length sizes → get_or sizes i 0 ≤ top_minimum demands i → get_or (grown_sizes line sizes d) i 0 ≤ top_minimum demands i
bound-grown line sizes demands d i one le m l bound = elim (cases_lt 0 (deficit line sizes d)) [
  | inr none ↦
      let same : get_or (grown_sizes line sizes d) i 0 ≡ get_or sizes i 0 = grown_same line sizes d i one l (omega arith) in
      omega arith
  | inl grows ↦ elim (holds_cases d i) [
    | inr h ↦
        let a : get_or (grown_sizes line sizes d) i 0 ≡ get_or sizes i 0 + share (deficit line sizes d) d i = get_or-grown line sizes d i l in
        let z : share (deficit line sizes d) d i ≡ 0 = share-out (deficit line sizes d) d i one h.1 in
        omega arith
    | inl h ↦
        let e : d.start + (i - d.start) ≡ i = omega arith in
        let p : get_or (grown_sizes line sizes d) (d.start + (i - d.start)) 0 ≤ within (λ k. get_or (grown_sizes line sizes d) k 0) d =
        upto-point (λ k. get_or (grown_sizes line sizes d) (d.start + k) 0) d.span (i - d.start) (omega arith) in
        let p' : get_or (grown_sizes line sizes d) (d.start + (i - d.start)) 0 ≡ get_or (grown_sizes line sizes d) i 0 = ap (λ k. get_or (grown_sizes line sizes d) k 0) e in
        let r : range_sum (grown_sizes line sizes d) d ≡ within (λ k. get_or (grown_sizes line sizes d) k 0) d = range_sum-within (grown_sizes line sizes d) d in
        let t : d.minimum ≡ range_sum (grown_sizes line sizes d) d + inner_lines line d = tight-grown line sizes d one le grows in
        let top : d.minimum ≤ top_minimum demands i = minimum-below_greatest (λ c. holds c i) demands d m h.0 in
        omega arith
  ]
]

bound-by_span : (line : ℕ → Bool) (sizes : List ℕ) (demands by_span : List Demand) → AllByRecursion (IsInTable (length sizes)) by_span → AllByRecursion (Contains demands) by_span →
    (i : ℕ) → i < length sizes → get_or sizes i 0 ≤ top_minimum demands i → get_or (fold (grown_sizes line) sizes by_span) i 0 ≤ top_minimum demands i
bound-by_span line sizes demands [] table cells i l bound = bound
bound-by_span line sizes demands (d ∷ rest) table cells i l bound =
    let same : length (grown_sizes line sizes d) ≡ length sizes = length-grown line sizes d in
    let table' : AllByRecursion (IsInTable (length (grown_sizes line sizes d))) rest = rw same table.1 in
    search (rules, bound-by_span line (grown_sizes line sizes d) demands rest table' cells.1 i (omega arith), table', bound-grown)

-- no size is above its top minimum size
pub bound-sizes_after : (line : ℕ → Bool) (n : ℕ) (demands by_span : List Demand) → All (IsInTable n) demands → TakesAll demands by_span →
    (i : ℕ) → i < n → get_or (sizes_after line n demands by_span) i 0 ≤ top_minimum demands i
bound-sizes_after line n demands by_span table takes i l =
    let same : length (base_sizes n demands) ≡ n = length-base_sizes n demands in
    let b : get_or (base_sizes n demands) i 0 ≡ base_size demands i = get_or-base_sizes n demands i l in
    let b' : base_size demands i ≤ top_minimum demands i = base-below_top demands i in
    grind (arith, bound-by_span, recursion_from_All, table_of_by_span)
