-- A certificate shows that no list that fits has a smaller total.
use Rattle.std.proofs.Common.{◌≡◌, ℕ, ◌+◌, ◌≤◌, Bool, List, [], ◌∷◌, length, get_or, sum, sum_by, ap, arith, rules}
use Rattle.std.specs.Prelude.{All, Contains}
use Rattle.std.specs.List.{AllByRecursion}
use Rattle.std.proofs.lemmas.List.Sums.{sum_by-cons}
use Rattle.std.proofs.lemmas.List.Elements.{recursion_from_All, All-contains, All-weaker}
use Rattle.papergrid_tracks.specs.Problem.{problem_of_demands}
use Rattle.papergrid_tracks.specs.declared.demand.Demand.{Demand}
use Rattle.papergrid_tracks.specs.Ranges.{end_of, inner_lines, IsInTable}
use Rattle.papergrid_tracks.specs.Fits.{HasRoom, Fits, IsLeast, IsCertificate}
use Rattle.papergrid_tracks.proofs.Upto.{upto, sum-upto, within, range_sum-within}
use Rattle.papergrid_tracks.proofs.RangeLemmas.{ArePairwiseDisjoint-from_AllPairs, partition, outside}

minimums_below : (line : ℕ → Bool) (sizes : List ℕ) (ds : List Demand) → AllByRecursion (HasRoom line sizes) ds →
    sum_by (λ d. d.minimum) ds ≤ sum_by (within (λ i. get_or sizes i 0)) ds + sum_by (inner_lines line) ds
minimums_below line sizes [] h = omega arith
minimums_below line sizes (d ∷ ds) h =
    let a : sum_by (λ d. d.minimum) (d ∷ ds) ≡ d.minimum + sum_by (λ d. d.minimum) ds = sum_by-cons (λ d. d.minimum) d ds in
    let b = sum_by-cons (within (λ i. get_or sizes i 0)) d ds in
    omega (arith, minimums_below line sizes ds h.1, sum_by-cons (inner_lines line) d ds, range_sum-within sizes d, h.0)

-- the total of a list that fits is at least that of the certificate
pub total_bounds : (line : ℕ → Bool) (n : ℕ) (demands certificate_cells : List Demand) (sizes other : List ℕ) →
    All (IsInTable n) demands → IsCertificate (problem_of_demands line n demands) sizes certificate_cells → Fits (problem_of_demands line n demands) other → sum sizes ≤ sum other
total_bounds line n demands certificate_cells sizes other table certificate fits =
    let inside : AllByRecursion (λ d. end_of d ≤ n) certificate_cells =
    recursion_from_All (λ d. end_of d ≤ n) certificate_cells
    (All-weaker (Contains demands) (λ d. end_of d ≤ n) (λ d m. (All-contains (IsInTable n) demands d table m).ends_within) certificate_cells certificate.visible) in
    let room : AllByRecursion (HasRoom line other) certificate_cells =
    recursion_from_All (HasRoom line other) certificate_cells
    (All-weaker (Contains demands) (HasRoom line other) (λ d m. All-contains (HasRoom line other) demands d fits.room m) certificate_cells certificate.visible) in
    let p : upto (λ i. get_or other i 0) n ≡ sum_by (within (λ i. get_or other i 0)) certificate_cells + upto (outside certificate_cells (λ i. get_or other i 0)) n =
    partition (λ i. get_or other i 0) n certificate_cells inside (ArePairwiseDisjoint-from_AllPairs certificate_cells certificate.disjoint) in
    let s' : upto (λ i. get_or other i 0) (length other) ≡ upto (λ i. get_or other i 0) n = ap (upto (λ i. get_or other i 0)) fits.one_each in
    omega (arith, minimums_below line other certificate_cells room, sum-upto other, certificate.adds_up)

-- sizes that fit and have a certificate are least
pub IsLeast-from_certificate : (line : ℕ → Bool) (n : ℕ) (demands certificate_cells : List Demand) (sizes : List ℕ) →
    All (IsInTable n) demands → Fits (problem_of_demands line n demands) sizes → IsCertificate (problem_of_demands line n demands) sizes certificate_cells → IsLeast (problem_of_demands line n demands) sizes
IsLeast-from_certificate line n demands certificate_cells sizes table fits certificate = search (rules, total_bounds)
