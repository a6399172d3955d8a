-- No least size is above the top minimum size, where none of the given sizes is.
use Rattle.std.proofs.Common.{◌≡◌, ℕ, suc, ◌+◌, ◌-◌, ◌<◌, ◌≤◌, min, Bool, List, length, get_or, take, sum, ap, arith}
use Rattle.std.specs.Prelude.{All, map}
use Rattle.std.proofs.lemmas.List.Elements.{All-map, Contains-get_or}
use Rattle.std.proofs.lemmas.List.FromFn.{get_or-map-range_with_len}
use Rattle.papergrid_tracks.specs.declared.demand.Demand.{Demand}
use Rattle.papergrid_tracks.specs.Problem.{problem_of_demands}
use Rattle.papergrid_tracks.specs.Ranges.{end_of, holds, IsInTable}
use Rattle.papergrid_tracks.specs.Fits.{top_minimum}
use Rattle.papergrid_tracks.proofs.Upto.{upto, sum-take, holds-inside}
use Rattle.papergrid_tracks.proofs.Greatest.{minimum-below_greatest}
use Rattle.papergrid_tracks.specs.TrackBoundaries.{net_minimum, boundaries_of}
use Rattle.papergrid_tracks.proofs.LowestLemmas.{pushed_lower_bound, lowest_position_to, lowest_position, pushed-below, lowest_position_to-at, lowest_position_to-is, lowest_position-monotone}
use Rattle.papergrid_tracks.proofs.HighestLemmas.{mirror, lowest_position_back, highest_position, least_sizes, mirrored-twice, table-mirrored}

-- the lowest position of a boundary is past the one before by at most what a cell asks whose range ends there
lowest_position-step : (asks : Demand → ℕ) (ds : List Demand) (n : ℕ) → All (IsInTable n) ds → (i m : ℕ) → All (λ d. end_of d ≡ suc i → asks d ≤ m) ds → lowest_position asks ds (suc i) ≤ lowest_position asks ds i + m
lowest_position-step asks ds n table i m each =
    let below : pushed_lower_bound asks ds (lowest_position_to asks ds i) (suc i) ≤ lowest_position asks ds i + m =
    pushed-below asks ds (lowest_position_to asks ds i) (suc i) (lowest_position asks ds i + m) (λ k d l ends. push_at (get_or ds k d) (table k d l) ends (each k d l ends)) in
    omega (arith, lowest_position_to-at asks ds i)
  where
    push_at : (d : Demand) → IsInTable n d → end_of d ≡ suc i → asks d ≤ m → lowest_position_to asks ds i d.start + asks d ≤ lowest_position asks ds i + m
    push_at d cell ends le = grind (arith, lowest_position_to, lowest_position, lowest_position_to-is, lowest_position-monotone)

highest_position-step : (asks : Demand → ℕ) (n : ℕ) (ds : List Demand) → All (IsInTable n) ds → (i m : ℕ) → i < n → All (λ d. d.start ≡ i → asks d ≤ m) ds →
    highest_position asks n ds (i + 1) ≤ highest_position asks n ds i + m
highest_position-step asks n ds table i m l each =
    let a : lowest_position_back asks n ds (suc (n - (i + 1))) ≤ lowest_position_back asks n ds (n - (i + 1)) + m =
    lowest_position-step (λ d. asks (mirror n d)) (map (mirror n) ds) n (table-mirrored asks n ds table) (n - (i + 1)) m
    (All-map (λ d. end_of d ≡ suc (n - (i + 1)) → asks (mirror n d) ≤ m) (mirror n) ds (λ k d l' ends. start_at (get_or ds k d) (table k d l') (each k d l') ends)) in
    let e : lowest_position_back asks n ds (suc (n - (i + 1))) ≡ lowest_position_back asks n ds (n - i) = ap (lowest_position_back asks n ds) (let s : suc (n - (i + 1)) ≡ n - i = omega arith in s) in
    omega arith
  where
    start_at : (d : Demand) → IsInTable n d → (d.start ≡ i → asks d ≤ m) → end_of (mirror n d) ≡ suc (n - (i + 1)) → asks (mirror n (mirror n d)) ≤ m
    start_at d cell here ends = grind (arith, mirror, mirrored-twice)

pub bound-least_sizes : (line : ℕ → Bool) (n : ℕ) (demands : List Demand) (sizes : List ℕ) → All (IsInTable n) demands →
    (i : ℕ) → i < n → get_or sizes i 0 ≤ top_minimum demands i → get_or (least_sizes (problem_of_demands line n demands) sizes) i 0 ≤ top_minimum demands i
bound-least_sizes line n demands sizes table i l below =
    let a : get_or (least_sizes (problem_of_demands line n demands) sizes) i 0 ≡ min (boundaries_of sizes (i + 1)) (highest_position (net_minimum line) n demands (i + 1)) - min (boundaries_of sizes i) (highest_position (net_minimum line) n demands i) =
    get_or-map-range_with_len (λ i. min (boundaries_of sizes (i + 1)) (highest_position (net_minimum line) n demands (i + 1)) - min (boundaries_of sizes i) (highest_position (net_minimum line) n demands i)) 0 n i i 0 l (omega arith) in
    let b : sum (take (suc i) sizes) ≡ upto (λ i. get_or sizes i 0) i + get_or sizes i 0 = sum-take (suc i) sizes in
    let c : sum (take i sizes) ≡ upto (λ i. get_or sizes i 0) i = sum-take i sizes in
    let c' : boundaries_of sizes (i + 1) ≡ boundaries_of sizes (suc i) = ap (boundaries_of sizes) (let s : i + 1 ≡ suc i = omega arith in s) in
    let d : highest_position (net_minimum line) n demands (i + 1) ≤ highest_position (net_minimum line) n demands i + top_minimum demands i =
    highest_position-step (net_minimum line) n demands table i (top_minimum demands i) l (λ k d l' here. asked-below k d l' (table k d l') here) in
    omega arith
  where
    asked-below : (k : ℕ) (d : Demand) → k < length demands → IsInTable n (get_or demands k d) → (get_or demands k d).start ≡ i → net_minimum line (get_or demands k d) ≤ top_minimum demands i
    asked-below k d l cell here =
        let a : (get_or demands k d).minimum ≤ top_minimum demands i =
        minimum-below_greatest (λ d. holds d i) demands (get_or demands k d) (Contains-get_or demands k d l) (holds-inside (get_or demands k d) i (omega arith) (omega arith)) in
        omega arith
