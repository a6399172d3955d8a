-- Sizes that fit, and boundaries.
use Rattle.std.proofs.Common.{◌≡◌, ℕ, zero, suc, ◌+◌, ◌-◌, ◌<◌, ◌≤◌, min, Bool, List, length, get_or, take, sum, ap, arith, add-zero, rules}
use Rattle.std.specs.Prelude.{All}
use Rattle.std.proofs.lemmas.List.FromFn.{get_or-map-range_with_len, length-map-range_with_len}
use Rattle.std.proofs.lemmas.Grind.{common_steps}
use Rattle.papergrid_tracks.specs.declared.demand.Demand.{Demand}
use Rattle.papergrid_tracks.specs.Problem.{problem_of_demands}
use Rattle.papergrid_tracks.specs.Ranges.{end_of, IsInTable}
use Rattle.papergrid_tracks.specs.Fits.{range_sum, HasRoom, Fits}
use Rattle.papergrid_tracks.proofs.Upto.{upto, upto-ext, upto-split, sum-take, sum-upto, range_sum-within, within}
use Rattle.papergrid_tracks.specs.TrackBoundaries.{net_minimum, boundaries_of, AreBoundaries, sizes_between}

pub rises : (asks : Demand → ℕ) (n : ℕ) (ds : List Demand) (boundary : ℕ → ℕ) → AreBoundaries asks n ds boundary → (i k : ℕ) → i + k ≤ n → boundary i ≤ boundary (i + k)
rises asks n ds boundary are i zero le = rw add-zero (omega arith)
rises asks n ds boundary are i (suc k) le = grind (arith, rises asks n ds boundary are i k (omega arith))

-- the sum over a range is the distance between its boundaries
pub boundaries-apart : (sizes : List ℕ) (d : Demand) → boundaries_of sizes (end_of d) ≡ boundaries_of sizes d.start + range_sum sizes d
boundaries-apart sizes d = grind (arith, upto, sum-take, within, upto-split, range_sum-within)

pub boundaries-next : (sizes : List ℕ) (i : ℕ) → boundaries_of sizes (i + 1) ≡ boundaries_of sizes i + get_or sizes i 0
boundaries-next sizes i = grind (arith, upto, sum-take)

boundaries-rise : (sizes : List ℕ) (i : ℕ) → boundaries_of sizes i ≤ boundaries_of sizes (i + 1)
boundaries-rise sizes i = let e : boundaries_of sizes (i + 1) ≡ boundaries_of sizes i + get_or sizes i 0 = boundaries-next sizes i in omega arith

pub AreBoundaries-boundaries_of : (line : ℕ → Bool) (n : ℕ) (demands : List Demand) (sizes : List ℕ) → Fits (problem_of_demands line n demands) sizes → AreBoundaries (net_minimum line) n demands (boundaries_of sizes)
AreBoundaries-boundaries_of line n demands sizes fits = grind (arith, boundaries-rise, boundaries-apart)

pub Fits-from_boundaries : (line : ℕ → Bool) (n : ℕ) (demands : List Demand) (sizes : List ℕ) → length sizes ≡ n → AreBoundaries (net_minimum line) n demands (boundaries_of sizes) → Fits (problem_of_demands line n demands) sizes
Fits-from_boundaries line n demands sizes same are = grind (arith, boundaries-apart)

-- boundaries, the sizes between them, and the boundaries of these
telescope : (boundary : ℕ → ℕ) (k : ℕ) → ((i : ℕ) → i < k → boundary i ≤ boundary (i + 1)) → upto (λ i. boundary (i + 1) - boundary i) k + boundary 0 ≡ boundary k
telescope boundary zero rise = omega arith
telescope boundary (suc k) rise =
    let ih : upto (λ i. boundary (i + 1) - boundary i) k + boundary 0 ≡ boundary k = telescope boundary k (λ i l. rise i (omega arith)) in
    let e : k + 1 ≡ suc k = omega arith in
    rw (← e) (omega arith)

pub boundaries-sizes_between : (n : ℕ) (boundary : ℕ → ℕ) → ((i : ℕ) → i < n → boundary i ≤ boundary (i + 1)) → (k : ℕ) → k ≤ n → boundaries_of (sizes_between n boundary) k + boundary 0 ≡ boundary k
boundaries-sizes_between n boundary rise k le =
    let a : sum (take k (sizes_between n boundary)) ≡ upto (λ i. get_or (sizes_between n boundary) i 0) k = sum-take k (sizes_between n boundary) in
    let b : upto (λ i. get_or (sizes_between n boundary) i 0) k ≡ upto (λ i. boundary (i + 1) - boundary i) k =
    upto-ext (λ i. get_or (sizes_between n boundary) i 0) (λ i. boundary (i + 1) - boundary i) k
    (λ i l. get_or-map-range_with_len (λ i. boundary (i + 1) - boundary i) 0 n i i 0 (omega arith) (omega arith)) in
    let c : upto (λ i. boundary (i + 1) - boundary i) k + boundary 0 ≡ boundary k = telescope boundary k (λ i l. rise i (omega arith)) in
    omega arith

pub length-sizes_between : (n : ℕ) (boundary : ℕ → ℕ) → length (sizes_between n boundary) ≡ n
length-sizes_between n boundary = length-map-range_with_len (λ i. boundary (i + 1) - boundary i) 0 n

pub sum-sizes_between : (n : ℕ) (boundary : ℕ → ℕ) → ((i : ℕ) → i < n → boundary i ≤ boundary (i + 1)) → sum (sizes_between n boundary) + boundary 0 ≡ boundary n
sum-sizes_between n boundary rise =
    let b : length (sizes_between n boundary) ≡ n = length-sizes_between n boundary in
    let c : sum (take n (sizes_between n boundary)) ≡ upto (λ i. get_or (sizes_between n boundary) i 0) n = sum-take n (sizes_between n boundary) in
    let d : upto (λ i. get_or (sizes_between n boundary) i 0) (length (sizes_between n boundary)) ≡ upto (λ i. get_or (sizes_between n boundary) i 0) n = ap (upto (λ i. get_or (sizes_between n boundary) i 0)) b in
    omega (arith, boundaries-sizes_between n boundary rise n (omega arith), sum-upto (sizes_between n boundary))

pub Fits-sizes_between : (line : ℕ → Bool) (n : ℕ) (demands : List Demand) (boundary : ℕ → ℕ) → All (IsInTable n) demands → AreBoundaries (net_minimum line) n demands boundary → Fits (problem_of_demands line n demands) (sizes_between n boundary)
Fits-sizes_between line n demands boundary table are = search (rules, length-sizes_between, room_of, boundaries-apart, boundaries-sizes_between)
  where
    room_of : (d : Demand) → IsInTable n d → boundary d.start + net_minimum line d ≤ boundary (end_of d) → HasRoom line (sizes_between n boundary) d
    room_of d cell apart =
        let le : end_of d ≤ n = cell.ends_within in
        let a : boundaries_of (sizes_between n boundary) (end_of d) ≡ boundaries_of (sizes_between n boundary) d.start + range_sum (sizes_between n boundary) d = boundaries-apart (sizes_between n boundary) d in
        let b : boundaries_of (sizes_between n boundary) (end_of d) + boundary 0 ≡ boundary (end_of d) = boundaries-sizes_between n boundary are.rise (end_of d) le in
        omega (arith, boundaries-sizes_between n boundary are.rise d.start (omega arith))

pub AreBoundaries-min : (asks : Demand → ℕ) (n : ℕ) (demands : List Demand) (a b : ℕ → ℕ) → AreBoundaries asks n demands a → AreBoundaries asks n demands b →
    AreBoundaries asks n demands (λ i. min (a i) (b i))
AreBoundaries-min asks n demands a b are are' = grind arith

pub take_whole : (n : ℕ) (xs : List ℕ) → length xs ≡ n → take n xs ≡ xs
take_whole n xs e = grind (arith, common_steps)
