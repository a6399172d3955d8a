-- The highest positions are boundaries, and no boundaries that end at the least total are past them.
use Rattle.std.proofs.Common.{◌≡◌, ℕ, ◌+◌, ◌-◌, ◌≤◌, min, List, [], ◌∷◌, get_or, ap, arith}
use Rattle.std.specs.Prelude.{All, map}
use Rattle.std.specs.List.{AllByRecursion}
use Rattle.std.proofs.lemmas.List.Elements.{All-from_recursion, recursion_from_All, All-map}
use Rattle.papergrid_tracks.specs.declared.demand.Demand.{Demand}
use Rattle.papergrid_tracks.specs.Problem.{Problem}
use Rattle.papergrid_tracks.specs.Ranges.{end_of, IsInTable}
use Rattle.papergrid_tracks.specs.Sizes.{sizes_of}
use Rattle.papergrid_tracks.specs.TrackBoundaries.{AreBoundaries, boundaries_of, net_minimum, sizes_between}
use Rattle.papergrid_tracks.proofs.BoundaryLemmas.{rises}
use Rattle.papergrid_tracks.proofs.LowestLemmas.{AreBoundaries-lowest_position, lowest_position, lowest_position-below}

-- the cell with its range counted from the far end
abbrev pub mirror : ℕ → Demand → Demand
mirror n d = record d { start = n - end_of d }

-- the lowest positions of the boundaries, counted from the far end
abbrev pub lowest_position_back : (Demand → ℕ) → ℕ → List Demand → ℕ → ℕ
lowest_position_back asks n demands i = lowest_position (λ d. asks (mirror n d)) (map (mirror n) demands) i

-- the highest position of the boundary at i, where the last is at the least total
abbrev pub highest_position : (Demand → ℕ) → ℕ → List Demand → ℕ → ℕ
highest_position asks n demands i = lowest_position asks demands n - lowest_position_back asks n demands (n - i)

-- these sizes with each boundary that is past its highest position moved there
abbrev pub least_sizes : Problem → List ℕ → List ℕ
least_sizes problem sizes =
    sizes_between problem.count (λ i. min (boundaries_of sizes i) (highest_position (net_minimum problem.line) problem.count problem.demands i))

-- the sizes by shares, made least: those that are furthest right, as a law says
abbrev pub least_of : Problem → List ℕ
least_of problem = least_sizes problem (sizes_of problem)

pub mirrored-twice : (n : ℕ) (d : Demand) → IsInTable n d → mirror n (mirror n d) ≡ d
mirrored-twice n d cell = grind arith

IsInTable-mirrored : (n : ℕ) (d : Demand) → IsInTable n d → IsInTable n (mirror n d)
IsInTable-mirrored n d cell = let le : end_of d ≤ n = cell.ends_within in record { covers_one = cell.covers_one; ends_within = omega arith }

unmapped : (P : Demand → Type 0) (f : Demand → Demand) (ds : List Demand) → AllByRecursion P (map f ds) → AllByRecursion (λ d. P (f d)) ds
unmapped P f [] h = tt
unmapped P f (d ∷ ds) h = (h.0, unmapped P f ds h.1)

pub All-unmapped : (P : Demand → Type 0) (f : Demand → Demand) (ds : List Demand) → All P (map f ds) → All (λ d. P (f d)) ds
All-unmapped P f ds h = All-from_recursion (λ d. P (f d)) ds (unmapped P f ds (recursion_from_All P (map f ds) h))

module _ (asks : Demand → ℕ) (n : ℕ) (ds : List Demand) (table : All (IsInTable n) ds) where
  pub table-mirrored : All (IsInTable n) (map (mirror n) ds)
  table-mirrored = All-map (IsInTable n) (mirror n) ds (λ k d l. IsInTable-mirrored n (get_or ds k d) (table k d l))

  -- boundaries, counted from the far end
  mirrored-boundaries : (boundary : ℕ → ℕ) (top : ℕ) → AreBoundaries asks n ds boundary → boundary n ≤ top → AreBoundaries (λ d. asks (mirror n d)) n (map (mirror n) ds) (λ i. top - boundary (n - i))
  mirrored-boundaries boundary top are le = record {
    rise = λ i l.
        let e : boundary (n - (i + 1) + 1) ≡ boundary (n - i) = ap boundary (let s : n - (i + 1) + 1 ≡ n - i = omega arith in s) in
        omega arith;
    apart = All-map (λ d. (top - boundary (n - d.start)) + asks (mirror n d) ≤ top - boundary (n - end_of d)) (mirror n) ds
        (λ k d l. apart_at (get_or ds k d) (table k d l) (are.apart k d l));
  }
    where
      apart_at : (d : Demand) → IsInTable n d → boundary d.start + asks d ≤ boundary (end_of d) →
          (top - boundary (n - (mirror n d).start)) + asks (mirror n (mirror n d)) ≤ top - boundary (n - end_of (mirror n d))
      apart_at d cell apart =
          let a : asks (mirror n (mirror n d)) ≡ asks d = ap asks (mirrored-twice n d cell) in
          let b : boundary (n - (n - (d.start + d.span))) ≡ boundary (d.start + d.span) = ap boundary (let s : n - (n - (d.start + d.span)) ≡ d.start + d.span = omega arith in s) in
          let c : boundary (n - (n - (d.start + d.span) + d.span)) ≡ boundary d.start = ap boundary (let s : n - (n - (d.start + d.span) + d.span) ≡ d.start = omega arith in s) in
          let e : boundary (d.start + d.span) ≤ boundary ((d.start + d.span) + (n - (d.start + d.span))) = rises asks n ds boundary are (d.start + d.span) (n - (d.start + d.span)) (omega arith) in
          let f : boundary ((d.start + d.span) + (n - (d.start + d.span))) ≡ boundary n = ap boundary (let s : (d.start + d.span) + (n - (d.start + d.span)) ≡ n = omega arith in s) in
          let g : boundary d.start + asks d ≤ boundary (d.start + d.span) = apart in
          omega arith

  boundaries_from_mirrored : (boundary : ℕ → ℕ) (top : ℕ) → AreBoundaries (λ d. asks (mirror n d)) n (map (mirror n) ds) boundary → boundary n ≤ top → AreBoundaries asks n ds (λ i. top - boundary (n - i))
  boundaries_from_mirrored boundary top are le = record {
    rise = λ i l.
        let e : boundary (n - (i + 1) + 1) ≡ boundary (n - i) = ap boundary (let s : n - (i + 1) + 1 ≡ n - i = omega arith in s) in
        omega arith;
    apart = λ k d l. apart_at (get_or ds k d) (table k d l)
        (All-unmapped (λ d. boundary d.start + asks (mirror n d) ≤ boundary (end_of d)) (mirror n) ds are.apart k d l);
  }
    where
      apart_at : (d : Demand) → IsInTable n d → boundary (mirror n d).start + asks (mirror n (mirror n d)) ≤ boundary (end_of (mirror n d)) →
          (top - boundary (n - d.start)) + asks d ≤ top - boundary (n - end_of d)
      apart_at d cell apart =
          let a : asks (mirror n (mirror n d)) ≡ asks d = ap asks (mirrored-twice n d cell) in
          let b : boundary (n - (d.start + d.span) + d.span) ≡ boundary (n - d.start) = ap boundary (let s : n - (d.start + d.span) + d.span ≡ n - d.start = omega arith in s) in
          let e : boundary (n - d.start) ≤ boundary ((n - d.start) + d.start) = rises (λ d. asks (mirror n d)) n (map (mirror n) ds) boundary are (n - d.start) d.start (omega arith) in
          let f : boundary ((n - d.start) + d.start) ≡ boundary n = ap boundary (let s : (n - d.start) + d.start ≡ n = omega arith in s) in
          omega arith

  back-boundaries : AreBoundaries (λ d. asks (mirror n d)) n (map (mirror n) ds) (lowest_position_back asks n ds)
  back-boundaries = AreBoundaries-lowest_position (λ d. asks (mirror n d)) (map (mirror n) ds) n table-mirrored

  back-below : (boundary : ℕ → ℕ) (top : ℕ) → AreBoundaries asks n ds boundary → boundary n ≤ top → (i : ℕ) → i ≤ n → lowest_position_back asks n ds i ≤ top - boundary (n - i)
  back-below boundary top are le i l = lowest_position-below (λ d. asks (mirror n d)) (map (mirror n) ds) n table-mirrored (λ i. top - boundary (n - i)) (mirrored-boundaries boundary top are le) i l

  pub back-total : lowest_position_back asks n ds n ≤ lowest_position asks ds n
  back-total =
      let a : lowest_position_back asks n ds n ≤ lowest_position asks ds n - lowest_position asks ds (n - n) = back-below (lowest_position asks ds) (lowest_position asks ds n) (AreBoundaries-lowest_position asks ds n table) (omega arith) n (omega arith) in
      omega arith

  pub AreBoundaries-highest_position : AreBoundaries asks n ds (highest_position asks n ds)
  AreBoundaries-highest_position = boundaries_from_mirrored (lowest_position_back asks n ds) (lowest_position asks ds n) back-boundaries back-total

  pub highest_position-above : (boundary : ℕ → ℕ) → AreBoundaries asks n ds boundary → boundary n ≤ lowest_position asks ds n → (i : ℕ) → i ≤ n → boundary i ≤ highest_position asks n ds i
  highest_position-above boundary are le i l =
      let a : lowest_position_back asks n ds (n - i) ≤ lowest_position asks ds n - boundary (n - (n - i)) = back-below boundary (lowest_position asks ds n) are le (n - i) (omega arith) in
      let b : boundary (n - (n - i)) ≡ boundary i = ap boundary (let s : n - (n - i) ≡ i = omega arith in s) in
      let c : boundary i ≤ boundary (i + (n - i)) = rises asks n ds boundary are i (n - i) (omega arith) in
      let d : boundary (i + (n - i)) ≡ boundary n = ap boundary (let s : i + (n - i) ≡ n = omega arith in s) in
      omega arith

  pub highest_position-first : highest_position asks n ds 0 ≡ 0
  highest_position-first =
      let are : AreBoundaries asks n ds (λ i. lowest_position_back asks n ds n - lowest_position_back asks n ds (n - i)) = boundaries_from_mirrored (lowest_position_back asks n ds) (lowest_position_back asks n ds n) back-boundaries (omega arith) in
      let a : lowest_position asks ds n ≤ lowest_position_back asks n ds n - lowest_position_back asks n ds (n - n) =
      lowest_position-below asks ds n table (λ i. lowest_position_back asks n ds n - lowest_position_back asks n ds (n - i)) are n (omega arith) in
      let e : lowest_position_back asks n ds (n - 0) ≡ lowest_position_back asks n ds n = ap (lowest_position_back asks n ds) (let s : n - 0 ≡ n = omega arith in s) in
      omega arith

pub highest_position-last : (asks : Demand → ℕ) (n : ℕ) (ds : List Demand) → highest_position asks n ds n ≡ lowest_position asks ds n
highest_position-last asks n ds = grind arith
