-- The order of the cells does not matter to boundaries.
use Rattle.std.proofs.Common.{ℕ, ◌+◌, ◌<◌, ◌≤◌, List, get_or, arith}
use Rattle.std.specs.Prelude.{All, map}
use Rattle.std.proofs.lemmas.List.Elements.{All-map}
use Rattle.std.specs.List.Sorted.{IsPermutation}
use Rattle.std.proofs.lemmas.List.Sorted.{All-permutation, IsPermutation-sym}
use Rattle.papergrid_tracks.specs.declared.demand.Demand.{Demand}
use Rattle.papergrid_tracks.specs.declared.error.LayoutError.{LayoutError}
use Rattle.papergrid_tracks.specs.declared.error.LayoutError.TheVariants.{OutOfTable, TooLarge, Memory}
use Rattle.papergrid_tracks.specs.Ranges.{IsInTable, end_of}
use Rattle.papergrid_tracks.specs.ForProofs.Laid.{AreLaid, with_net_minimum}
use Rattle.papergrid_tracks.specs.ForProofs.Limits.{AreLowestBoundaries, AreHighestBoundaries, Refuses}

module _ (base : List ℕ) (xs ys : List Demand) (moved : IsPermutation xs ys) where
  pub AreLaid-permuted : (boundary : ℕ → ℕ) → AreLaid base xs boundary → AreLaid base ys boundary
  AreLaid-permuted boundary are = record { steps = are.steps; apart = All-permutation (λ d. boundary d.start + d.minimum ≤ boundary (end_of d)) xs ys moved are.apart }

  pub AreLaid-unpermuted : (boundary : ℕ → ℕ) → AreLaid base ys boundary → AreLaid base xs boundary
  AreLaid-unpermuted boundary are = record { steps = are.steps; apart = All-permutation (λ d. boundary d.start + d.minimum ≤ boundary (end_of d)) ys xs (IsPermutation-sym xs ys moved) are.apart }

  pub AreLowestBoundaries-unpermuted : (boundaries : List ℕ) → AreLowestBoundaries base ys boundaries → AreLowestBoundaries base xs boundaries
  AreLowestBoundaries-unpermuted boundaries is = record {
    one_more = is.one_more;
    laid = AreLaid-unpermuted _ is.laid;
    below = λ boundary are. is.below boundary (AreLaid-permuted boundary are);
  }

  pub AreHighestBoundaries-unpermuted : (total : ℕ) (boundaries : List ℕ) → AreHighestBoundaries base ys total boundaries → AreHighestBoundaries base xs total boundaries
  AreHighestBoundaries-unpermuted total boundaries is = record {
    one_more = is.one_more;
    last = is.last;
    laid = AreLaid-unpermuted _ is.laid;
    above = λ boundary are. is.above boundary (AreLaid-permuted boundary are);
  }

-- cells of the table stay in it, whatever they ask
pub table-carrying : (asks : Demand → ℕ) (n : ℕ) (cells : List Demand) → All (IsInTable n) cells → All (IsInTable n) (map (with_net_minimum asks) cells)
table-carrying asks n cells table =
    All-map (IsInTable n) (with_net_minimum asks) cells (λ k d l. let cell : IsInTable n (get_or cells k d) = table k d l in record { covers_one = cell.covers_one; ends_within = cell.ends_within })

-- and end where a number can be
pub ends-fit : (n : ℕ) (cells : List Demand) → n < 18446744073709551616 → All (IsInTable n) cells → All (λ d. end_of d < 18446744073709551616) cells
ends-fit n cells small table k d l = let le : end_of (get_or cells k d) ≤ n = (table k d l).ends_within in omega arith

pub table-wider : (n m : ℕ) (cells : List Demand) → n ≤ m → All (IsInTable n) cells → All (IsInTable m) cells
table-wider n m cells le table k d l = let cell : IsInTable n (get_or cells k d) = table k d l in record { covers_one = cell.covers_one; ends_within = omega (arith, cell.ends_within) }

pub Refuses-weaker : (A B : Type 0) → (A → B) → (e : LayoutError) → Refuses A e → Refuses B e
Refuses-weaker A B f (OutOfTable position) refused = refused
Refuses-weaker A B f TooLarge refused = f refused
Refuses-weaker A B f (Memory e) refused = tt
