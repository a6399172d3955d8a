-- The first cell out of the table, and minimum sizes past the greatest `usize`.
use Rattle.std.proofs.Common.{Bool, List, [], ap, arith, false, inl, inr, map, nat_lt, refl, subst, sum, sym, true, ℕ, ◌+◌, ◌||◌, ◌∙◌, ◌∷◌, ◌≡◌, ◌≤◌}
use Rattle.std.specs.Prelude.{Option, Some, None, is_some, All, if◌then◌else◌}
use Rattle.std.specs.List.{list_any}
use Rattle.std.proofs.lemmas.Bool.{false≢true, cases_Bool, ltb-false, leb-true}
use Rattle.std.proofs.lemmas.List.Elements.{All-nil, All-cons, All-head, All-tail}
use Rattle.papergrid_tracks.proofs.BySizing.{AreSizesTooLarge}
use Rattle.papergrid_tracks.specs.Problem.{problem_of_demands}
use Rattle.papergrid_values.specs.Lines.{all_lines}
use Rattle.papergrid_tracks.specs.declared.demand.Demand.{Demand}
use Rattle.papergrid_tracks.specs.declared.demands.Demands.{Demands}
use Rattle.papergrid_tracks.specs.Ranges.{IsInTable, end_of, first_out, position_of}
use Rattle.papergrid_tracks.specs.Fits.{HasRoom, IsTooLarge}
use Rattle.papergrid_tracks.specs.ForProofs.Demands.{AreGathered, is_large, rest_of, without_minimum}
use Rattle.papergrid_tracks.specs.Sizes.{sizes_of}
use Rattle.papergrid_tracks.proofs.LoopLemmas.{large_minimum}
use Rattle.papergrid_tracks.proofs.DemandLemmas.{first_out-rest_of}
use Rattle.papergrid_tracks.proofs.Theorems.{Fits-sizes_of}

first_out-ranges : (n : ℕ) (ds : List Demand) → first_out n (map without_minimum ds) ≡ first_out n ds
first_out-ranges n [] = refl
first_out-ranges n (d ∷ ds) = ap (λ rest. if nat_lt n (end_of d) then Some (position_of d) else rest) (first_out-ranges n ds)

-- the minimum sizes do not matter
same_out : (n : ℕ) (xs ys : List Demand) → map without_minimum xs ≡ map without_minimum ys → first_out n xs ≡ first_out n ys
same_out n xs ys e = sym (first_out-ranges n xs) ∙ ap (first_out n) e ∙ first_out-ranges n ys

pub if_none : {A : Type 0} (b : Bool) (x : A) (r : Option A) → (if b then Some x else r) ≡ None → (b ≡ false) × (r ≡ None)
if_none true x r e = absurd (false≢true (sym (ap is_some e)))
if_none false x r e = (refl, e)

-- where no cell overflows the table, all are in the table
pub none_out : (n : ℕ) (ds : List Demand) → first_out n ds ≡ None → All (λ d. 1 ≤ d.span) ds → All (IsInTable n) ds
none_out n [] e spans = All-nil (IsInTable n)
none_out n (d ∷ ds) e spans =
    let r = if_none (nat_lt n (end_of d)) (position_of d) (first_out n ds) e in
    let within : d.start + d.span ≤ n = ltb-false n (end_of d) r.0 in
    All-cons (IsInTable n) d ds record { covers_one = All-head (λ d. 1 ≤ d.span) d ds spans; ends_within = within }
    (none_out n ds r.1 (All-tail (λ d. 1 ≤ d.span) d ds spans))

-- one large minimum size makes every list with room for all too large
pub large_any : (line : ℕ → Bool) (n : ℕ) (sizes : List ℕ) (ds : List Demand) → list_any is_large ds ≡ true → All (IsInTable n) ds → All (HasRoom line sizes) ds →
    18446744073709551616 ≤ sum sizes + all_lines line n
large_any line n sizes [] e table room = absurd (false≢true e)
large_any line n sizes (d ∷ ds) e table room = elim (cases_Bool (is_large d)) [
  | inl t ↦ grind (arith, leb-true, large_minimum, All-head)
  | inr f ↦ large_any line n sizes ds (ap (λ b. b || list_any is_large ds) (sym f) ∙ e) (All-tail (IsInTable n) d ds table) (All-tail (HasRoom line sizes) d ds room)
]

module _ (n : ℕ) (kept : Demands) (demands : List Demand) (is : AreGathered n kept demands) where
  pub out_kept : first_out n demands ≡ first_out n kept.rest.items
  out_kept = sym (first_out-rest_of n is.limit demands is.below) ∙ same_out n (rest_of is.limit demands) kept.rest.items (sym is.held.ranges)

  pub table_demands : first_out n kept.rest.items ≡ None → All (IsInTable n) demands
  table_demands none = none_out n demands (out_kept ∙ none) is.held.spans

  pub AreSizesTooLarge-large : (line : ℕ → Bool) → first_out n kept.rest.items ≡ None → kept.is_large ≡ true → AreSizesTooLarge (problem_of_demands line n demands)
  AreSizesTooLarge-large line inside large =
      let table = table_demands inside in
      let any = sym is.held.large ∙ large in
      let problem = problem_of_demands line n demands in
      record {
        table = table;
        none_out = out_kept ∙ inside;
        too_large = λ sizes exact. subst (IsTooLarge problem) (sym exact) (large_any line n (sizes_of problem) demands any table (Fits-sizes_of (problem_of_demands line n demands) table).room);
        others_too_large = λ laminar other fits. large_any line n other demands any table fits.room;
      }
