-- What kept cells come to, once the lines are drawn, the base is written and the longer cells are sorted.
use Rattle.std.proofs.Common.{◌≡◌, ◌∙◌, ◌+◌, ◌<◌, ℕ, Bool, List, ap, ap₂, length, fold, subst, sum, sym}
use Rattle.std.specs.Prelude.{All}
use Rattle.papergrid_tracks.proofs.BySizing.{AreSizesTooLarge}
use Rattle.papergrid_tracks.specs.declared.demand.Demand.{Demand}
use Rattle.papergrid_tracks.specs.declared.demands.Demands.{Demands}
use Rattle.papergrid_tracks.specs.Certificates.{growing_demands}
use Rattle.papergrid_tracks.specs.ForProofs.Demands.{AreGathered}
use Rattle.papergrid_tracks.specs.ForProofs.Settled.{AreGrown, IsBegun, line_at}
use Rattle.papergrid_tracks.specs.Problem.{Problem, problem_of_demands, total_of}
use Rattle.papergrid_values.specs.Lines.{all_lines}
use Rattle.papergrid_tracks.specs.Ranges.{IsInTable}
use Rattle.papergrid_tracks.specs.Sizes.{base_sizes, grown_sizes, sizes_of, by_span}
use Rattle.papergrid_tracks.proofs.DrawnLemmas.{growing_cells-drawn, lines-drawn, sizes-drawn}
use Rattle.papergrid_tracks.proofs.OutLemmas.{table_demands}
use Rattle.papergrid_tracks.proofs.DemandLemmas.{base-kept, by_span-kept, table-kept}
use Rattle.papergrid_tracks.proofs.Theorems.{Fits-sizes_of, AreSizesTooLarge-sizes_of, table-by_span}

-- the same of the lines as they are seen
pub begun-by : {line : ℕ → Bool} {n : ℕ} {kept : Demands} {lines seen : List Bool} {base : List ℕ} → seen ≡ lines → IsBegun line n kept lines base → IsBegun line n kept seen base
begun-by {line} {n} {kept} {base = base} same begun = subst (λ lines. IsBegun line n kept lines base) (sym same) begun

module _ {line : ℕ → Bool} {n : ℕ} {kept : Demands} {demands : List Demand} (is_kept : AreGathered n kept demands) {lines : List Bool} {base : List ℕ} (begun : IsBegun line n kept lines base) where
  -- all cells lie in the table
  pub table-all : All (IsInTable n) demands
  table-all = table_demands n kept demands is_kept begun.inside

  -- the base is the minimum sizes of the tracks alone
  pub base-all : base ≡ base_sizes n demands
  base-all = base-kept n kept demands is_kept begun.small base begun.many begun.base_at

-- the cells of longer ranges that are kept lie in the table, in whatever order
pub table-begun : {line : ℕ → Bool} {n : ℕ} {kept : Demands} {demands : List Demand} → AreGathered n kept demands → {lines : List Bool} {base : List ℕ} → IsBegun line n kept lines base →
    All (IsInTable n) kept.rest.items
table-begun {n = n} {kept} {demands} is_kept begun = table-kept n kept demands is_kept begun.small (table-all is_kept begun)

pub table-sorted : {line : ℕ → Bool} {n : ℕ} {kept : Demands} {demands : List Demand} → AreGathered n kept demands → {lines : List Bool} {base : List ℕ} → IsBegun line n kept lines base →
    (cells : List Demand) → cells ≡ by_span n kept.rest.items → All (IsInTable (length base)) cells
table-sorted {line} {n} {kept} is_kept begun cells sorted =
    rw (begun.many, sorted) (table-by_span (problem_of_demands line n kept.rest.items) (table-begun is_kept begun))

module _ {line : ℕ → Bool} {n : ℕ} {kept : Demands} {demands : List Demand} (is_kept : AreGathered n kept demands) {lines : List Bool} {base : List ℕ} (begun : IsBegun line n kept lines base)
    (cells : List Demand) (sorted : cells ≡ by_span n kept.rest.items) where
  abbrev drawn : ℕ → Bool
  drawn = line_at lines

  cells_are : cells ≡ by_span n demands
  cells_are = sorted ∙ by_span-kept n kept demands is_kept begun.small

  abbrev problem : Problem
  problem = problem_of_demands line n demands

  module _ (sizes : List ℕ) (after : sizes ≡ fold (grown_sizes drawn) base cells) where
    pub shares-grown : sizes ≡ sizes_of problem
    shares-grown =
        after ∙ ap₂ (λ (xs : List ℕ) (ds : List Demand). fold (grown_sizes drawn) xs ds) (base-all is_kept begun) cells_are ∙ sizes-drawn drawn line n begun.drawn demands (table-all is_kept begun)

    -- the total with all lines, as it was found
    pub total-grown : sum sizes + all_lines drawn (length sizes) ≡ total_of problem sizes
    total-grown =
        let one_each : length sizes ≡ n = ap length shares-grown ∙ (Fits-sizes_of problem (table-all is_kept begun)).one_each in
        ap (λ k. sum sizes + k) (ap (all_lines drawn) one_each ∙ lines-drawn drawn line n begun.drawn)

    total-shares : total_of problem (sizes_of problem) ≡ sum sizes + all_lines drawn (length sizes)
    total-shares = sym (total-grown ∙ ap (total_of problem) shares-grown)

    pub AreSizesTooLarge-grown : (sum sizes + all_lines drawn (length sizes) < 18446744073709551616 → ⊥) → AreSizesTooLarge problem
    AreSizesTooLarge-grown past = AreSizesTooLarge-sizes_of problem (table-all is_kept begun) (λ small. past (subst (λ k. k < 18446744073709551616) total-shares small))

    pub AreGrown-grown : (growing_cells : List Demand) → growing_cells ≡ growing_demands drawn base cells →
        sum sizes + all_lines drawn (length sizes) < 18446744073709551616 → AreGrown problem sizes cells growing_cells
    AreGrown-grown growing_cells grew small = record {
      table = table-all is_kept begun;
      shares = shares-grown;
      in_order = cells_are;
      grew = grew ∙ ap₂ (λ (xs : List ℕ) (ds : List Demand). growing_demands drawn xs ds) (base-all is_kept begun) cells_are ∙ growing_cells-drawn drawn line n begun.drawn demands (table-all is_kept begun);
      total = subst (λ k. k < 18446744073709551616) (sym total-shares) small;
    }
