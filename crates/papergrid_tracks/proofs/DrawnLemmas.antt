-- Sizes by lines that were read up to the count.
use Rattle.std.proofs.Common.{◌≡◌, ℕ, ◌+◌, ◌-◌, ◌≤◌, Bool, List, [], ◌∷◌, fold, refl, ap, ◌∙◌, arith}
use Rattle.std.specs.Prelude.{All}
use Rattle.std.specs.List.{AllByRecursion}
use Rattle.std.proofs.lemmas.List.Elements.{recursion_from_All}
use Rattle.papergrid_tracks.specs.declared.demand.Demand.{Demand}
use Rattle.papergrid_tracks.specs.Certificates.{growing_cells_of, growing_demands}
use Rattle.papergrid_tracks.specs.Fits.{range_sum}
use Rattle.papergrid_tracks.specs.Problem.{problem_of_demands}
use Rattle.papergrid_values.specs.Lines.{all_lines}
use Rattle.papergrid_tracks.specs.Ranges.{IsInTable, inner_lines}
use Rattle.papergrid_tracks.specs.Sizes.{base_sizes, grown_sizes, deficit, sizes_of, by_span, distributed}
use Rattle.papergrid_tracks.proofs.CheckLemmas.{count_by-agree}
use Rattle.papergrid_tracks.proofs.Theorems.{table-by_span}

module _ (drawn line : ℕ → Bool) (n : ℕ) (agree : (i : ℕ) → i ≤ n → drawn i ≡ line i) where
  pub lines-drawn : all_lines drawn n ≡ all_lines line n
  lines-drawn = count_by-agree drawn line 0 (n + 1) (λ i l l'. agree i (omega arith))

  pub inner-drawn : (d : Demand) → IsInTable n d → inner_lines drawn d ≡ inner_lines line d
  inner-drawn d inside = grind (arith, count_by-agree)

  deficit-drawn : (sizes : List ℕ) (d : Demand) → IsInTable n d → deficit drawn sizes d ≡ deficit line sizes d
  deficit-drawn sizes d inside = ap (λ inner. d.minimum - (range_sum sizes d + inner)) (inner-drawn d inside)

  grown-drawn : (sizes : List ℕ) (d : Demand) → IsInTable n d → grown_sizes drawn sizes d ≡ grown_sizes line sizes d
  grown-drawn sizes d inside = ap (λ amount. distributed amount d sizes) (deficit-drawn sizes d inside)

  pub by_span-drawn : (sizes : List ℕ) (cells : List Demand) → AllByRecursion (IsInTable n) cells → fold (grown_sizes drawn) sizes cells ≡ fold (grown_sizes line) sizes cells
  by_span-drawn sizes [] table = refl
  by_span-drawn sizes (d ∷ cells) table =
      by_span-drawn (grown_sizes drawn sizes d) cells table.1 ∙ ap (λ sizes. fold (grown_sizes line) sizes cells) (grown-drawn sizes d table.0)

  growing-drawn : (sizes : List ℕ) (cells : List Demand) → AllByRecursion (IsInTable n) cells → growing_demands drawn sizes cells ≡ growing_demands line sizes cells
  growing-drawn sizes [] table = refl
  growing-drawn sizes (d ∷ cells) table = grind (arith, deficit-drawn, grown-drawn, growing-drawn (grown_sizes drawn sizes d) cells table.1)

  module _ (demands : List Demand) (table : All (IsInTable n) demands) where
    table-cells : AllByRecursion (IsInTable n) (by_span n demands)
    table-cells = recursion_from_All (IsInTable n) (by_span n demands) (table-by_span (problem_of_demands line n demands) table)

    pub sizes-drawn : fold (grown_sizes drawn) (base_sizes n demands) (by_span n demands) ≡ sizes_of (problem_of_demands line n demands)
    sizes-drawn = by_span-drawn (base_sizes n demands) (by_span n demands) table-cells

    pub growing_cells-drawn : growing_demands drawn (base_sizes n demands) (by_span n demands) ≡ growing_cells_of (problem_of_demands line n demands)
    growing_cells-drawn = growing-drawn (base_sizes n demands) (by_span n demands) table-cells
