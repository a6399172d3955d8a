-- What a caller that knows its rows reads of an answer: the cells told are seen through a view, as lent cells are.
use Rattle.std.proofs.Common.{◌≡◌, ◌∙◌, ℕ, ◌+◌, ◌||◌, true, List, [], ◌∷◌, ◌++◌, length, map, nat_lt, refl, ap, subst, sym, inl, inr, arith}
use Rattle.std.specs.Prelude.{None, Option, Some, find, if◌then◌else◌}
use Rattle.std.proofs.lemmas.Bool.{cases_Bool}
use Rattle.std.proofs.lemmas.List.{length-map}
use Rattle.papergrid_values.specs.declared.position.Position.{Position}
use Rattle.papergrid_values.specs.declared.direction.Direction.{Direction}
use Rattle.papergrid_values.specs.declared.direction.Direction.TheVariants.{Columns, Rows}
use Rattle.papergrid_tracks.specs.Certificates.{certificate_cells_of}
use Rattle.papergrid_tracks.specs.Problem.{Problem}
use Rattle.papergrid_tracks.proofs.LaminarLemmas.{Decides-is_laminar, is_laminar, not_laminar}
use Rattle.papergrid_tracks.specs.Ranges.{position_of}
use Rattle.papergrid_walk.specs.Cells.{demand_by, demands_by, demands_of, placed_from, placed_row, problem_of, visible_cells}
use Rattle.papergrid_maps.specs.Grids.{Grid}
use Rattle.papergrid_walk.specs.ForProofs.Visits.{demands_by-append}
use Rattle.papergrid_layout.specs.Answers.{HoldAlong, IsBothRefused, first_out_of_table, overflows}
use Rattle.papergrid_tracks.specs.Sizings.{AreTooLargeBy, IsCertificateBy}
use Rattle.papergrid_tracks.specs.declared.error.LayoutError.{LayoutError}
use Rattle.papergrid_tracks.specs.declared.error.LayoutError.TheVariants.{Memory, OutOfTable, TooLarge}
use Rattle.papergrid_tracks.specs.declared.sizing.Sizing.{Sizing}
use Rattle.papergrid_tracks.specs.declared.sizing.Sizing.TheVariants.{ByShares}

-- the positions of the cells that certify the sizes by shares, none where two longer ranges are neither nested nor disjoint
abbrev pub certificate_by_shares : Problem → Option (List Position)
certificate_by_shares problem = if is_laminar problem.demands then Some (map position_of (certificate_cells_of problem)) else None

-- the positions that a certificate gives, by the test of ranges that are nested or disjoint
pub certificate_is : (problem : Problem) (found : Option (List Position)) → IsCertificateBy ByShares problem found → found ≡ certificate_by_shares problem
certificate_is problem None none = elim (cases_Bool (is_laminar problem.demands)) [
  | inl t ↦ absurd (not_laminar problem.demands none.not_laminar ((Decides-is_laminar problem.demands).0 t))
  | inr f ↦ rw f refl
]
certificate_is problem (Some places) chosen =
    let t : is_laminar problem.demands ≡ true = (Decides-is_laminar problem.demands).1 chosen.laminar in
    rw t (ap Some chosen.exact)

module _ {C : Type 0} (grid : Grid) (measure : C → ℕ × ℕ) (columns : ℕ) (cells : List (List C)) where
  positions_among : (xs : List (Position × C)) → map (λ x. x.0) xs ≡ map position_of (map (demand_by Columns grid measure) xs)
  positions_among [] = refl
  positions_among (x ∷ xs) = ap (λ ps. x.0 ∷ ps) (positions_among xs)

  -- the first cell out of the table, by what the cells ask for alone
  first_by_demands : first_out_of_table grid measure columns cells ≡ find (overflows grid measure columns cells) (map position_of (demands_of Columns grid measure cells))
  first_by_demands = ap (find (overflows grid measure columns cells)) (positions_among (visible_cells grid cells))

module _ {A B : Type 0} (grid : Grid) (v : A → B) (f : B → ℕ × ℕ) where
  told_row : (direction : Direction) (r c : ℕ) (cells : List A) → demands_by direction grid (λ x. f (v x)) (placed_row r c cells) ≡ demands_by direction grid f (placed_row r c (map v cells))
  told_row direction r c [] = refl
  told_row direction r c (x ∷ cells) = grind (arith, told_row direction r (c + 1) cells, cases_Bool (grid.shows (record { row = r; col = c })))

  told_from : (direction : Direction) (r : ℕ) (rows : List (List A)) → demands_by direction grid (λ x. f (v x)) (placed_from r rows) ≡ demands_by direction grid f (placed_from r (map (map v) rows))
  told_from direction r [] = refl
  told_from direction r (row ∷ rows) =
      let one = told_row direction r 0 row in
      let rest = told_from direction (r + 1) rows in
      demands_by-append (λ x. f (v x)) direction grid (placed_row r 0 row) (placed_from (r + 1) rows)
      ∙ (λ k. one k ++ rest k)
      ∙ sym (demands_by-append f direction grid (placed_row r 0 (map v row)) (placed_from (r + 1) (map (map v) rows)))

  module _ (cells : List (List A)) (rows : List (List B)) (same : map (map v) cells ≡ rows) where
    pub demands_told : (direction : Direction) → demands_of direction grid (λ x. f (v x)) cells ≡ demands_of direction grid f rows
    demands_told direction = told_from direction 0 cells ∙ ap (demands_of direction grid f) same

    pub as_many : length cells ≡ length rows
    as_many = sym (length-map cells (map v)) ∙ ap length same

    pub problem_told : (direction : Direction) (columns : ℕ) → problem_of grid (λ x. f (v x)) columns cells direction ≡ problem_of grid f columns rows direction
    problem_told direction columns = grind (arith, as_many, demands_told)

    -- the same cell is the first out of the table
    pub first_told : (columns : ℕ) → first_out_of_table grid (λ x. f (v x)) columns cells ≡ first_out_of_table grid f columns rows
    first_told columns =
        let wide = demands_told Columns in
        first_by_demands grid (λ x. f (v x)) columns cells
        ∙ (λ i. find (λ p. nat_lt columns (p.col + grid.span Columns p) || nat_lt (as_many i) (p.row + grid.span Rows p)) (map position_of (wide i)))
        ∙ sym (first_by_demands grid f columns rows)

    -- so along both directions the same holds of what is found
    pub both_told : (columns : ℕ) {V : Type 0} (holds : Problem → V → Type 0) (across down : V) →
        HoldAlong grid (λ x. f (v x)) columns cells holds across down → HoldAlong grid f columns rows holds across down
    both_told columns holds across down both = record {
      widths = subst (λ problem. holds problem across) (problem_told Columns columns) both.widths;
      heights = subst (λ problem. holds problem down) (problem_told Rows columns) both.heights;
    }

    -- and nothing is found for the same reasons
    pub both_refused_told : (columns : ℕ) (sizing : Sizing) (e : LayoutError) →
        IsBothRefused grid (λ x. f (v x)) columns cells sizing e → IsBothRefused grid f columns rows sizing e
    both_refused_told columns sizing (OutOfTable p) is = sym (first_told columns) ∙ is
    both_refused_told columns sizing TooLarge is = (
      sym (first_told columns) ∙ is.0,
      elim is.1 [
        | inl wide ↦ inl (subst (AreTooLargeBy sizing) (problem_told Columns columns) wide)
        | inr high ↦ inr (subst (AreTooLargeBy sizing) (problem_told Rows columns) high)
      ],
    )
    both_refused_told columns sizing (Memory e) is = tt
