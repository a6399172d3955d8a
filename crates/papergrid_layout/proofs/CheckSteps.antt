-- The steps of a checker's walk, and what it concludes.
use Rattle.std.proofs.Common.{◌≡◌, ◌==◌, ◌&&◌, ℕ, ◌+◌, ◌<◌, ◌≤◌, Bool, true, false, ◌⊎◌, inl, inr, List, [], ◌∷◌, length, count_by, get_or, sym, ◌∙◌, arith, subst}
use Rattle.std.specs.Prelude.{All, Contains, IsTrue, ◌↔◌}
use Rattle.std.proofs.lemmas.Bool.{and_parts, cases_Bool, eqb-true, false≢true, true≢false}
use Rattle.std.proofs.lemmas.List.Elements.{All-contains, All-map, All-weaker, filter_passes}
use Rattle.papergrid_values.specs.declared.position.Position.{Position}
use Rattle.papergrid_tracks.specs.declared.checked.Checked.{Checked}
use Rattle.papergrid_tracks.specs.declared.candidate.Candidate.{Candidate}
use Rattle.papergrid_values.specs.declared.direction.Direction.{Direction}
use Rattle.papergrid_tracks.specs.Answers.{IsAccepted}
use Rattle.papergrid_tracks.specs.Fits.{IsLeast}
use Rattle.papergrid_tracks.specs.Problem.{Problem}
use Rattle.papergrid_tracks.specs.Ranges.{demand_of, position_of}
use Rattle.papergrid_tracks.proofs.AcceptLemmas.{few_positions}
use Rattle.papergrid_tracks.proofs.CandidateLemmas.{count_by-none, is_same}
use Rattle.papergrid_walk.specs.Cells.{demand_by, demands_by, demands_of, positioned_cells, problem_of, side, visible_of}
use Rattle.papergrid_maps.specs.Grids.{Grid}
use Rattle.papergrid_layout.specs.Certificates.{IsChecked}
use Rattle.papergrid_layout.specs.ForProofs.Checking.{AreShown, ChecksMore, check_none}

module _ (grid : Grid) (candidate : Candidate) where
  module _ {C : Type 0} (measure : C → ℕ × ℕ) where
    -- a hidden cell is passed over
    pub check_hidden : (checked : Checked) (position : Position) (cell : C) → grid.shows position ≡ false →
        ChecksMore grid candidate checked checked (demands_by candidate.direction grid measure ((position, cell) ∷ []))
    check_hidden checked position cell f = rw f (check_none grid candidate checked)

    -- a visible one is not
    pub check_shown : (old new : Checked) (position : Position) (cell : C) (size minimum : ℕ) → grid.shows position ≡ true →
        size ≡ side candidate.direction (measure cell) → minimum ≡ size + grid.before candidate.direction position + grid.after candidate.direction position →
        ChecksMore grid candidate old new (demand_of candidate.direction position (grid.span candidate.direction position) minimum ∷ []) →
        ChecksMore grid candidate old new (demands_by candidate.direction grid measure ((position, cell) ∷ []))
    check_shown old new position cell size minimum t measured same more = grind arith

    -- one that changes nothing may be either
    pub check_same : (old new : Checked) (position : Position) (cell : C) (size minimum : ℕ) → new ≡ old →
        size ≡ side candidate.direction (measure cell) → minimum ≡ size + grid.before candidate.direction position + grid.after candidate.direction position →
        ChecksMore grid candidate old new (demand_of candidate.direction position (grid.span candidate.direction position) minimum ∷ []) →
        ChecksMore grid candidate old old (demands_by candidate.direction grid measure ((position, cell) ∷ []))
    check_same old new position cell size minimum unchanged measured same more = elim (cases_Bool (grid.shows position)) [
      | inl t ↦ check_shown old old position cell size minimum t measured same (subst (λ kept. ChecksMore grid candidate old kept (demand_of candidate.direction position (grid.span candidate.direction position) minimum ∷ [])) unchanged more)
      | inr f ↦ check_hidden old position cell f
    ]

-- what is found of a table with as many tracks as sizes holds of the table itself, since the sizes are as many
pub checked-of : (problem : ℕ → Problem) (sizes : List ℕ) (positions : List Position) (answer : Bool) (count : ℕ) → ((n : ℕ) → (problem n).count ≡ count) →
    IsTrue answer ↔ IsAccepted (problem (length sizes)) sizes positions → (IsTrue answer → IsLeast (problem (length sizes)) sizes) → IsChecked (problem count) sizes positions answer
checked-of problem sizes positions answer count counts exact least = grind arith

-- the positions of a certificate are those of visible cells
shown_places : {C : Type 0} (grid : Grid) (measure : C → ℕ × ℕ) (columns : ℕ) (cells : List (List C)) (direction : Direction) (sizes : List ℕ) (positions : List Position) →
    IsAccepted (problem_of grid measure columns cells direction) sizes positions → AreShown grid positions
shown_places grid measure columns cells direction sizes positions accepted =
    let demands = demands_of direction grid measure cells in
    let visible : All (λ d. IsTrue (grid.shows (position_of d))) demands =
    All-map (λ d. IsTrue (grid.shows (position_of d))) (demand_by direction grid measure) (visible_of grid (positioned_cells cells)) (filter_passes (λ cell. grid.shows cell.0) (positioned_cells cells)) in
    subst (AreShown grid) accepted.at_positions
    (All-map (λ p. IsTrue (grid.shows p)) position_of accepted.cells
    (All-weaker (Contains demands) (λ d. IsTrue (grid.shows (position_of d))) (λ d m. All-contains (λ d. IsTrue (grid.shows (position_of d))) demands d visible m) accepted.cells accepted.certificate.visible))

-- a list that is longer than the sizes, or has a hidden cell, is never that of a certificate
pub refused-of : {C : Type 0} (grid : Grid) (measure : C → ℕ × ℕ) (columns : ℕ) (cells : List (List C)) (direction : Direction) (sizes : List ℕ) (positions : List Position) →
    All (λ d. 1 ≤ d.span) (demands_of direction grid measure cells) → (length sizes < length positions) ⊎ (AreShown grid positions → ⊥) →
    IsChecked (problem_of grid measure columns cells direction) sizes positions false
refused-of grid measure columns cells direction sizes positions spans reason =
    let problem = problem_of grid measure columns cells direction in
    record {
      exact = (
        λ t. absurd (false≢true t),
        λ accepted. elim reason [
          | inl long ↦
              let few : length positions ≤ problem.count = few_positions problem.line problem.count problem.demands sizes positions spans accepted in
              let many : length sizes ≡ problem.count = accepted.fits.one_each in
              absurd (omega (arith, few, many, long))
          | inr hidden ↦ absurd (hidden (shown_places grid measure columns cells direction sizes positions accepted))
        ],
      );
      least = λ t. absurd (false≢true t);
    }

-- a position that is listed is one of the positions
pub listed_shown : (grid : Grid) (positions : List Position) (position : Position) → AreShown grid positions → 0 < count_by (λ p. position.row == p.row && position.col == p.col) positions → grid.shows position ≡ true
listed_shown grid positions position shown listed = elim (cases_Bool (grid.shows position)) [
  | inl t ↦ t
  | inr f ↦
      let other : (k : ℕ) (p : Position) → k < length positions → is_same position (get_or positions k p) ≡ false = λ k p l. elim (cases_Bool (is_same position (get_or positions k p))) [
        | inl same ↦ absurd (true≢false (sym (subst (λ q. grid.shows q ≡ true) (sym (same_place position (get_or positions k p) same)) (shown k p l)) ∙ f))
        | inr apart ↦ apart
      ] in
      let none : count_by (is_same position) positions ≡ 0 = count_by-none (is_same position) positions other in
      absurd (omega (arith, none, listed))
]
  where
    same_place : (p q : Position) → is_same p q ≡ true → p ≡ q
    same_place p q same =
        let parts = and_parts (p.row == q.row) (p.col == q.col) same in
        λ i. record { row = eqb-true p.row q.row parts.0 i; col = eqb-true p.col q.col parts.1 i }
