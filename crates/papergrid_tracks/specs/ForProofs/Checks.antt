-- What a checker keeps of the visible cells that it met, given sizes and a list of positions.
use Rattle.std.specs.Prelude.{◌≡◌, ℕ, ◌+◌, sum, ◌*◌, ◌^◌, ◌≤◌, Bool, true, false, List, length, sum_by, ◌≢◌, All, AllPairs}
use Rattle.papergrid_values.specs.declared.position.Position.{Position}
use Rattle.papergrid_tracks.specs.declared.checked.Checked.{Checked}
use Rattle.papergrid_tracks.specs.declared.candidate.Candidate.{Candidate}
use Rattle.papergrid_tracks.specs.declared.demand.Demand.{Demand}
use Rattle.papergrid_values.specs.declared.direction.Direction.{Direction}
use Rattle.papergrid_values.specs.Positions.{AreRising, StayWithin, along, count_of}
use Rattle.papergrid_tracks.specs.Ranges.{AreDisjoint, demand_of, end_of, inner_lines, position_of}
use Rattle.papergrid_tracks.specs.Fits.{HasRoom}

-- a range with a minimum size, wherever its cell stands
abbrev pub range_of : ℕ → ℕ → ℕ → Demand
range_of start span minimum = record { row = 0; col = 0; start = start; span = span; minimum = minimum }

-- how often the cell is listed
abbrev pub times_listed : List Position → Demand → ℕ
times_listed positions d = count_of (position_of d) positions

-- the sum of a number of each cell, taken as often as the cell is listed
abbrev pub all_listed : (Demand → ℕ) → List Position → List Demand → ℕ
all_listed number positions demands = sum_by (λ d. number d * times_listed positions d) demands

-- the ranges at two positions have no track in common
abbrev pub AreDisjointAt : Direction → (Position → ℕ) → Position → Position → Type 0
AreDisjointAt direction span_of p q = AreDisjoint (demand_of direction p (span_of p) 0) (demand_of direction q (span_of q) 0)

-- one position's number is below another's, and its range ends there or before
abbrev pub AreInOrder : Direction → (Position → ℕ) → Position → Position → Type 0
AreInOrder direction span_of p q = AreRising direction p q × (along direction p + span_of p ≤ along direction q)

-- what a candidate says of its ranges is so
pub record IsCandidate (span_of : Position → ℕ) (candidate : Candidate) : Type 0 where
  pub ordered : candidate.is_ordered ≡ true → AllPairs (AreInOrder candidate.direction span_of) candidate.positions.now
  pub within : candidate.ends_within ≡ true → StayWithin candidate.direction span_of (length candidate.sizes.now)

-- no two cells stand at one position
abbrev pub AreDistinct : List Demand → Type 0
AreDistinct demands = AllPairs (λ a b. position_of a ≢ position_of b) demands

-- no more cells were found than positions are listed, so the sums are not too large
pub record AreBounded (positions : List Position) (checked : Checked) : Type 0 where
  pub few : checked.found ≤ length positions
  pub minimums : checked.minimums ≤ 2 ^ 66 * checked.found
  pub inner : checked.inner ≤ 2 ^ 64 * checked.found

module _ (line : ℕ → Bool) (sizes : List ℕ) (positions : List Position) where
  -- all cells have room in the table, and these sums were kept of the listed ones
  pub record AllHold (checked : Checked) (demands : List Demand) : Type 0 where
    pub table : All (λ d. end_of d ≤ length sizes) demands
    pub room : All (HasRoom line sizes) demands
    pub found : checked.found ≡ all_listed (λ _. 1) positions demands
    pub minimums : checked.minimums ≡ all_listed (λ d. d.minimum) positions demands
    pub inner : checked.inner ≡ all_listed (inner_lines line) positions demands

  -- all cells have room in the table, and no more of them are listed than there are positions
  pub record CanHold (demands : List Demand) : Type 0 where
    pub table : All (λ d. end_of d ≤ length sizes) demands
    pub room : All (HasRoom line sizes) demands
    pub few : all_listed (λ _. 1) positions demands ≤ length positions

  -- what was kept of these cells, of which each has the span that its position has
  pub record Checks (direction : Direction) (span_of : Position → ℕ) (checked : Checked) (demands : List Demand) : Type 0 where
    pub ranged : All (λ d. d ≡ demand_of direction (position_of d) (span_of (position_of d)) d.minimum) demands
    pub spans : All (λ d. 1 ≤ d.span) demands
    pub holds : checked.holds ≡ true → AllHold checked demands
    pub fails : checked.holds ≡ false → CanHold demands → ⊥
    pub bounded : AreBounded positions checked

-- what was kept of these cells by a check of a candidate
abbrev pub ChecksFor : (ℕ → Bool) → (Position → ℕ) → Candidate → Checked → List Demand → Type 0
ChecksFor line span_of candidate checked demands =
    Checks line candidate.sizes.now candidate.positions.now candidate.direction span_of checked demands

-- all cells have room, each position is a cell's, and the listed minimum sizes less their inner lines add up to the total
pub record SumsAgree (checked : Checked) (sizes : List ℕ) (positions : List Position) : Type 0 where
  pub holds : checked.holds ≡ true
  pub found : checked.found ≡ length positions
  pub adds_up : checked.minimums ≡ sum sizes + checked.inner
