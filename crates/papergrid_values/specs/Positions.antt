-- Sums and differences of positions, their order, and their numbers along a direction.
use Rattle.std.specs.Prelude.{◌≡◌, ◌+◌, ◌-◌, ◌<◌, ◌≤◌, ◌^◌, ◌⊎◌, ◌==◌, ◌&&◌, ℕ, List, count_by}
use Rattle.papergrid_values.specs.declared.direction.Direction.{Direction}
use Rattle.papergrid_values.specs.declared.direction.Direction.TheVariants.{Columns, Rows}
use Rattle.papergrid_values.specs.declared.position.Position.{Position}

-- the position of a pair of row and column
abbrev pub position_of : ℕ × ℕ → Position
position_of pair = record { row = pair.0; col = pair.1 }

-- rows and columns added, each by itself
abbrev pub sum_of : Position → Position → Position
sum_of p q = record { row = p.row + q.row; col = p.col + q.col }

-- rows and columns subtracted, each by itself
abbrev pub difference_of : Position → Position → Position
difference_of p q = record { row = p.row - q.row; col = p.col - q.col }

-- both parts of the sum are numbers of a `usize`
abbrev pub CanAdd : Position → Position → Type 0
CanAdd p q = (p.row + q.row < 2 ^ 64) × (p.col + q.col < 2 ^ 64)

-- neither part of the difference is below 0
abbrev pub CanSubtract : Position → Position → Type 0
CanSubtract p q = (q.row ≤ p.row) × (q.col ≤ p.col)

-- p stands in an earlier row than q, or in the same row in an earlier column
abbrev pub IsBefore : Position → Position → Type 0
IsBefore p q = (p.row < q.row) ⊎ ((p.row ≡ q.row) × (p.col < q.col))

-- the track index of a position: that of its column, or of its row
abbrev pub along : Direction → Position → ℕ
along Columns p = p.col
along Rows p = p.row

-- the number of p is below that of q
abbrev pub AreRising : Direction → Position → Position → Type 0
AreRising direction p q = along direction p < along direction q

-- by these spans, each range that begins below the number has a number itself, and ends there or before
abbrev pub StayWithin : Direction → (Position → ℕ) → ℕ → Type 0
StayWithin direction span_of count =
    (p : Position) → along direction p < count → (1 ≤ span_of p) × (along direction p + span_of p ≤ count)

-- how many times a list holds a position
abbrev pub count_of : Position → List Position → ℕ
count_of p = count_by (λ q. p.row == q.row && p.col == q.col)
