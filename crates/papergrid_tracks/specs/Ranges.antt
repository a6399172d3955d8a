-- Ranges along a direction, which has n tracks, numbered from 0. A visible cell's range has the numbers from `start`
-- on, `span` of them. `line i` tells whether a line is drawn at i, before track i, and at n after the last. The
-- demands of the visible cells stand by (row, column).
use Rattle.std.specs.Prelude.{ℕ, ◌+◌, ◌-◌, ◌≤◌, Bool, ◌&&◌, nat_lt, nat_le, if◌then◌else◌, ◌⊎◌, List, [], ◌∷◌, count_by, Contains, Option, Some, None}
use Rattle.std.specs.List.{range_with_len}
use Rattle.papergrid_values.specs.declared.position.Position.{Position}
use Rattle.papergrid_tracks.specs.declared.demand.Demand.{Demand}
use Rattle.papergrid_values.specs.declared.direction.Direction.{Direction}
use Rattle.papergrid_values.specs.Positions.{along}

-- what the cell at a position asks for along a direction, by its span and its minimum size
abbrev pub demand_of : Direction → Position → ℕ → ℕ → Demand
demand_of direction position span minimum =
    record { row = position.row; col = position.col; start = along direction position; span = span; minimum = minimum }

-- where the range ends: the first number past it
abbrev pub end_of : Demand → ℕ
end_of d = d.start + d.span

-- whether the range holds i
abbrev pub holds : Demand → ℕ → Bool
holds d i = nat_le d.start i && nat_lt i (end_of d)

-- the range has a number, and none at or past n
pub record IsInTable (n : ℕ) (d : Demand) : Type 0 where
  pub covers_one : 1 ≤ d.span
  pub ends_within : end_of d ≤ n

-- where the cell stands
abbrev pub position_of : Demand → Position
position_of d = record { row = d.row; col = d.col }

-- the first cell that overflows the table: its range ends past n
abbrev pub first_out : ℕ → List Demand → Option Position
first_out n [] = None
first_out n (d ∷ ds) = if nat_lt n (end_of d) then Some (position_of d) else first_out n ds

-- ranges with no track in common
abbrev pub AreDisjoint : Demand → Demand → Type 0
AreDisjoint a b = (end_of a ≤ b.start) ⊎ (end_of b ≤ a.start)

-- the range of a is part of the range of b
abbrev pub LiesIn : Demand → Demand → Type 0
LiesIn a b = (b.start ≤ a.start) × (end_of a ≤ end_of b)

-- one range is part of the other, as equal ranges are of each other
abbrev pub AreNested : Demand → Demand → Type 0
AreNested a b = LiesIn a b ⊎ LiesIn b a

-- any two ranges of two or more numbers are nested or disjoint
abbrev pub IsLaminar : List Demand → Type 0
IsLaminar demands =
    (a b : Demand) → Contains demands a → Contains demands b → 2 ≤ a.span → 2 ≤ b.span → AreNested a b ⊎ AreDisjoint a b

-- two ranges of two or more numbers are neither nested nor disjoint
pub record SomeCross (demands : List Demand) : Type 0 where
  pub one : Demand
  pub other : Demand
  pub are_visible : Contains demands one × Contains demands other
  pub are_long : (2 ≤ one.span) × (2 ≤ other.span)
  pub not_nested : AreNested one other → ⊥
  pub not_disjoint : AreDisjoint one other → ⊥

-- the lines strictly inside of the range
abbrev pub inner_lines : (ℕ → Bool) → Demand → ℕ
inner_lines line d = count_by line (range_with_len (d.start + 1) (d.span - 1))
