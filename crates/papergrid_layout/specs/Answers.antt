-- What the answers say of the rows yielded.
use Rattle.std.specs.Prelude.{◌≡◌, ◌⊎◌, ℕ, ◌+◌, ◌||◌, Bool, List, length, map, find, nat_lt, Option, None, Some, Result, Ok, Err, MatchResult, Vec, ⊤}
use Rattle.papergrid_values.specs.declared.per_direction.PerDirection.{PerDirection}
use Rattle.papergrid_values.specs.declared.position.Position.{Position}
use Rattle.papergrid_values.specs.declared.direction.Direction.TheVariants.{Columns, Rows}
use Rattle.papergrid_tracks.specs.declared.error.LayoutError.{LayoutError}
use Rattle.papergrid_tracks.specs.declared.error.LayoutError.TheVariants.{OutOfTable, TooLarge, Memory}
use Rattle.papergrid_tracks.specs.Sizings.{AreSizesBy, AreTooLargeBy}
use Rattle.papergrid_tracks.specs.Problem.{Problem}
use Rattle.papergrid_walk.specs.Cells.{problem_of, visible_cells}
use Rattle.papergrid_maps.specs.Grids.{Grid}
use Rattle.papergrid_tracks.specs.declared.sizing.Sizing.{Sizing}

-- P, unless it is out of memory
abbrev pub UnlessMemoryError : LayoutError → Type 0 → Type 0
UnlessMemoryError (OutOfTable p) P = P
UnlessMemoryError TooLarge P = P
UnlessMemoryError (Memory e) P = ⊤

-- P, or an allocation failed
abbrev pub UnlessMemory : {A : Type 0} → Result A LayoutError → Type 0 → Type 0
UnlessMemory (Ok x) P = P
UnlessMemory (Err e) P = UnlessMemoryError e P

module _ {C : Type 0} (grid : Grid) (measure : C → ℕ × ℕ) (columns : ℕ) (cells : List (List C)) where
  -- the cell at a position overflows the table, along columns or along rows
  abbrev pub overflows : Position → Bool
  overflows p = nat_lt columns (p.col + grid.span Columns p) || nat_lt (length cells) (p.row + grid.span Rows p)

  -- the first visible cell that does, by row and then by column
  abbrev pub first_out_of_table : Option Position
  first_out_of_table = find overflows (map (λ cell. cell.0) (visible_cells grid cells))

  -- this holds of what is found along columns, and of what is found along rows
  pub record HoldAlong {A : Type 0} (holds : Problem → A → Type 0) (across down : A) : Type 0 where
    pub widths : holds (problem_of grid measure columns cells Columns) across
    pub heights : holds (problem_of grid measure columns cells Rows) down

  -- exactly the widths and the heights that are chosen so, and what holds of them
  abbrev pub AreBothSizes : Sizing → List ℕ → List ℕ → Type 0
  AreBothSizes sizing wide high = HoldAlong (AreSizesBy sizing) wide high

  -- out of the table by the first cell that overflows it, else too large along one direction. An allocation may fail in
  -- place of any answer
  abbrev pub IsBothRefused : Sizing → LayoutError → Type 0
  IsBothRefused sizing (OutOfTable p) = first_out_of_table ≡ Some p
  IsBothRefused sizing TooLarge = (first_out_of_table ≡ None) × (AreTooLargeBy sizing (problem_of grid measure columns cells Columns)
      ⊎ AreTooLargeBy sizing (problem_of grid measure columns cells Rows))
  IsBothRefused sizing (Memory e) = ⊤

  -- what is found along both directions, or why there is none
  abbrev pub AnswersBoth : {A : Type 0} → Sizing → (Problem → A → Type 0) → Result (PerDirection A) LayoutError → Type 0
  AnswersBoth sizing holds (Ok found) = HoldAlong holds found.columns found.rows
  AnswersBoth sizing holds (Err e) = IsBothRefused sizing e

  -- the widths and the heights, or why there are none
  abbrev pub AreBothSized : {Z : Type 0} → Sizing → Result (Vec ℕ Z × Vec ℕ Z) LayoutError → Type 0
  AreBothSized sizing result = MatchResult result (λ found. AreBothSizes sizing found.0.items found.1.items) (IsBothRefused sizing)
