-- What is known on a walk over the positions of a table that finds their screen rectangles.
use Rattle.std.specs.Prelude.{◌≡◌, ℕ, ◌+◌, ◌^◌, ◌<◌, All, AllPairs, Bool, Contains, List, length, slice_index}
use Rattle.papergrid_values.specs.declared.position.Position.{Position}
use Rattle.papergrid_values.specs.declared.direction.Direction.{Direction}
use Rattle.papergrid_values.specs.declared.direction.Direction.TheVariants.{Columns, Rows}
use Rattle.papergrid_values.specs.Positions.{IsBefore, position_of}
use Rattle.papergrid_walk.specs.ForProofs.Shown.{Shows}
use Rattle.papergrid_layout.specs.Places.{HasPlace, IsVisibleCell, TableView, offset, total_along, track_line}
use Rattle.papergrid_layout.specs.declared.marks.Marks.{Marks}
use Rattle.papergrid_layout.specs.declared.rect.Place.{Place}
use Rattle.papergrid_layout.specs.declared.cell_rects.Placing.{Placing}

-- where each of so many tracks begins, and where it ends
pub record AreMarks (size : ℕ → ℕ) (line : ℕ → Bool) (count : ℕ) (marks : Marks) : Type 0 where
  pub each_begin : length marks.begins.items ≡ count
  pub each_end : length marks.ends.items ≡ count
  pub begins : (k : ℕ) → k < count → slice_index marks.begins.items k ≡ offset size line k
  pub ends : (k : ℕ) → k < count → slice_index marks.ends.items k ≡ offset size line k + size k

-- the visible positions before row r and column c have screen rectangles, and these are listed
pub record ArePlacedBefore (table : TableView) (r c : ℕ) (list : List (Position × Place)) : Type 0 where
  pub in_order : AllPairs (λ x y. IsBefore x.0 y.0) list
  pub placed : All (λ x. HasPlace table x.0 x.1) list
  pub before : All (λ x. IsBefore x.0 (position_of (r, c))) list
  pub complete : (p : Position) → IsVisibleCell table p → IsBefore p (position_of (r, c)) →
      (place : Place) × Contains list (p, place)

-- where all columns and all rows of the table begin and end
pub record AreMarked (table : TableView) (across down : Marks) : Type 0 where
  pub wide : AreMarks table.widths (track_line table Columns) table.shape.1 across
  pub high : AreMarks table.heights (track_line table Rows) table.shape.0 down

-- the walk has come to row r and column c
pub record HasPlaced (table : TableView) (r c : ℕ) (placing : Placing) : Type 0 where
  pub fit : (direction : Direction) → total_along table direction < 2 ^ 64
  pub marked : AreMarked table placing.marks.columns placing.marks.rows
  pub shows : Shows table.grid placing.sweep r c
  pub list : ArePlacedBefore table r c placing.places.items
