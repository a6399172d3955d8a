-- Which visible cell each position of a table belongs to.
use Rattle.std.specs.Prelude.{◌≡◌, ◌+◌, ◌<◌, ◌&&◌, ⊤, Bool, true, Option}
use Rattle.std.specs.List.{find}
use Rattle.papergrid_values.specs.Entities.{positions_in}
use Rattle.papergrid_values.specs.Positions.{IsBefore}
use Rattle.papergrid_values.specs.declared.entity.Entity.TheVariants.{Global}
use Rattle.papergrid_values.specs.declared.direction.Direction.{Direction}
use Rattle.papergrid_values.specs.declared.position.Position.{Position}
use Rattle.papergrid_maps.specs.Spans.{IsInRectangle, is_in_rectangle}
use Rattle.papergrid_layout.specs.Places.{IsVisibleCell, Overflows, TableView}
use Rattle.papergrid_draw.specs.declared.error.DrawError.{DrawError}
use Rattle.papergrid_draw.specs.declared.error.DrawError.TheVariants.{Memory, NotTiled, OutOfTable}

-- the first position, by row and then by column, of which something holds
pub record IsFirstPosition (holds : Position → Type 0) (p : Position) : Type 0 where
  pub it : holds p
  pub earlier : (q : Position) → IsBefore q p → holds q → ⊥

module _ (table : TableView) where
  -- the cell at p is visible, and its rectangle covers the position q
  pub record Owns (p q : Position) : Type 0 where
    pub visible : table.grid.shows p ≡ true
    pub covers : IsInRectangle table.grid.span p q

  -- whether it does
  abbrev pub owns : Position → Position → Bool
  owns p q = table.grid.shows p && is_in_rectangle table.grid.span p q

  -- the owner of a position: the first visible cell, by row and then by column, that covers it
  unfoldable pub owner : Position → Option Position
  owner q = find (λ p. owns p q) (positions_in Global (q.row + 1) (q.col + 1))

  -- a position of the table
  abbrev pub IsTablePosition : Position → Type 0
  IsTablePosition q = (q.row < table.shape.0) × (q.col < table.shape.1)

  -- a visible cell of the table ends past its last column or its last row
  abbrev pub EndsOutside : Position → Type 0
  EndsOutside p = IsVisibleCell table p × (direction : Direction) × Overflows table p direction

  -- no visible cell does
  abbrev pub AreWithin : Type 0
  AreWithin = (p : Position) → EndsOutside p → ⊥

  -- just one visible cell covers the position
  abbrev pub IsOwnedOnce : Position → Type 0
  IsOwnedOnce q = (p : Position) × Owns p q × ((other : Position) → Owns other q → other ≡ p)

  -- the visible cells tile the table: each ends in it, and just one covers each position
  pub record IsTiled : Type 0 where
    pub within : AreWithin
    pub once : (q : Position) → IsTablePosition q → IsOwnedOnce q

  -- a position of the table that no visible cell covers, or that two do
  abbrev pub IsUntiled : Position → Type 0
  IsUntiled q = IsTablePosition q × (IsOwnedOnce q → ⊥)

  -- why they do not: the first cell that ends outside, or else the first position without just one owner. Memory may be
  -- refused in place of any answer
  abbrev pub IsTileFault : DrawError → Type 0
  IsTileFault (OutOfTable p) = IsFirstPosition EndsOutside p
  IsTileFault (NotTiled p) = AreWithin × IsFirstPosition IsUntiled p
  IsTileFault (Memory e) = ⊤
  IsTileFault e = ⊥
