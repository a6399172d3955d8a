-- Which cells of a table have room, by row and then by column.
use Rattle.std.proofs.Common.{◌≡◌, ℕ, ◌+◌, ◌<◌, Bool, true, false, if◌then◌else◌, is_some, inl, inr, Option, Some, None, subst, arith}
use Rattle.std.proofs.lemmas.Bool.{cases_lt}
use Rattle.papergrid_values.specs.Positions.{position_of}
use Rattle.papergrid_values.specs.declared.direction.Direction.TheVariants.{Columns, Rows}
use Rattle.papergrid_values.specs.declared.position.Position.{Position}
use Rattle.papergrid_layout.specs.Places.{IsInsideTable, IsVisibleCell, TableView}
use Rattle.papergrid_layout.proofs.PlacingLemmas.{before-next, before-turn}
use Rattle.papergrid_draw.specs.Contents.{Block, block_at}
use Rattle.papergrid_draw.specs.Drawings.{Drawing, layout_of}
use Rattle.papergrid_draw.specs.Faults.{AllHaveRoom, HasNoRoom}
use Rattle.papergrid_draw.specs.Tiles.{IsFirstPosition, IsTiled}
use Rattle.papergrid_draw.specs.ForProofs.Sheets.{HaveRoomBefore}

-- a cell of a tiled table ends in it
pub inside-of : (table : TableView) (p : Position) → IsTiled table → IsVisibleCell table p → IsInsideTable table p
inside-of table p tiled cell = record {
  visible = cell.visible;
  across = elim (cases_lt table.shape.1 (p.col + table.grid.span Columns p)) [
    | inl out ↦ absurd (tiled.within p (cell, Columns, out))
    | inr le ↦ le
  ];
  down = elim (cases_lt table.shape.0 (p.row + table.grid.span Rows p)) [
    | inl out ↦ absurd (tiled.within p (cell, Rows, out))
    | inr le ↦ le
  ];
}

-- something is found just where it is shown
pub shown-of : {A : Type 0} (shows : Bool) (x : A) (found : Option A) (is : Bool) → found ≡ (if shows then Some x else None) → is_some found ≡ is → shows ≡ is
shown-of true x found is e some = subst (λ o. is_some o ≡ is) e some
shown-of false x found is e some = subst (λ o. is_some o ≡ is) e some

module _ (d : Drawing) where
  -- a cell of a tiled table that is found is visible, and its block is as is told of one that ends in the table
  pub found-block : {A : Type 0} (p : Position) (x : A) (found : Option A) (block : Option Block) → IsTiled (layout_of d) →
      found ≡ (if (layout_of d).grid.shows p then Some x else None) → is_some found ≡ true → p.row < d.shape.0 → p.col < d.shape.1 →
      (IsInsideTable (layout_of d) p → block ≡ Some (block_at d p)) → IsVisibleCell (layout_of d) p × (block ≡ Some (block_at d p))
  found-block p x found block tiled is some row_in col_in told =
      let cell : IsVisibleCell (layout_of d) p = record { visible = shown-of ((layout_of d).grid.shows p) x found true is some; row_in = row_in; col_in = col_in } in
      (cell, told (inside-of (layout_of d) p tiled cell))

  pub room-more : (r c : ℕ) → HaveRoomBefore d r c → (HasNoRoom d (position_of (r, c)) → ⊥) → HaveRoomBefore d r (c + 1)
  room-more r c so_far here = λ q before none. elim (before-next q r c before) [
    | inl earlier ↦ so_far q earlier none
    | inr same ↦ here (subst (HasNoRoom d) same none)
  ]

  -- after a row comes the next one
  pub room-turn : (r c : ℕ) → c ≡ d.shape.1 → HaveRoomBefore d r c → HaveRoomBefore d (r + 1) 0
  room-turn r c end so_far = λ q before none. so_far q (before-turn q r c (omega (arith, end, none.is_cell.col_in)) before) none

  pub room-all : (r : ℕ) → r ≡ d.shape.0 → HaveRoomBefore d r 0 → AllHaveRoom d
  room-all r end so_far = λ p none. so_far p (inl (omega (arith, end, none.is_cell.row_in))) none

  pub first-without : (p : Position) → HasNoRoom d p → HaveRoomBefore d p.row p.col → IsFirstPosition (HasNoRoom d) p
  first-without p none so_far = record { it = none; earlier = λ q before. so_far q before }
