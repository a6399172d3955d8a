-- Which tables are drawn, and why another one is not.
use Rattle.std.specs.Prelude.{◌≢◌, ◌^◌, ◌+◌, ◌≤◌, ◌⊎◌, ⊤, ℕ}
use Rattle.papergrid_values.specs.declared.direction.Direction.TheVariants.{Rows}
use Rattle.papergrid_values.specs.declared.position.Position.{Position}
use Rattle.papergrid_layout.specs.Places.{IsVisibleCell, total_along}
use Rattle.papergrid_draw.specs.Contents.{FitsPlace, block_at}
use Rattle.papergrid_draw.specs.Drawings.{Drawing, layout_of}
use Rattle.papergrid_draw.specs.Margins.{whole_width}
use Rattle.papergrid_draw.specs.Tiles.{IsFirstPosition, IsTileFault, IsTiled}
use Rattle.papergrid_draw.specs.declared.error.DrawError.{DrawError}
use Rattle.papergrid_draw.specs.declared.error.DrawError.TheVariants.{Memory, NoRoom, NotTiled, OutOfTable, TooLarge, Write}

module _ (d : Drawing) where
  -- how many lines there are, with both margins
  abbrev pub whole_height : ℕ
  whole_height = total_along (layout_of d) Rows + (d.config.margin.top.size + d.config.margin.bottom.size)

  -- a visible cell whose text has no room in its place
  pub record HasNoRoom (p : Position) : Type 0 where
    pub is_cell : IsVisibleCell (layout_of d) p
    pub lacks : FitsPlace (block_at d p) → ⊥

  -- each visible cell has room
  abbrev pub AllHaveRoom : Type 0
  AllHaveRoom = (p : Position) → HasNoRoom p → ⊥

  -- it has rows and columns, and more columns of a terminal, or lines, than 64 bits hold, with its margins
  abbrev pub IsWholeTooLarge : Type 0
  IsWholeTooLarge = (d.shape.0 ≢ 0) × (d.shape.1 ≢ 0) × ((2 ^ 64 ≤ whole_width d) ⊎ (2 ^ 64 ≤ whole_height))

  -- it can be drawn: its visible cells tile it, each has room, and it is not too large
  pub record IsDrawable : Type 0 where
    pub tiled : IsTiled (layout_of d)
    pub room : AllHaveRoom
    pub small : IsWholeTooLarge → ⊥

  -- why it is not drawn. The spans do not tile it, else a cell has no room, the first one, else it is too large. An
  -- allocation or the writer may fail
  abbrev pub IsDrawFault : DrawError → Type 0
  IsDrawFault (OutOfTable p) = IsTileFault (layout_of d) (OutOfTable p)
  IsDrawFault (NotTiled p) = IsTileFault (layout_of d) (NotTiled p)
  IsDrawFault (NoRoom p) = IsTiled (layout_of d) × IsFirstPosition HasNoRoom p
  IsDrawFault TooLarge = IsTiled (layout_of d) × AllHaveRoom × IsWholeTooLarge
  IsDrawFault (Memory e) = ⊤
  IsDrawFault Write = ⊤
