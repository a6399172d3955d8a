-- The paddings of a cell on its four sides, and what decides them.
use Rattle.std.specs.Prelude.{◌≡◌, ℕ, IfSome, Option, None, Some, unwrap_or}
use Rattle.papergrid_values.specs.declared.direction.Direction.TheVariants.{Columns, Rows}
use Rattle.papergrid_values.specs.declared.entity.Entity.{Entity}
use Rattle.papergrid_values.specs.declared.entity.Entity.TheVariants.{Cell, Column, Global, Row}
use Rattle.papergrid_values.specs.declared.indent.Indent.{Indent}
use Rattle.papergrid_values.specs.declared.position.Position.{Position}
use Rattle.papergrid_values.specs.declared.sides.Sides.{Sides}
use Rattle.papergrid_maps.specs.Grids.{Grid}
use Rattle.papergrid_maps.specs.declared.view.Paddings.{Paddings}

-- the paddings on all sides of a cell
abbrev pub paddings_at : Grid → Position → Paddings
paddings_at grid p =
    record { left = grid.before Columns p; right = grid.after Columns p; top = grid.before Rows p; bottom = grid.after Rows p }

-- the sizes of the four sides
abbrev pub sizes : Sides Indent → Paddings
sizes padding =
    record { left = padding.left.size; right = padding.right.size; top = padding.top.size; bottom = padding.bottom.size }

-- where some are given, all cells have them
abbrev pub AreCommon : Grid → Option Paddings → Type 0
AreCommon grid common = IfSome common (λ paddings. (p : Position) → paddings_at grid p ≡ paddings)

-- no room on any side
abbrev pub no_paddings : Paddings
no_paddings = record { left = 0; right = 0; top = 0; bottom = 0 }

-- what is set for the table alone
abbrev pub for_all_cells : Paddings → Entity → Option Paddings
for_all_cells paddings Global = Some paddings
for_all_cells paddings other = None

-- what is set for a row, or else for the whole table
abbrev pub set_in_row : (Entity → Option Paddings) → ℕ → Paddings
set_in_row set r = unwrap_or (set (Row r)) (unwrap_or (set Global) no_paddings)

-- the paddings of a cell are its own, else its column's, its row's or the table's
abbrev pub AreEffective : Grid → (Entity → Option Paddings) → Type 0
AreEffective grid set = (p : Position) →
    paddings_at grid p
    ≡ unwrap_or (set (Cell p.row p.col)) (unwrap_or (set (Column p.col)) (set_in_row set p.row))
