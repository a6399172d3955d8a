use Rattle.papergrid_config.specs.Grids.{spanned_grid}
use Rattle.papergrid_walk.specs.ForProofs.Shown.{Shows}
use Rattle.papergrid_layout.specs.Tables.{view_of}
use Rattle.papergrid_draw.specs.ForProofs.Apart.{AreTested}
use Rattle.papergrid_draw.proofs.separated.row_apart.Given as goal

abbrev pub invariant-loop-col : goal.invariant-loop-col
invariant-loop-col l = record {
  shows : Shows (spanned_grid l.table.config) l.sweep l.row l.col;
  tested : AreTested (view_of l.table) l.apart l.row l.col;
}
