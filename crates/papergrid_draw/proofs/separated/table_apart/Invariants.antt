use Rattle.papergrid_config.specs.Grids.{spanned_grid}
use Rattle.papergrid_walk.specs.ForProofs.Shown.{Shows}
use Rattle.papergrid_layout.specs.Tables.{view_of}
use Rattle.papergrid_draw.specs.ForProofs.Apart.{AreTested}
use Rattle.papergrid_draw.proofs.separated.table_apart.Given as goal

abbrev pub invariant-loop-row : goal.invariant-loop-row
invariant-loop-row l = record {
  shows : Shows (spanned_grid l.table.config) l.sweep l.row 0;
  tested : AreTested (view_of l.table) l.apart l.row 0;
}
