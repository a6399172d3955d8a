use Rattle.std.proofs.Common.{◌≡◌, ◌<◌, ℕ, get_or, length}
use Rattle.std.specs.Prelude.{Option, None, Some, false, if◌then◌else◌, unwrap_or}
use Rattle.papergrid_tables.specs.BorderParts.{found_vertical}
use Rattle.papergrid_tables.specs.StoredBorders.{parts_of_borders}
use Rattle.papergrid_values.specs.Positions.{position_of}
use Rattle.papergrid_draw.proofs.page.vertical_characters.Given as goal

abbrev pub invariant-loop-col : goal.invariant-loop-col
invariant-loop-col l = record {
  many : length l.characters.items ≡ l.col;
  are : (j : ℕ) (other : Option ℕ) → j < l.col → get_or l.characters.items j other ≡ (if get_or l.lines j false
      then Some (unwrap_or (found_vertical (parts_of_borders l.config.characters) (position_of (0, j)) l.columns) l.config.missing) else None);
}
