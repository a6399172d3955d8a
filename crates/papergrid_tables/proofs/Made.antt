-- The border table that calls make: what the calls leave, for each part that one of them names.
use Rattle.std.specs.Prelude.{ℕ, List, [], ◌∷◌, flat_map, reverse}
use Rattle.papergrid_values.specs.declared.position.Position.{Position}
use Rattle.papergrid_values.proofs.Tabulated.{tabulation}
use Rattle.papergrid_tables.specs.BorderCalls.{BorderCall, InsertBorder, InsertHorizontalLine, InsertVerticalLine, below, right_of}
use Rattle.papergrid_tables.specs.StoredBorders.{StoredBorders}
use Rattle.papergrid_tables.specs.BorderParts.{parts_from}

module _ {T : Type 0} where
  -- the horizontal line that a call sets
  abbrev pub named_rows : BorderCall T → List ℕ
  named_rows (InsertHorizontalLine row line) = row ∷ []
  named_rows call = []

  -- the vertical line that a call sets
  abbrev pub named_columns : BorderCall T → List ℕ
  named_columns (InsertVerticalLine col line) = col ∷ []
  named_columns call = []

  -- the positions at which a call may set edges or corners
  abbrev pub named_positions : BorderCall T → List Position
  named_positions (InsertBorder cell border) = cell ∷ below cell ∷ right_of cell ∷ below (right_of cell) ∷ []
  named_positions call = []

  -- what a border table holds after the calls
  abbrev pub borders_made : List (BorderCall T) → StoredBorders T
  borders_made calls =
      let newest_first = reverse calls in
      let parts = parts_from newest_first in
      record {
        global = parts.global;
        frame = parts.frame;
        horizontal_lines = tabulation parts.horizontal_line (flat_map named_rows newest_first);
        vertical_lines = tabulation parts.vertical_line (flat_map named_columns newest_first);
        horizontal_edges = tabulation parts.horizontal_edge (flat_map named_positions newest_first);
        vertical_edges = tabulation parts.vertical_edge (flat_map named_positions newest_first);
        corners = tabulation parts.corner (flat_map named_positions newest_first);
      }
