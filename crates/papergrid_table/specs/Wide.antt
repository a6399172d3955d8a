-- Which cells are named of a table that is wider than it may be.
use Rattle.std.specs.Prelude.{◌≤◌, ◌+◌, ◌-◌, ◌^◌, ℕ, AllPairs, List, min}
use Rattle.std.specs.List.Sorted.{IsPermutation}
use Rattle.papergrid_values.specs.declared.position.Position.{Position}
use Rattle.papergrid_text.specs.Text.{greatest_width, split_lines}
use Rattle.papergrid_csv.specs.Judging.{field_at}
use Rattle.papergrid_csv.specs.declared.request.Request.{Request}
use Rattle.papergrid_table.specs.declared.wide.Asking.{Asking}

-- what the cell at a position asks for: the columns of its text and of its padding, or the greatest `usize` where they are more
abbrev pub asked_at : Request → List (List (List ℕ)) → Position → Asking
asked_at request rows p = record {
  position = p;
  width = min (greatest_width (split_lines (field_at rows p)) + (request.padding.left.size + request.padding.right.size)) (2 ^ 64 - 1);
}

-- these cells, each at least as wide as those behind it
pub record AreWidestFirst (cells sorted : List Asking) : Type 0 where
  pub same : IsPermutation cells sorted
  pub order : AllPairs (λ first later. later.width ≤ first.width) sorted
