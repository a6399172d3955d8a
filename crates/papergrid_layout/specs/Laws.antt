-- What the laws are about.
use Rattle.std.specs.Prelude.{◌≡◌, ◌<◌, ◌^◌, ℕ, List, [], None, filter, length, slice_index_or}
use Rattle.std.specs.List.{flat_map}
use Rattle.papergrid_values.specs.declared.position.Position.{Position}
use Rattle.papergrid_text.specs.Measured.{Measured, measured_text}
use Rattle.papergrid_values.specs.declared.direction.Direction.{Direction}
use Rattle.papergrid_tracks.specs.Fits.{Fits}
use Rattle.papergrid_tracks.specs.Problem.{Problem, total_of}
use Rattle.papergrid_tracks.specs.Ranges.{first_out}
use Rattle.papergrid_maps.specs.Spans.{decides_span}
use Rattle.papergrid_config.specs.Parts.{character_calls, padding_calls, span_calls}
use Rattle.papergrid_config.specs.declared.setting.Setting.{Setting}

-- a text as `Text::new` keeps it
abbrev pub IsNewText : {S : Type 0} → (S → List ℕ) → Measured S → Type 0
IsNewText text t = t ≡ measured_text text t.text

-- the cells of a row have this one at a column
abbrev pub RowHasCell : {C : Type 0} → List C → ℕ → C → Type 0
RowHasCell cells col cell = (col < length cells) × (slice_index_or cells col cell ≡ cell)

-- the rows have the cell at a position
abbrev pub IsCellAt : {C : Type 0} → List (List C) → Position → C → Type 0
IsCellAt rows p cell = (p.row < length rows) × RowHasCell (slice_index_or rows p.row []) p.col cell

-- no visible cell overflows the table along a direction, each has room in the sizes, and with all lines they fit 64 bits
pub record HaveRoom (problem : Problem) (sizes : List ℕ) : Type 0 where
  pub none_out : first_out problem.count problem.demands ≡ None
  pub fits : Fits problem sizes
  pub total : total_of problem sizes < 2 ^ 64

-- in both lists the same calls decide the span of each cell, in the same order, wherever those of other cells stand. The
-- calls of paddings are the same, and so are those of lines
pub record AreReordered (settings other : List Setting) : Type 0 where
  pub spans : (direction : Direction) (p : Position) →
      filter (decides_span direction p) (flat_map span_calls settings) ≡ filter (decides_span direction p) (flat_map span_calls other)
  pub padding : flat_map padding_calls settings ≡ flat_map padding_calls other
  pub characters : flat_map character_calls settings ≡ flat_map character_calls other
