-- The grid of a configuration: what is read of it cell by cell and line by line.
use Rattle.std.specs.Prelude.{ℕ, Bool, true, false}
use Rattle.papergrid_values.specs.declared.position.Position.{Position}
use Rattle.papergrid_values.specs.declared.sides.Sides.{Sides}
use Rattle.papergrid_values.specs.declared.indent.Indent.{Indent}
use Rattle.papergrid_values.specs.declared.compact.CompactConfig.{CompactConfig}
use Rattle.papergrid_values.specs.declared.direction.Direction.{Direction}
use Rattle.papergrid_values.specs.declared.direction.Direction.TheVariants.{Columns, Rows}

-- which positions are visible, and along each direction the span of a position and the paddings
-- before and after its text. Of so many tracks along a direction it says before which of them, or
-- at their count after the last, there is a line
pub record Grid : Type 0 where
  pub shows : Position → Bool
  pub span : Direction → Position → ℕ
  pub before : Direction → Position → ℕ
  pub after : Direction → Position → ℕ
  pub draws : Direction → ℕ → ℕ → Bool

-- the padding before a text along a direction
abbrev pub size_before : Direction → Sides Indent → ℕ
size_before Columns padding = padding.left.size
size_before Rows padding = padding.top.size

-- the padding after it
abbrev pub size_after : Direction → Sides Indent → ℕ
size_after Columns padding = padding.right.size
size_after Rows padding = padding.bottom.size

-- all cells are visible, of span 1 and with one padding, and there are no lines
abbrev pub compact_grid : CompactConfig → Grid
compact_grid config = record {
  shows = λ _. true;
  span = λ _ _. 1;
  before = λ direction _. size_before direction config.padding;
  after = λ direction _. size_after direction config.padding;
  draws = λ _ _ _. false;
}
