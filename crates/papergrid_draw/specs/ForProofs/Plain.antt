-- Tables whose cells span nothing, and whose lines have no part, colour or character of a single cell.
use Rattle.std.specs.Prelude.{◌≡◌, ◌<◌, ℕ, Option, Some, None, String, string_bytes}
use Rattle.std.specs.FinMap.{get}
use Rattle.std.specs.declared.alloc.Global.{Global}
use Rattle.papergrid_maps.specs.Spans.{HasSpan}
use Rattle.papergrid_config.specs.Queries.{HasCommonLines}
use Rattle.papergrid_config.specs.declared.spanned.SpannedConfig.{SpannedConfig}
use Rattle.papergrid_layout.specs.Tables.{TableParts}
use Rattle.papergrid_draw.specs.Bytes.{rule_bytes}
use Rattle.papergrid_draw.specs.Drawings.{Drawing}
use Rattle.papergrid_draw.specs.Drawn.{rule_line}
use Rattle.papergrid_draw.specs.ForProofs.Pages.{Texts, drawing_of}

-- cells span nothing, and lines have no part, colour or character of a single cell
pub record IsPlain (config : SpannedConfig) : Type 0 where
  pub columns : HasSpan config.spans.columns → ⊥
  pub rows : HasSpan config.spans.rows → ⊥
  pub lines : HasCommonLines config

-- the line before a row stands between two rows, and has none of its own set
abbrev pub IsCommonRule : Drawing → ℕ → Type 0
IsCommonRule d row = (0 < row) × (row < d.shape.0) × (get d.config.characters.horizontal_lines row ≡ None)

-- the bytes of each such line, once one was drawn
abbrev pub HasCommonRule : TableParts → Option (String Global) → Type 0
HasCommonRule parts rule = (texts : Texts) (bytes : String Global) (row : ℕ) → rule ≡ Some bytes →
    IsCommonRule (drawing_of parts texts) row →
    string_bytes bytes ≡ rule_bytes (rule_line (drawing_of parts texts) row)
