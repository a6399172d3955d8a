-- What a configuration answers by its grid.
use Rattle.std.proofs.Common.{◌≤◌, List, rules}
use Rattle.papergrid_values.specs.declared.direction.Direction.{Direction}
use Rattle.papergrid_values.specs.declared.position.Position.{Position}
use Rattle.papergrid_maps.specs.Anchors.{AreAnchors}
use Rattle.papergrid_maps.specs.Hidden.{AreAnchorsOf}
use Rattle.papergrid_maps.specs.Spans.{span_along}
use Rattle.papergrid_maps.specs.declared.anchors.Anchor.{Anchor}
use Rattle.papergrid_maps.proofs.HiddenLemmas.{test-by-hidden}
use Rattle.papergrid_config.specs.Grids.{spanned_grid}
use Rattle.papergrid_config.specs.declared.spanned.SpannedConfig.{SpannedConfig}

-- the anchors of spans are those of the grid
pub anchors_of_config : (config : SpannedConfig) (anchors : List Anchor) → AreAnchors (span_along config.spans) anchors →
    ((d : Direction) (p : Position) → 1 ≤ span_along config.spans d p) → AreAnchorsOf (spanned_grid config) anchors
anchors_of_config config anchors are from_one = search (rules, test-by-hidden)
