use Rattle.std.proofs.Common.{◌∙◌, ap, sym}
use Rattle.std.specs.Prelude.{None, Some, if◌then◌else◌, unwrap_or}
use Rattle.papergrid_tables.specs.BorderParts.{found_vertical}
use Rattle.papergrid_tables.specs.StoredBorders.{parts_of_borders}
use Rattle.papergrid_values.specs.Positions.{position_of}
use Rattle.papergrid_draw.proofs.SegmentLemmas.{character_shown}
use Rattle.papergrid_draw.proofs.page.vertical_character.Goals as goal

pub returns : goal.returns
returns c =
    let config = c.args.config.now in
    ap (λ n. Some n) (character_shown _ _ _ c.unwrap_or.ensures c.get_vertical-character.ensures c.get_borders_missing.ensures)
    ∙ ap (λ b. if b then Some (unwrap_or (found_vertical (parts_of_borders config.characters) (position_of (0, c.args.col)) c.args.columns) config.missing) else None)
    (sym c.if-not-is_drawn.false)
