use Rattle.std.proofs.Common.{◌≡◌, ◌++◌, ◌∙◌, string_bytes}
use Rattle.std.proofs.lemmas.Result.{on_ok_weaker}
use Rattle.papergrid_tables.proofs.BorderFound.{both}
use Rattle.papergrid_draw.specs.Bytes.{colored}
use Rattle.papergrid_draw.specs.Characters.{vertical_character}
use Rattle.papergrid_draw.specs.Pieces.{fill_text}
use Rattle.papergrid_draw.proofs.SegmentLemmas.{character_or_own}
use Rattle.papergrid_draw.proofs.characters.push_vertical.Goals as goal

pub returns : goal.returns
returns c =
    let character : c.unwrap_or-character.result ≡ vertical_character c.args.config.now c.args.shape c.args.position c.args.height c.args.k
    = character_or_own _ _ _ _ c.unwrap_or-character.ensures c.or.ensures c.lookup_vertical_char.ensures c.get_vertical.ensures c.get_borders_missing.ensures in
    let color = both _ _ c.or-color.ensures c.get_vertical_color.ensures c.lookup_vertical_color.ensures in
    on_ok_weaker c.push_colored_fill.result
    (λ added. added ∙ (λ i. string_bytes c.args.line.now ++ colored (color i) (fill_text (character i) 1))) c.push_colored_fill.ensures
