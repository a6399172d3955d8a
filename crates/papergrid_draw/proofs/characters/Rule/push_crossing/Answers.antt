use Rattle.std.proofs.Common.{◌≡◌, ◌++◌, ◌∙◌, ap, string_bytes}
use Rattle.std.proofs.lemmas.Result.{on_ok_weaker}
use Rattle.papergrid_draw.specs.Characters.{crossing, crossing_character}
use Rattle.papergrid_draw.specs.Pieces.{fill_text}
use Rattle.papergrid_draw.proofs.SegmentLemmas.{character_shown}
use Rattle.papergrid_draw.proofs.StretchLemmas.{mark_added}
use Rattle.papergrid_draw.proofs.characters.Rule.push_crossing.Goals as goal

pub returns : goal.returns
returns c =
    let config = c.args.config.now in
    let character : c.unwrap_or-character.result ≡ crossing_character config c.args.shape c.args.position
    = character_shown _ _ _ c.unwrap_or-character.ensures c.get_intersection.ensures c.get_borders_missing.ensures in
    on_ok_weaker c.push_fill.result
    (λ filled. mark_added (crossing config c.args.shape c.args.position) c.get_intersection_color.ensures c.in_ok-switch.ensures.bytes
    (filled ∙ ap (λ n. string_bytes c.switch.new.line ++ fill_text n 1) character) c.in_ok-switch.ensures.used)
    c.push_fill.ensures
