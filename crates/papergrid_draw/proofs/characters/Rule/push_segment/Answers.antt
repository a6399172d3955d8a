use Rattle.std.proofs.Common.{◌≡◌, ◌++◌, ◌∙◌, ap, arith, string_bytes, sym}
use Rattle.std.proofs.lemmas.Bool.{ne_eqb}
use Rattle.std.proofs.lemmas.Result.{on_ok_weaker}
use Rattle.papergrid_draw.specs.Characters.{overridden_mark, plain_mark, segment_character, segment_piece}
use Rattle.papergrid_draw.specs.Pieces.{fill_text}
use Rattle.papergrid_draw.proofs.OverrideLemmas.{tells_overrides}
use Rattle.papergrid_draw.proofs.SegmentLemmas.{character_shown, each_added, line_mark_is, next_mark, nothing_added, one_added}
use Rattle.papergrid_draw.proofs.StretchLemmas.{mark_added, marks_added}
use Rattle.papergrid_draw.proofs.characters.Rule.push_segment.Goals as goal

pub returns-then-width-eq0 : goal.returns-then-width-eq0
returns-then-width-eq0 c = nothing_added _ _ _ c.args.width _ _ c.if-width-eq0.true

pub returns-then-not-is_overridden_horizontal : goal.returns-then-not-is_overridden_horizontal
returns-then-not-is_overridden_horizontal c =
    let config = c.args.config.now in
    let character : c.unwrap_or-character.result ≡ segment_character config c.args.shape c.args.position
    = character_shown _ _ _ c.unwrap_or-character.ensures c.get_horizontal.ensures c.get_borders_missing.ensures in
    on_ok_weaker c.push_fill.result (λ filled. one_added _ _ _ c.args.width
    (sym (tells_overrides _ config.horizontal_chars c.args.position c.is_overridden_horizontal.ensures) ∙ c.if-not-is_overridden_horizontal.true)
    (ne_eqb _ _ c.if-width-eq0.false)
    (mark_added (plain_mark (segment_piece config c.args.shape c.args.position (segment_character config c.args.shape c.args.position) c.args.width))
    c.get_horizontal_color-color.ensures c.in_ok-switch.ensures.bytes
    (filled ∙ ap (λ n. string_bytes c.switch.new.line ++ fill_text n c.args.width) character)
    c.in_ok-switch.ensures.used))
    c.push_fill.ensures

pub loop-k-preserved : goal.loop-k-preserved
loop-k-preserved c =
    let config = c.args.config.now in
    let character : c.unwrap_or-character.result ≡ segment_character config c.args.shape c.args.position
    = character_shown _ _ _ c.unwrap_or-character.ensures c.get_horizontal.ensures c.get_borders_missing.ensures in
    next_mark (overridden_mark config c.args.shape c.args.position c.args.width) c.loop-k.k _ c.loop-k.invariant c.in_ok-push_mark.ensures
    (line_mark_is c.get_horizontal_color-color.ensures c.lookup_horizontal_color-own_color.ensures (cc))

pub returns : goal.returns
returns c =
    let config = c.args.config.now in
    let all : c.loop-k.k ≡ c.args.width = omega arith in
    each_added _ _ _ c.args.width (sym (tells_overrides _ config.horizontal_chars c.args.position c.is_overridden_horizontal.ensures) ∙ c.if-not-is_overridden_horizontal.false)
    (marks_added _ (overridden_mark config c.args.shape c.args.position c.args.width) (λ _. sym c.get_horizontal_color-color.ensures)
    c.args.width c.loop-k.k c.if-width-eq0.false all c.in_ok-switch.ensures.bytes c.loop-k.invariant c.in_ok-switch.ensures.used)
