use Rattle.std.proofs.Common.{◌≡◌, ◌∙◌, arith, get_or, refl, subst, sym}
use Rattle.std.specs.Prelude.{None, Some, false, if◌then◌else◌, unwrap_or}
use Rattle.std.proofs.lemmas.Option.{get_or_from_slice_get, slice_get_within}
use Rattle.papergrid_tables.specs.BorderParts.{found_vertical}
use Rattle.papergrid_tables.specs.StoredBorders.{parts_of_borders}
use Rattle.papergrid_values.specs.Positions.{position_of}
use Rattle.papergrid_config.specs.Queries.{HasCommonLines}
use Rattle.papergrid_draw.specs.ForProofs.Pages.{drawing_of}
use Rattle.papergrid_draw.proofs.PlainLemmas.{common-bytes, one-more}
use Rattle.papergrid_draw.proofs.page.vertical_characters.Goals as goal

pub loop-col-preserved : goal.loop-col-preserved
loop-col-preserved c =
    let config = c.config-config.result.now in
    let more = one-more (λ j x. x ≡ (if get_or c.args.lines.now j false
    then Some (unwrap_or (found_vertical (parts_of_borders config.characters) (position_of (0, j)) c.shape.result.1) config.missing) else None))
    c.loop-col.characters.items c.push.new.self.items c.loop-col.col c.vertical_character.result
    c.in_ok-push.ensures.items c.loop-col.invariant.many c.loop-col.invariant.are c.vertical_character.ensures in
    record { many = more.0; are = more.1 }

pub returns : goal.returns
returns c = λ texts r j k found some.
    let d = drawing_of c.args.table.now texts in
    let common = subst HasCommonLines c.config-config.ensures (c.has_common_lines.ensures.0 c.if-not-has_common_lines.false) in
    let within = slice_get_within c.loop-col.characters.items j found some in
    let wide = c.requires.many in
    common-bytes d common r j k found (position_of (0, j)) (get_or c.args.lines.now j false) (sym (c.requires.each texts j false (omega (arith, within, wide)))) refl
    (sym (get_or_from_slice_get c.loop-col.characters.items j found found some) ∙ c.loop-col.invariant.are j found (omega (arith, within))
    ∙ (λ i. if get_or c.args.lines.now j false then Some (unwrap_or (found_vertical (parts_of_borders (c.config-config.ensures i).characters) (position_of (0, j)) ((c.shape.ensures i).1))
    ((c.config-config.ensures i).missing)) else None))
