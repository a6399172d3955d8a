use Rattle.std.proofs.Common.{◌≡◌, ◌++◌, ◌∙◌, ap, string_bytes, sym}
use Rattle.std.proofs.lemmas.Result.{on_ok_weaker}
use Rattle.papergrid_config.specs.declared.spanned.SpannedConfig.{SpannedConfig}
use Rattle.papergrid_values.specs.declared.direction.Direction.TheVariants.{Columns, Rows}
use Rattle.papergrid_maps.specs.StoredMap.{stored_value}
use Rattle.papergrid_layout.specs.Places.{length_along}
use Rattle.papergrid_draw.specs.Bytes.{pieces_bytes}
use Rattle.papergrid_draw.specs.Contents.{content, look_of}
use Rattle.papergrid_draw.specs.Drawings.{layout_of}
use Rattle.papergrid_draw.specs.ForProofs.FilledFrames.{filled, filled_table}
use Rattle.papergrid_draw.proofs.BlankLemmas.{single_is}
use Rattle.papergrid_draw.proofs.PlainLemmas.{plain-height, plain-width}
use Rattle.papergrid_draw.proofs.filled_frame.FilledFrame.push_cell.Goals as goal

pub returns-in-None-Some : goal.returns-in-None-Some
returns-in-None-Some g c =
    let d = filled g.S.Cells.lines g.S.Cells.color c.args.self.now in
    let p = c.args.position in
    let between = c.args.self.now.frame.now.read.looks_are.blanks c.in-Some.blanks c.in-Some.is p in
    let horizontal = sym (c.horizontal-horizontal.ensures ∙ ap (λ (s : SpannedConfig). stored_value s.alignment_horizontal p) c.args.self.now.frame.now.read.config_is) in
    let lines = sym (single_is (g.S.Cells.lines c.args.self.now.cells.now p) (c.in-None-Some.text.now, c.in-None-Some.own) (sym c.in-None-Some.ensures')) in
    let color = sym c.in-None-Some.ensures in
    let width : c.get_width-width.result ≡ length_along (layout_of d) Columns p = c.get_width-width.ensures ∙ sym (plain-width d c.requires.plain p) in
    let height : 1 ≡ length_along (layout_of d) Rows p = sym (plain-height d c.requires.plain p ∙ c.requires.low) in
    on_ok_weaker c.push.result (λ added. added (look_of (filled_table c.args.self.now).config p) between horizontal
    ∙ (λ i. string_bytes c.args.line.now ++ pieces_bytes (content (record { look = look_of (filled_table c.args.self.now).config p; lines = lines i; color = color i; width = width i; height = height i }) 0)))
    c.push.ensures

pub returns : goal.returns
returns g c =
    let d = filled g.S.Cells.lines g.S.Cells.color c.args.self.now in
    let p = c.args.position in
    let look = c.get-look.ensures ∙ ap (λ (s : SpannedConfig). look_of s p) c.args.self.now.frame.now.read.config_is in
    let lines = sym c.in_ok-cell.ensures in
    let color = sym c.color-2.ensures in
    let width : c.get_width-width.result ≡ length_along (layout_of d) Columns p = c.get_width-width.ensures ∙ sym (plain-width d c.requires.plain p) in
    let height : 1 ≡ length_along (layout_of d) Rows p = sym (plain-height d c.requires.plain p ∙ c.requires.low) in
    on_ok_weaker c.push_only_line.result (λ added. added
    ∙ (λ i. string_bytes c.args.line.now ++ pieces_bytes (content (record { look = look i; lines = lines i; color = color i; width = width i; height = height i }) 0)))
    c.push_only_line.ensures
