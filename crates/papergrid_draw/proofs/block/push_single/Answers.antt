use Rattle.std.proofs.Common.{◌≡◌, ◌-◌, ◌+◌, ◌∙◌, ◌++◌, ap, arith, refl, string_bytes}
use Rattle.std.specs.Prelude.{option_map}
use Rattle.std.proofs.lemmas.Result.{on_ok_weaker}
use Rattle.papergrid_values.specs.Colors.{texts_of}
use Rattle.papergrid_draw.specs.Contents.{Block, aligned_width, before, free_before, inner}
use Rattle.papergrid_draw.specs.ForProofs.Blocks.{filled_up}
use Rattle.papergrid_draw.specs.ForProofs.Looks.{look_seen}
use Rattle.papergrid_draw.proofs.BlockLemmas.{aligned-only, content-only, line-filled, only_line}
use Rattle.papergrid_draw.proofs.block.push_single.Goals as goal

pub returns : goal.returns
returns g c =
    let b : Block = record {
      look = look_seen c.args.look.now;
      lines = g.T.Cell.lines c.args.cell.now;
      color = option_map texts_of c.args.color;
      width = c.args.width;
      height = 1;
    } in
    let line = only_line b in
    let width : c.shown_line-own.result.1 ≡ line.1 = c.shown_line-own.ensures.width in
    let aligned : aligned_width b line ≡ line.1 = aligned-only b c.requires.single in
    let free : c.saturating_sub-2.result ≡ inner b - aligned_width b line = omega (arith, width, aligned) in
    let start : c.free_before-before.result ≡ before b line = c.free_before-before.ensures ∙ ap (free_before b.look.horizontal) free in
    let after : c.saturating_sub-after.result ≡ inner b - (before b line + line.1) = omega (arith, width, start) in
    let old = string_bytes c.args.line.now in
    on_ok_weaker c.push_filled_up.result (λ added. added
    ∙ (λ i. old ++ filled_up b.look b.color (c.shown_line-own.ensures.text i) (start i, after i))
    ∙ ap (λ bytes. old ++ bytes) (line-filled b line ∙ content-only b c.requires.single c.requires.first c.requires.shown refl)) c.push_filled_up.ensures
