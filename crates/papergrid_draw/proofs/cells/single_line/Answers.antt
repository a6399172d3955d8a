use Rattle.std.proofs.Common.{◌<◌, ◌∙◌, ap, arith, length, map, refl, sym}
use Rattle.std.proofs.lemmas.List.{length-map}
use Rattle.papergrid_text.specs.LineCache.{answered_lines}
use Rattle.papergrid_text.specs.Text.{split_lines, with_width}
use Rattle.papergrid_text.proofs.Widths.{all_answered, none_kept}
use Rattle.papergrid_draw.specs.Contents.{single_line}
use Rattle.papergrid_draw.proofs.BlankLemmas.{not_single}
use Rattle.papergrid_draw.proofs.cells.single_line.Goals as goal

pub returns-then-count-ne1 : goal.returns-then-count-ne1
returns-then-count-ne1 c =
    let lines = split_lines c.args.text.now in
    let many = ap (λ d. d.0) c.get_text_dimension-count.ensures in
    sym (not_single (map with_width lines) (λ one. omega (arith, many, one, length-map (split_lines c.args.text.now) with_width, c.if-count-ne1.true)))

pub returns : goal.returns
returns c =
    let lines = split_lines c.args.text.now in
    let one : length lines < 2 = omega (arith, ap (λ d. d.0) c.get_text_dimension-count.ensures, c.if-count-ne1.false) in
    let width = ap (λ d. d.1) c.get_text_dimension-count.ensures in
    ap single_line ((λ i. answered_lines c.args.text.now (width i) (sym (none_kept lines one) i)) ∙ all_answered c.args.text.now lines refl)
