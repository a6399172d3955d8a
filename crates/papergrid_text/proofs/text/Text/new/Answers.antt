use Rattle.std.proofs.Common.{◌<◌, arith, ap, ◌∙◌, sym, refl, length, map, List, ℕ}
use Rattle.papergrid_text.specs.LineCache.{line_of_range}
use Rattle.papergrid_text.specs.Text.{split_lines, width_of}
use Rattle.papergrid_text.proofs.Widths.{width_of_one, none_kept, all_answered}
use Rattle.papergrid_text.proofs.text.Text.new.Goals as goal

pub returns-then-count-lt2 : goal.returns-then-count-lt2
returns-then-count-lt2 g c =
    let text : List ℕ = g.S.AsStr.text c.args.text in
    let few : length (split_lines text) < 2
    = let n = c.count_lines-count.ensures.lines in let e = ap (λ t. length (split_lines t)) c.as_str-whole.ensures in let t = c.if-count-lt2.true in omega arith in
    let width = c.get_line_width-width.ensures ∙ ap width_of c.as_str-whole.ensures ∙ sym (width_of_one text (split_lines text) refl few) in
    let lines = ap (map (line_of_range text)) c.new.ensures.items ∙ sym (none_kept (split_lines text) few) in
    grind (arith, text, all_answered)
