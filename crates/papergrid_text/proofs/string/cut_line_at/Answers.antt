use Rattle.std.proofs.Common.{◌≡◌, ◌<◌, get_or, sym, ◌∙◌, length, arith}
use Rattle.std.proofs.lemmas.Str.{IsCharBoundary-after_ascii}
use Rattle.papergrid_text.proofs.Places.{is_there}
use Rattle.papergrid_text.proofs.Splits.{split_first, split_whole}
use Rattle.papergrid_text.proofs.string.cut_line_at.Goals as goal

pub returns-then-end-text-clause-lines : goal.returns-then-end-text-clause-lines
returns-then-end-text-clause-lines c = split_whole c.args.text.now (sym c.requires ∙ c.if-end-text.true)

there : (c : goal.Else-end-text) → (c.args.end < length c.args.text.now) × (get_or c.args.text.now c.args.end 0 ≡ 10)
there c = is_there c.args.text.now 10 c.args.end c.requires c.if-end-text.false

pub range-requires : goal.range-requires
range-requires c = grind (arith, there)

pub range_from-requires : goal.range_from-requires
range_from-requires c = λ some.
    let newline = is_there c.args.text.now 10 c.args.end c.requires c.if-end-text.false in
    IsCharBoundary-after_ascii c.args.text.now c.args.end c.utf8.text newline.0 (omega (arith, newline.1))

pub returns-clause-lines : goal.returns-clause-lines
returns-clause-lines c = grind (arith, is_there, split_first)
