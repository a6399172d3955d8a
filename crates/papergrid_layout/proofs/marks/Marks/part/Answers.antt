use Rattle.std.proofs.Common.{◌≡◌, ◌-◌, arith, get_or, ◌∙◌}
use Rattle.std.proofs.lemmas.List.{get_or_read}
use Rattle.papergrid_layout.specs.Places.{extent, offset}
use Rattle.papergrid_layout.proofs.MarkLemmas.{marked-part}
use Rattle.papergrid_layout.proofs.marks.Marks.part.Goals as goal

pub overflow_sub-result : goal.overflow_sub-result
overflow_sub-result c =
    let marks = c.args.self.now in
    let told = c.requires.marks in
    let many = told.3.each_end in
    let first : c.index-begin.result.now ≡ get_or marks.begins.items c.args.start 0 = get_or_read marks.begins.items _ _ (omega (arith, told.3.each_begin, many)) c.index-begin.ensures 0 in
    let last : c.index.result.now ≡ get_or marks.ends.items c.in_ok-last.last 0 = get_or_read marks.ends.items _ _ (omega (arith, many)) c.index.ensures 0 in
    let part = marked-part told.0 told.1 told.2 marks c.args.start c.args.span c.in_ok-last.last told.3 c.requires.positive (omega arith) (omega (arith, many)) in
    omega (arith, first, last, part)

pub returns : goal.returns
returns c = λ size line count are.
    let marks = c.args.self.now in
    let first : c.index-begin.result.now ≡ get_or marks.begins.items c.args.start 0 = get_or_read marks.begins.items _ _ (omega (arith, are.each_begin, are.each_end)) c.index-begin.ensures 0 in
    let last : c.index.result.now ≡ get_or marks.ends.items c.in_ok-last.last 0 = get_or_read marks.ends.items _ _ (omega (arith, are.each_end)) c.index.ensures 0 in
    let part = marked-part size line count marks c.args.start c.args.span c.in_ok-last.last are c.requires.positive (omega arith) (omega (arith, are.each_end)) in
    let begins : get_or marks.begins.items c.args.start 0 ≡ offset size line c.args.start = are.begins c.args.start (omega (arith, are.each_end)) in
    let long : c.index.result.now - c.index-begin.result.now ≡ extent size line c.args.start c.args.span = omega (arith, first, last, part) in
    (omega (arith, are.each_end), (λ k. ((first ∙ begins) k, long k)))
