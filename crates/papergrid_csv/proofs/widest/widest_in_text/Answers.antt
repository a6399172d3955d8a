use Rattle.std.proofs.Common.{◌≡◌, ◌∙◌, ◌≤◌, arith, sym}
use Rattle.papergrid_text.specs.Text.{width_of}
use Rattle.papergrid_csv.proofs.CutLemmas.{short-within}
use Rattle.papergrid_csv.proofs.WidestLemmas.{all-more, line-grows}
use Rattle.papergrid_csv.proofs.widest.widest_in_text.Goals as goal

pub returns-then-is_printable : goal.returns-then-is_printable
returns-then-is_printable c = short-within _ c.args.text.now (sym c.is_printable.ensures ∙ c.if-is_printable.true) (omega arith)

pub loop-line-preserved : goal.loop-line-preserved
loop-line-preserved c =
    let told : c.width.result ≡ width_of c.in-Some.line.now = c.width.ensures in
    all-more (λ columns line. width_of line ≤ columns) line-grows (λ line. line.now) c.loop-line.yielded c.in-Some.line c.loop-line.widest c.width.result c.max-widest.result
    c.loop-line.invariant (omega (arith, told)) c.max-widest.ensures
