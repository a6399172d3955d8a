use Rattle.std.proofs.Common.{◌∙◌, ◌++◌, ap, arith, string_bytes, sym}
use Rattle.std.proofs.lemmas.List.{append-nil}
use Rattle.std.proofs.lemmas.Result.{on_ok_weaker}
use Rattle.papergrid_draw.specs.Pieces.{fill_text}
use Rattle.papergrid_draw.proofs.PenLemmas.{added_one, blanks-are}
use Rattle.papergrid_draw.proofs.pen.push_fill.Goals as goal

pub loop-init : goal.loop-init
loop-init c = (omega arith, sym (append-nil _))

pub loop-preserved : goal.loop-preserved
loop-preserved c = (omega arith, added_one _ _ _ c.args.character c.loop.counter c.loop.invariant.1 c.in_ok-push.ensures.bytes)

pub returns-then-character-eq32 : goal.returns-then-character-eq32
returns-then-character-eq32 c =
    on_ok_weaker c.push_blanks.result (λ added. added ∙ ap (λ text. string_bytes c.args.line.now ++ text) (sym (blanks-are c.args.count)
    ∙ ap (λ character. fill_text character c.args.count) (sym c.if-character-eq32.true))) c.push_blanks.ensures
