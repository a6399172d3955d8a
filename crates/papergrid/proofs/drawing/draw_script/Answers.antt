use Rattle.std.proofs.Common.{◌∙◌, Err, ap, rules}
use Rattle.std.specs.Prelude.{⊤}
use Rattle.papergrid_script.specs.Outputs.{bad_line_text}
use Rattle.papergrid.specs.Pictures.{IsPictureRun}
use Rattle.papergrid_script.proofs.RunLemmas.{runs-also}
use Rattle.papergrid.proofs.drawing.draw_script.Goals as goal

pub returns-in-Err-Bad : goal.returns-in-Err-Bad
returns-in-Err-Bad g c =
    let is = rw (c.in-Err-Bad.is, c.in-Err-Bad.field-0-is) at c.read_script.ensures.script in
    runs-also g.W.Sink.contents g.W.Sink.has_failed g.W.Sink.has_stalled (λ _. ⊤) _ (IsPictureRun c.args.sizing c.args.input.now)
    (λ end output p. (Err _, is, (p.0, p.1 ∙ c.in_ok-bad_script_text-in-Err-Bad.ensures ∙ ap bad_line_text c.in-Err-Bad.number-is)))
    c.args.writer.now c.say.new.writer c.say.result c.say.ensures.written

pub returns : goal.returns
returns g c =
    let is = rw c.in-Ok.is at c.read_script.ensures.script in
    search (rules, runs-also)
