use Rattle.std.proofs.Common.{subst}
use Rattle.std.specs.Prelude.{⊤}
use Rattle.papergrid_script.specs.Writing.{WritesOutput}
use Rattle.papergrid_script.proofs.RunLemmas.{runs-read}
use Rattle.papergrid.specs.Pictures.{IsPictureRun}
use Rattle.papergrid.proofs.drawing.run_table.Goals as goal

pub returns : goal.returns
returns g c =
    let read = c.in_ok-input.ensures in
    let so = subst (λ input. WritesOutput g.W.Sink.contents g.W.Sink.has_failed g.W.Sink.has_stalled (λ _. ⊤) (IsPictureRun c.args.sizing input) c.args.writer.now c.draw_script.new.writer c.draw_script.result) c.as_slice.ensures.value c.draw_script.ensures in
    runs-read c.requires.reader c.requires.writer (λ _. ⊤) read.works read.whole c.draw_script.result so
