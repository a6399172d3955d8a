use Rattle.std.proofs.Common.{subst, sym}
use Rattle.std.specs.Prelude.{⊤}
use Rattle.papergrid_script.specs.Writing.{WritesOutput}
use Rattle.papergrid_table.specs.Pictures.{IsDocumentRun}
use Rattle.papergrid_table.proofs.DocumentLemmas.{document-run}
use Rattle.papergrid_table.proofs.document.draw_text.Goals as goal

pub returns-in-Ok : goal.returns-in-Ok
returns-in-Ok g c =
    let ran = document-run g.W.Sink.contents g.W.Sink.has_failed g.W.Sink.has_stalled c.args.sizing c.args.text.now c.in-Ok.document c.in-Ok.ensures.read c.args.writer.now c.draw_document.new.sink c.draw_document.result c.draw_document.ensures in
    subst (λ end. WritesOutput g.W.Sink.contents g.W.Sink.has_failed g.W.Sink.has_stalled (λ _. ⊤) (IsDocumentRun c.args.sizing c.args.text.now) c.args.writer.now c.draw_document.new.sink end) (sym c.end_of.ensures) ran
