use Rattle.std.proofs.Common.{Ok, rules, subst, ◌≡◌}
use Rattle.papergrid_json.specs.Documents.{IsDocumentRead}
use Rattle.papergrid_checks.proofs.DocumentLemmas.{begun-of, picture-of}
use Rattle.papergrid_checks.proofs.json_tables.json_table.Goals as goal

pub returns-clause-picture : goal.returns-clause-picture
returns-clause-picture g c =
    let is : c.read_document.result ≡ Ok c.in_ok-document.document = search rules in
    let read = subst (IsDocumentRead c.args.text.now) is c.read_document.ensures.read in
    picture-of g.W.Sink.contents g.W.Sink.has_failed g.W.Sink.has_stalled c.args.writer.now c.draw_document.new.sink c.args.text.now c.in_ok-document.document read
    c.draw_document.result c.map_err-2.result c.map_err-2.ensures.variant c.draw_document.ensures

pub returns-clause-beginning : goal.returns-clause-beginning
returns-clause-beginning g c =
    let is : c.read_document.result ≡ Ok c.in_ok-document.document = search rules in
    let read = subst (IsDocumentRead c.args.text.now) is c.read_document.ensures.read in
    begun-of g.W.Sink.contents g.W.Sink.has_failed g.W.Sink.has_stalled c.args.writer.now c.draw_document.new.sink c.args.text.now c.in_ok-document.document read
    c.draw_document.result c.map_err-2.result c.map_err-2.ensures.variant c.draw_document.ensures
