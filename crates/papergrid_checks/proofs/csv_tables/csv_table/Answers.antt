use Rattle.std.proofs.Common.{◌≡◌, subst, sym}
use Rattle.std.specs.Prelude.{IfSome}
use Rattle.papergrid_checks.proofs.CsvLemmas.{csv-begun, csv-ended, csv-written}
use Rattle.papergrid_checks.proofs.csv_tables.csv_table.Goals as goal

pub returns-clause-written : goal.returns-clause-written
returns-clause-written g c =
    let known = g.S.Source.remaining c.args.reader.now in
    let same = subst (λ text. IfSome known (λ left. text ≡ left)) (sym c.as_slice.ensures.value) c.in_ok-text.ensures.whole.all in
    csv-written g.W.Sink.contents g.W.Sink.has_failed g.W.Sink.has_stalled c.args.request.now known c.as_slice.result.now same c.args.writer.now c.draw_csv.new.writer c.draw_csv.result c.draw_csv.ensures

pub returns-clause-beginning : goal.returns-clause-beginning
returns-clause-beginning g c =
    let known = g.S.Source.remaining c.args.reader.now in
    let same = subst (λ text. IfSome known (λ left. text ≡ left)) (sym c.as_slice.ensures.value) c.in_ok-text.ensures.whole.all in
    csv-begun g.W.Sink.contents g.W.Sink.has_failed g.W.Sink.has_stalled c.args.request.now known c.as_slice.result.now same c.args.writer.now c.draw_csv.new.writer c.draw_csv.result c.draw_csv.ensures

pub returns-clause-write : goal.returns-clause-write
returns-clause-write g c =
    let known = g.S.Source.remaining c.args.reader.now in
    let same = subst (λ text. IfSome known (λ left. text ≡ left)) (sym c.as_slice.ensures.value) c.in_ok-text.ensures.whole.all in
    csv-ended g.W.Sink.contents g.W.Sink.has_failed g.W.Sink.has_stalled c.args.request.now known c.as_slice.result.now same c.args.writer.now c.draw_csv.new.writer c.draw_csv.result c.draw_csv.ensures
