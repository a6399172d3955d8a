use Rattle.std.proofs.Common.{ℕ, List, inl, inr, subst, sym}
use Rattle.std.specs.Prelude.{⊤}
use Rattle.papergrid_script.proofs.RunLemmas.{writes-as}
use Rattle.papergrid_csv.specs.Pictures.{IsCsvRun, IsPictured}
use Rattle.papergrid_csv.specs.Within.{IsRunWithin}
use Rattle.papergrid_csv.specs.declared.run.CsvEnd.{CsvEnd}
use Rattle.papergrid_table.specs.Pictures.{IsRunOf, IsTextRun}
use Rattle.papergrid_table.specs.declared.arguments.Kind.TheVariants.{Csv, Json, Script, Tsv}
use Rattle.papergrid_table.specs.declared.picture.End.TheVariants.{OfDocument, OfScript, OfText}
use Rattle.papergrid_table.proofs.picture.draw_input.Goals as goal

pub returns-in-Script-clause-written : goal.returns-in-Script-clause-written
returns-in-Script-clause-written g c =
    let wanted = c.args.wanted.now in
    rw c.in-Script.is
    (writes-as g.W.Sink.contents g.W.Sink.has_failed g.W.Sink.has_stalled (λ _. ⊤) (IsRunOf Script wanted wanted.request.cut c.args.input.now) c.args.writer.now c.draw_script.new.writer
    OfScript (λ end output so. so) c.draw_script.result c.map.result c.map.ensures.cases c.draw_script.ensures)

pub returns-in-Json-clause-written : goal.returns-in-Json-clause-written
returns-in-Json-clause-written g c =
    let wanted = c.args.wanted.now in
    rw c.in-Json.is
    (writes-as g.W.Sink.contents g.W.Sink.has_failed g.W.Sink.has_stalled (λ _. ⊤) (IsRunOf Json wanted wanted.request.cut c.args.input.now) c.args.writer.now c.draw_text.new.writer
    OfDocument (λ end output so. so) c.draw_text.result c.map-in-Json.result c.map-in-Json.ensures.cases c.draw_text.ensures)

pub returns-in-None-clause-written : goal.returns-in-None-clause-written
returns-in-None-clause-written g c =
    let wanted = c.args.wanted.now in
    let so : (end : CsvEnd) (output : List ℕ) → IsCsvRun wanted.request c.args.input.now end output → IsTextRun wanted.width wanted.request wanted.request.cut c.args.input.now end output =
    λ end output is. subst (λ width. IsTextRun width wanted.request wanted.request.cut c.args.input.now end output) (sym c.in-None.is) is in
    elim c.in-Csv.is [
      | inl is ↦ rw is
          (writes-as g.W.Sink.contents g.W.Sink.has_failed g.W.Sink.has_stalled IsPictured (IsRunOf Csv wanted wanted.request.cut c.args.input.now) c.args.writer.now c.draw_csv.new.writer
          OfText so c.draw_csv.result c.map-in-None.result c.map-in-None.ensures.cases c.draw_csv.ensures)
      | inr is ↦ rw is
          (writes-as g.W.Sink.contents g.W.Sink.has_failed g.W.Sink.has_stalled IsPictured (IsRunOf Tsv wanted wanted.request.cut c.args.input.now) c.args.writer.now c.draw_csv.new.writer
          OfText so c.draw_csv.result c.map-in-None.result c.map-in-None.ensures.cases c.draw_csv.ensures)
    ]

pub returns-in-Some-clause-written : goal.returns-in-Some-clause-written
returns-in-Some-clause-written g c =
    let wanted = c.args.wanted.now in
    let cut = c.draw_csv_within.new.request.cut in
    let so : (end : CsvEnd) (output : List ℕ) → IsRunWithin wanted.request c.in-Some.width c.args.input.now cut end output → IsTextRun wanted.width wanted.request cut c.args.input.now end output =
    λ end output is. subst (λ width. IsTextRun width wanted.request cut c.args.input.now end output) (sym c.in-Some.is) is in
    elim c.in-Csv.is [
      | inl is ↦ rw is
          (writes-as g.W.Sink.contents g.W.Sink.has_failed g.W.Sink.has_stalled IsPictured (IsRunOf Csv wanted cut c.args.input.now) c.args.writer.now c.draw_csv_within.new.writer
          OfText so c.draw_csv_within.result c.map-in-Some.result c.map-in-Some.ensures.cases c.draw_csv_within.ensures.runs)
      | inr is ↦ rw is
          (writes-as g.W.Sink.contents g.W.Sink.has_failed g.W.Sink.has_stalled IsPictured (IsRunOf Tsv wanted cut c.args.input.now) c.args.writer.now c.draw_csv_within.new.writer
          OfText so c.draw_csv_within.result c.map-in-Some.result c.map-in-Some.ensures.cases c.draw_csv_within.ensures.runs)
    ]
