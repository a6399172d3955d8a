-- What a run writes of a document.
use Rattle.std.proofs.Common.{ℕ, Bool, List, [], Option, Result, Ok, Err, refl, subst, sym}
use Rattle.std.specs.Prelude.{⊤}
use Rattle.papergrid_tracks.specs.declared.sizing.Sizing.{Sizing}
use Rattle.papergrid_draw.specs.Lined.{lined}
use Rattle.papergrid_draw.specs.Sinks.{IsRefusal, IsUndrawn, WritesPicture}
use Rattle.papergrid_draw.specs.declared.error.DrawError.{DrawError}
use Rattle.papergrid_draw.specs.declared.error.DrawError.TheVariants as draw_errors
use Rattle.papergrid_draw.proofs.SinkLemmas.{taken-none}
use Rattle.papergrid_script.specs.Writing.{WritesOutput}
use Rattle.papergrid_script.specs.declared.reading.RunFault.TheVariants as run_faults
use Rattle.papergrid_json.specs.Documents.{IsDocumentRead}
use Rattle.papergrid_json.specs.Pictures.{IsDocumentDrawing, IsDocumentFault}
use Rattle.papergrid_json.specs.declared.document.Document.{Document}
use Rattle.papergrid.proofs.RunLemmas.{picture-broken}
use Rattle.papergrid_table.specs.ForProofs.Drafts.{document_end}
use Rattle.papergrid_table.specs.Pictures.{IsDocumentRun}
use Rattle.papergrid_table.specs.declared.document.DocumentEnd.{DocumentEnd}
use Rattle.papergrid_table.specs.declared.document.DocumentEnd.TheVariants.{Drawn, Refused}

module _ {W : Type 0} (contents : W → Option (List ℕ)) (has_failed has_stalled : W → Bool) (sizing : Sizing) (text : List ℕ) where
  -- nothing was written, as it should be
  pub run-silent : (w : W) (end : DocumentEnd) → IsDocumentRun sizing text end [] → WritesOutput contents has_failed has_stalled (λ _. ⊤) (IsDocumentRun sizing text) w w (Ok end)
  run-silent w end so = ([], so, record { taken = taken-none contents has_failed has_stalled w; silent = λ _. refl })

  module _ (document : Document) (read : IsDocumentRead text (Ok document)) (old new : W) where
    refused : (e : DrawError) → IsRefusal e → IsUndrawn contents has_failed has_stalled (IsDocumentDrawing document sizing) (IsDocumentFault document sizing) lined old new e →
        WritesOutput contents has_failed has_stalled (λ _. ⊤) (IsDocumentRun sizing text) old new (Ok (Refused e))
    refused e named left =
        subst (λ w. WritesOutput contents has_failed has_stalled (λ _. ⊤) (IsDocumentRun sizing text) old w (Ok (Refused e))) (sym (left.nothing named))
        (run-silent old (Refused e) (document, read, named, left.fault named, refl))

    pub document-run : (drawn : Result ⊤ DrawError) → WritesPicture contents has_failed has_stalled (IsDocumentDrawing document sizing) (IsDocumentFault document sizing) lined old new drawn →
        WritesOutput contents has_failed has_stalled (λ _. ⊤) (IsDocumentRun sizing text) old new (document_end drawn)
    document-run (Ok drawn) so = (lined so.0, (document, read, (so.0, so.1, so.2, refl)), record { taken = so.3; silent = λ never. absurd (never tt) })
    document-run (Err (draw_errors.OutOfTable p)) so = refused (draw_errors.OutOfTable p) tt so
    document-run (Err (draw_errors.NotTiled p)) so = refused (draw_errors.NotTiled p) tt so
    document-run (Err (draw_errors.NoRoom p)) so = refused (draw_errors.NoRoom p) tt so
    document-run (Err draw_errors.TooLarge) so = refused draw_errors.TooLarge tt so
    document-run (Err (draw_errors.Memory e)) so =
        picture-broken contents has_failed has_stalled (IsDocumentDrawing document sizing) (IsDocumentFault document sizing) (IsDocumentRun sizing text) Drawn
        (λ d is drawable. (document, read, (d, is, drawable, refl))) old new (draw_errors.Memory e) run_faults.Memory (λ is. cc is) (λ is. cc is, λ is. cc is) so
    document-run (Err draw_errors.Write) so =
        picture-broken contents has_failed has_stalled (IsDocumentDrawing document sizing) (IsDocumentFault document sizing) (IsDocumentRun sizing text) Drawn
        (λ d is drawable. (document, read, (d, is, drawable, refl))) old new draw_errors.Write run_faults.Write (λ is. cc is) (λ is. refl, λ is. refl) so
