-- What a run writes of its input, by what is wanted.
use Rattle.std.specs.Prelude.{◌≡◌, ℕ, List, [], Option, None, Some, Ok, IsUtf8}
use Rattle.papergrid_tracks.specs.declared.sizing.Sizing.{Sizing}
use Rattle.papergrid_draw.specs.Drawings.{Drawing}
use Rattle.papergrid_draw.specs.Faults.{IsDrawable}
use Rattle.papergrid_draw.specs.Lined.{lined}
use Rattle.papergrid_draw.specs.Sinks.{IsRefusal}
use Rattle.papergrid_csv.specs.Pictures.{IsCsvRun}
use Rattle.papergrid_csv.specs.Within.{IsRunWithin, cut_request}
use Rattle.papergrid_csv.specs.declared.request.Request.{Request}
use Rattle.papergrid_csv.specs.declared.run.CsvEnd.{CsvEnd}
use Rattle.papergrid_json.specs.Documents.{IsDocumentRead, document_in}
use Rattle.papergrid_json.specs.Pictures.{IsDocumentDrawing, IsDocumentFault}
use Rattle.papergrid_json.specs.declared.document.Document.{Document}
use Rattle.papergrid.specs.Pictures.{IsPictureRun}
use Rattle.papergrid_table.specs.declared.arguments.Kind.{Kind}
use Rattle.papergrid_table.specs.declared.arguments.Kind.TheVariants.{Csv, Json, Script, Tsv}
use Rattle.papergrid_table.specs.declared.arguments.Wanted.{Wanted}
use Rattle.papergrid_table.specs.declared.document.DocumentEnd.{DocumentEnd}
use Rattle.papergrid_table.specs.declared.document.DocumentEnd.TheVariants as documents
use Rattle.papergrid_table.specs.declared.picture.End.{End}
use Rattle.papergrid_table.specs.declared.picture.End.TheVariants.{OfDocument, OfScript, OfText}

-- how the run of a JSON text ends, and what is written: the lines of the picture of the document that it tells, which can be
-- drawn, or nothing
abbrev pub IsDocumentRun : Sizing → List ℕ → DocumentEnd → List ℕ → Type 0
IsDocumentRun sizing text documents.Drawn output =
    (document : Document) × IsDocumentRead text (Ok document) × ((d : Drawing) × IsDocumentDrawing document sizing d × IsDrawable d × (output ≡ lined d))
IsDocumentRun sizing text (documents.Refused e) output =
    (document : Document) × IsDocumentRead text (Ok document) × IsRefusal e × IsDocumentFault document sizing e × (output ≡ [])
IsDocumentRun sizing text documents.Bad output = (IsUtf8 text → document_in text ≡ None) × (output ≡ [])

-- the same of a CSV or TSV text, whose fields are cut so where a width is wanted
abbrev pub IsTextRun : Option ℕ → Request → Option ℕ → List ℕ → CsvEnd → List ℕ → Type 0
IsTextRun None request cut text end output = IsCsvRun request text end output
IsTextRun (Some width) request cut text end output = IsRunWithin request width text cut end output

-- of a kind of input
abbrev pub IsRunOf : Kind → Wanted → Option ℕ → List ℕ → End → List ℕ → Type 0
IsRunOf Script wanted cut input (OfScript end) output = IsPictureRun wanted.request.sizing input end output
IsRunOf Json wanted cut input (OfDocument end) output = IsDocumentRun wanted.request.sizing input end output
IsRunOf Csv wanted cut input (OfText end) output = IsTextRun wanted.width wanted.request cut input end output
IsRunOf Tsv wanted cut input (OfText end) output = IsTextRun wanted.width wanted.request cut input end output
IsRunOf kind wanted cut input end output = ⊥

-- what is wanted has the cut that was found for a width, and else is as it was
abbrev pub IsCutTo : Option ℕ → Wanted → Wanted → Type 0
IsCutTo None old new = new ≡ old
IsCutTo (Some width) old new = new ≡ record old { request = cut_request old.request width new.request.cut }

-- only the fields of a text are cut
abbrev pub IsCutOf : Kind → Wanted → Wanted → Type 0
IsCutOf Csv old new = IsCutTo old.width old new
IsCutOf Tsv old new = IsCutTo old.width old new
IsCutOf kind old new = new ≡ old
