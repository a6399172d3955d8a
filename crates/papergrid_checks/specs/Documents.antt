-- What a caller asks of the picture of a JSON document.
use Rattle.std.specs.Prelude.{◌≡◌, ℕ, List, Ok}
use Rattle.papergrid_draw.specs.Drawings.{Drawing}
use Rattle.papergrid_draw.specs.Faults.{IsDrawable}
use Rattle.papergrid_draw.specs.Lined.{lined}
use Rattle.papergrid_tracks.specs.declared.sizing.Sizing.TheVariants.{ByShares}
use Rattle.papergrid_json.specs.Documents.{IsDocumentRead}
use Rattle.papergrid_json.specs.Pictures.{IsDocumentDrawing}
use Rattle.papergrid_json.specs.declared.document.Document.{Document}

-- these are the lines of the picture of the document that a JSON text describes, with sizes by shares
abbrev pub IsOfDocument : List ℕ → List ℕ → Type 0
IsOfDocument text output =
    (document : Document) × IsDocumentRead text (Ok document)
    × ((d : Drawing) × IsDocumentDrawing document ByShares d × IsDrawable d × (output ≡ lined d))
