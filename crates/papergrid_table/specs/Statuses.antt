-- The status that the program ends with, by how a run ended.
use Rattle.std.specs.Prelude.{◌≡◌, ◌⊎◌, ◌&&◌, ℕ, Bool, Ok, false, nat_eq, not}
use Rattle.papergrid_script.specs.Statuses.{run_status}
use Rattle.papergrid_csv.specs.declared.run.CsvEnd.{CsvEnd}
use Rattle.papergrid_csv.specs.declared.run.CsvEnd.TheVariants as texts
use Rattle.papergrid_table.specs.declared.document.DocumentEnd.{DocumentEnd}
use Rattle.papergrid_table.specs.declared.document.DocumentEnd.TheVariants as documents
use Rattle.papergrid_table.specs.declared.picture.End.{End}
use Rattle.papergrid_table.specs.declared.picture.End.TheVariants.{OfDocument, OfScript, OfText}

-- of a text: 0 where its picture was written, 1 where it has none, and 2 where it or what is asked of it is bad
abbrev pub text_status : CsvEnd → ℕ
text_status texts.Drawn = 0
text_status (texts.Refused e) = 1
text_status (texts.TooWide width) = 1
text_status (texts.Hides position) = 1
text_status end = 2

-- the same of a document
abbrev pub document_status : DocumentEnd → ℕ
document_status documents.Drawn = 0
document_status (documents.Refused e) = 1
document_status documents.Bad = 2

-- of each kind of input
abbrev pub end_status : End → ℕ
end_status (OfText end) = text_status end
end_status (OfScript end) = run_status (Ok end)
end_status (OfDocument end) = document_status end

-- a run that ended so has its status, or that of a fault, where there is no memory for what is said of it. Of a table that was
-- drawn nothing is said, unless the cells that certify it are asked for
abbrev pub HasStatus : End → Bool → ℕ → Type 0
HasStatus end witness status =
    (status ≡ end_status end) ⊎ ((status ≡ 3) × ((nat_eq (end_status end) 0 && not witness) ≡ false))
