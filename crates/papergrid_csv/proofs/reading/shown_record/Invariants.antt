use Rattle.std.proofs.Common.{◌≡◌, map, take}
use Rattle.csv.specs.Records.{fields_of}
use Rattle.papergrid_csv.specs.Rows.{row_texts}
use Rattle.papergrid_csv.specs.Spelling.{spelled}
use Rattle.papergrid_csv.proofs.reading.shown_record.Given as goal

abbrev pub invariant-loop-field : goal.invariant-loop-field
invariant-loop-field l =
    (l.field-iterator.row.now ≡ l.fields) × (row_texts l.row ≡ map (spelled l.reading) (take l.field-iterator.at (fields_of l.fields)))
