-- How a caller reads a CSV text.
use Rattle.std.specs.Prelude.{None, false}
use Rattle.papergrid_csv.specs.declared.reading.Format.TheVariants.{Csv}
use Rattle.papergrid_csv.specs.declared.reading.Reading.{Reading}

-- a text with commas: control characters are spelled, and records may have unlike numbers of fields
abbrev pub commas : Reading
commas = record { format = Csv 0x2C; tab = None; one_line = false; raw = false; strict = false }
