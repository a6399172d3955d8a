-- Where a record of a text begins.
use Rattle.std.specs.Prelude.{◌≡◌, ◌≤◌, ◌+◌, ◌==◌, ◌||◌, ℕ, Bool, drop, length, List, [], Some}
use Rattle.std.specs.List.{prefix_len}
use Rattle.csv.specs.Machine.{Read, next_record}
use Rattle.csv.specs.Reading.{AreRecords, Reached, strip_bom}
use Rattle.csv.specs.declared.parser.State.{State}
use Rattle.csv.specs.declared.parser.State.TheVariants as states
use Rattle.papergrid_csv.specs.Rows.{config_of}
use Rattle.papergrid_csv.specs.declared.reading.Reading.{Reading}

-- a carriage return or a line feed
abbrev pub is_line_end : ℕ → Bool
is_line_end byte = (byte == 13) || (byte == 10)

-- without the line ends at its beginning, which are of no record
abbrev pub after_line_ends : List ℕ → List ℕ
after_line_ends text = drop (prefix_len is_line_end text) text

-- the record that has so many others before it begins after so many bytes of a text. Line ends before it are not its own
pub record IsRecordStart (reading : Reading) (input : List ℕ) (count start : ℕ) : Type 0 where
  pub before : List (List (List ℕ))
  pub state : State
  pub rest : List ℕ
  pub next : Read
  pub counted : length before ≡ count
  pub read : Reached (config_of reading) states.StartRecord (strip_bom input) before state rest
  pub found : next_record (config_of reading) state [] [] rest ≡ Some next
  pub begins : start + length (after_line_ends rest) ≡ length input

-- a text has no record with so many others before it
pub record HasNoRecord (reading : Reading) (input : List ℕ) (count : ℕ) : Type 0 where
  pub records : List (List (List ℕ))
  pub read : AreRecords (config_of reading) states.StartRecord (strip_bom input) records
  pub few : length records ≤ count
