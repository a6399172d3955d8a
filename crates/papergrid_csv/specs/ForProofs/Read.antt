-- What was read of a text so far.
use Rattle.std.specs.Prelude.{◌≡◌, ℕ, ◌==◌, Bool, false, not, List, [], ◌∷◌, Some, length, map}
use Rattle.std.specs.Borrow.{Bor}
use Rattle.csv.specs.Reading.{AreRecords, Reached, Ready, source_of, strip_bom}
use Rattle.csv.specs.declared.error.ErrorKind.{ErrorKind}
use Rattle.csv.specs.declared.error.ErrorKind.TheVariants as kinds
use Rattle.csv.specs.declared.reader.Reader.{Reader}
use Rattle.csv.specs.declared.reader.Trim.TheVariants as trims
use Rattle.csv.specs.declared.parser.State.{State}
use Rattle.csv.specs.declared.parser.State.TheVariants as states
use Rattle.papergrid_csv.specs.Rows.{MayBeShown, config_of}
use Rattle.papergrid_csv.specs.Spelling.{spelled}
use Rattle.papergrid_csv.specs.declared.reading.Reading.{Reading}
use Rattle.papergrid_csv.specs.declared.reading.RowsError.{RowsError}
use Rattle.papergrid_csv.specs.declared.reading.RowsError.TheVariants.{Memory, NotText}

-- these are the fields of the records of a text, as they are shown
pub record AreShownFields (reading : Reading) (input : List ℕ) (shown : List (List (List ℕ))) : Type 0 where
  pub records : List (List (List ℕ))
  pub read : AreRecords (config_of reading) states.StartRecord (strip_bom input) records
  pub may : MayBeShown reading records
  pub are : shown ≡ map (map (spelled reading)) records

-- these are those of the first records, after which this is left to read, in this state
pub record AreShownFirst (reading : Reading) (input : List ℕ) (shown : List (List (List ℕ))) (state : State) (rest : List ℕ) : Type 0 where
  pub records : List (List (List ℕ))
  pub read : Reached (config_of reading) states.StartRecord (strip_bom input) records state rest
  pub may : MayBeShown reading records
  pub are : shown ≡ map (map (spelled reading)) records

-- a reader of a text has given these so far, and gives the others
abbrev pub IsReadSoFar : Reading → List ℕ → List (List (List ℕ)) → Reader (Bor (List ℕ)) → Type 0
IsReadSoFar reading input shown reader =
    (reader.trim ≡ trims.None) × Ready reader × (reader.config ≡ config_of reading)
    × (rest : List ℕ) × (source_of (λ (s : Bor (List ℕ)). Some s.now) reader ≡ Some rest)
    × AreShownFirst reading input shown reader.state rest

-- whether a record has another number of fields than the first of these
abbrev pub has_other_length : List (List (List ℕ)) → List (List ℕ) → Bool
has_other_length [] fields = false
has_other_length (first ∷ records) fields = not (length first == length fields)

-- what an error after so many records means
abbrev pub unread_of : ErrorKind → ℕ → RowsError
unread_of (kinds.Utf8 position err) before = NotText before
unread_of (kinds.Io e) before = Memory
unread_of (kinds.UnequalLengths position expected len) before = Memory
unread_of kinds.OutOfMemory before = Memory
unread_of (kinds.Serialize text) before = Memory
unread_of (kinds.Deserialize position err) before = Memory
