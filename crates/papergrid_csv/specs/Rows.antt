-- The rows of a CSV or TSV text.
use Rattle.std.specs.Prelude.{◌≡◌, ◌<◌, ◌≤◌, ◌+◌, ◌-◌, ◌++◌, ℕ, All, Bool, List, [], ◌∷◌, Some, Vec, false, length, map, max, replicate, take, true, ⊤}
use Rattle.std.specs.Borrow.{Bor}
use Rattle.std.specs.declared.alloc.Global.{Global}
use Rattle.csv.specs.Machine.{Read, next_record, step}
use Rattle.csv.specs.Reading.{AreRecords, Reached, default_config, strip_bom}
use Rattle.csv.specs.Records.{AllText}
use Rattle.csv.specs.declared.parser.Config.{Config}
use Rattle.csv.specs.declared.parser.State.{State}
use Rattle.csv.specs.declared.parser.State.TheVariants as states
use Rattle.papergrid_csv.specs.declared.reading.Format.{Format}
use Rattle.papergrid_csv.specs.declared.reading.Format.TheVariants.{Csv, Tsv}
use Rattle.papergrid_csv.specs.declared.reading.Reading.{Reading}
use Rattle.papergrid_csv.specs.declared.reading.RowsError.{RowsError}
use Rattle.papergrid_csv.specs.declared.reading.RowsError.TheVariants.{Memory, NotText, Ragged, Unclosed}
use Rattle.papergrid_csv.specs.Spelling.{spelled}

-- how a text of a format is read. It is read by RFC 4180 with this byte between fields, or with
-- tabs between them and no quotes
abbrev pub config_by : Format → Config
config_by (Csv delimiter) = record default_config { delimiter = delimiter }
config_by Tsv = record default_config { delimiter = 9; quoting = false }

-- the same by a reading
abbrev pub config_of : Reading → Config
config_of reading = config_by reading.format

-- the state after these bytes
unfoldable pub state_after : Config → State → List ℕ → State
state_after config state [] = state
state_after config state (byte ∷ bytes) = state_after config (step config state byte).0 bytes

-- a quote that begins a field is not closed before the end of the text
abbrev pub IsUnclosed : Reading → List ℕ → Type 0
IsUnclosed reading input = state_after (config_of reading) states.StartRecord (strip_bom input) ≡ states.InQuoted

-- between the quotes of a field, or right behind one that may close them
abbrev pub is_quoted : State → Bool
is_quoted states.InQuoted = true
is_quoted states.AfterQuote = true
is_quoted state = false

-- the quote after so many bytes is not closed: what stands before it ends outside of quotes, and each longer beginning of
-- the text ends within them
pub record IsUnclosedFrom (reading : Reading) (input : List ℕ) (count : ℕ) : Type 0 where
  pub unclosed : IsUnclosed reading input
  -- how many they are without a byte order mark
  pub before : ℕ
  pub mark : count + length (strip_bom input) ≡ before + length input
  pub outside : is_quoted (state_after (config_of reading) states.StartRecord (take before (strip_bom input))) ≡ false
  pub inside : (k : ℕ) → before < k → k ≤ length (strip_bom input)
      → is_quoted (state_after (config_of reading) states.StartRecord (take k (strip_bom input))) ≡ true

-- each record has as many fields as the first
abbrev pub AllAsLong : List (List (List ℕ)) → Type 0
AllAsLong [] = ⊤
AllAsLong (first ∷ records) = All (λ fields. length fields ≡ length first) records

-- records that may be shown: each field is a text, and, where the reading is strict, all are as long as the first
pub record MayBeShown (reading : Reading) (records : List (List (List ℕ))) : Type 0 where
  pub texts : All AllText records
  pub long : reading.strict ≡ true → AllAsLong records

-- the number of fields of the first
abbrev pub first_length : List (List (List ℕ)) → ℕ
first_length [] = 0
first_length (row ∷ rows) = length row

-- the greatest number of fields
abbrev pub greatest_length : List (List (List ℕ)) → ℕ
greatest_length [] = 0
greatest_length (row ∷ rows) = max (length row) (greatest_length rows)

-- a row with empty fields up to this number
abbrev pub with_empty_fields : ℕ → List (List ℕ) → List (List ℕ)
with_empty_fields columns row = row ++ replicate (columns - length row) []

-- of a text these are the rows of its table, with so many fields each. They are its records, each field as it is shown,
-- with empty fields where a record has fewer than the longest
pub record AreRowsOf (reading : Reading) (input : List ℕ) (columns : ℕ) (rows : List (List (List ℕ))) : Type 0 where
  pub records : List (List (List ℕ))
  pub closed : IsUnclosed reading input → ⊥
  pub read : AreRecords (config_of reading) states.StartRecord (strip_bom input) records
  pub may : MayBeShown reading records
  pub widest : columns ≡ greatest_length records
  pub shown : rows ≡ map (λ record_fields. with_empty_fields columns (map (spelled reading) record_fields)) records

-- these are the fields of the record of a text right after some that may be shown
pub record IsNextRecord (reading : Reading) (input : List ℕ) (before : List (List (List ℕ))) (fields : List (List ℕ)) : Type 0 where
  pub closed : IsUnclosed reading input → ⊥
  pub may : MayBeShown reading before
  pub state : State
  pub rest : List ℕ
  pub next : Read
  pub read : Reached (config_of reading) states.StartRecord (strip_bom input) before state rest
  pub found : next_record (config_of reading) state [] [] rest ≡ Some next
  pub fields_are : fields ≡ next.0

-- the first record of it that has a field that is no text comes after so many
pub record HasBadRecord (reading : Reading) (input : List ℕ) (count : ℕ) : Type 0 where
  pub before : List (List (List ℕ))
  pub fields : List (List ℕ)
  pub counted : count ≡ length before
  pub next : IsNextRecord reading input before fields
  pub is_bad : AllText fields → ⊥

-- after so many records of it comes the first that has another number of fields than the first one. It has so many, and the
-- first one so many
pub record HasRaggedRecord (reading : Reading) (input : List ℕ) (count field_count first_count : ℕ) : Type 0 where
  pub strict : reading.strict ≡ true
  pub before : List (List (List ℕ))
  pub fields : List (List ℕ)
  pub counted : count ≡ length before
  pub fields_counted : field_count ≡ length fields
  pub first_counted : first_count ≡ first_length before
  pub next : IsNextRecord reading input before fields
  pub is_text : AllText fields
  pub is_ragged : AllAsLong (before ++ fields ∷ []) → ⊥

-- why a text has no rows; out of memory says nothing
abbrev pub IsUnread : Reading → List ℕ → RowsError → Type 0
IsUnread reading input (NotText count) = HasBadRecord reading input count
IsUnread reading input (Unclosed count) = IsUnclosedFrom reading input count
IsUnread reading input (Ragged count field_count first_count) = HasRaggedRecord reading input count field_count first_count
IsUnread reading input Memory = ⊤

-- the texts of the fields of a row
abbrev pub row_texts : Vec (Bor (List ℕ)) Global → List (List ℕ)
row_texts row = map (λ text. text.now) row.items

-- of each row
abbrev pub held_texts : Vec (Vec (Bor (List ℕ)) Global) Global → List (List (List ℕ))
held_texts rows = map row_texts rows.items
