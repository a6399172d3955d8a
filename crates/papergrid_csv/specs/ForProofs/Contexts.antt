-- Where the bytes of a text stand, as far as it depends on quotes.
use Rattle.std.specs.Prelude.{◌≡◌, ◌<◌, ◌≤◌, ℕ, Bool, true, false, length, not, take, ◌==◌, ◌||◌, ◌&&◌, if◌then◌else◌, List, [], ◌∷◌}
use Rattle.papergrid_csv.specs.Starts.{is_line_end}
use Rattle.papergrid_csv.specs.declared.reading.Format.{Format}
use Rattle.papergrid_csv.specs.declared.reading.Format.TheVariants.{Csv, Tsv}
use Rattle.papergrid_csv.specs.declared.quotes.Context.{Context}
use Rattle.papergrid_csv.specs.declared.quotes.Context.TheVariants.{Field, Quote, Quoted, Start}

-- after a byte that is no quote that begins or ends a field
abbrev pub plain_context : ℕ → ℕ → Context
plain_context delimiter byte = if (byte == delimiter) || is_line_end byte then Start else Field

-- after a byte in a context
abbrev pub context_after : ℕ → Context → ℕ → Context
context_after delimiter Start byte = if byte == 34 then Quoted else plain_context delimiter byte
context_after delimiter Field byte = plain_context delimiter byte
context_after delimiter Quoted byte = if byte == 34 then Quote else Quoted
context_after delimiter Quote byte = if byte == 34 then Quoted else plain_context delimiter byte

-- after these bytes
unfoldable pub context_behind : ℕ → Context → List ℕ → Context
context_behind delimiter context [] = context
context_behind delimiter context (byte ∷ bytes) = context_behind delimiter (context_after delimiter context byte) bytes

-- between the quotes of a field, or right behind one that may close them
abbrev pub is_between : Context → Bool
is_between Quoted = true
is_between Quote = true
is_between context = false

-- after so many bytes of a text the last one stands outside of quotes
pub record IsLastOutside (delimiter : ℕ) (text : List ℕ) (count : ℕ) : Type 0 where
  pub outside : is_between (context_behind delimiter Start (take count text)) ≡ false
  pub inside : (k : ℕ) → count < k → k ≤ length text → is_between (context_behind delimiter Start (take k text)) ≡ true

-- ---- records

-- a byte in a context ends a record
abbrev pub ends_record : Format → Context → ℕ → Bool
ends_record (Csv delimiter) Quoted byte = false
ends_record (Csv delimiter) context byte = not (byte == delimiter) && is_line_end byte
ends_record Tsv context byte = is_line_end byte

-- after a byte in a context, by the format
abbrev pub context_by : Format → Context → ℕ → Context
context_by (Csv delimiter) context byte = context_after delimiter context byte
context_by Tsv context byte = plain_context 9 byte

-- what stands behind a record, and the byte that ends it, of which this is left
unfoldable pub behind_record : Format → Context → List ℕ → List ℕ
behind_record format context [] = []
behind_record format context (byte ∷ text) = if ends_record format context byte then text else behind_record format (context_by format context byte) text
