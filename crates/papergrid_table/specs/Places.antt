-- Where something stands in a text: its line, and its byte or its character there. All are counted from 1.
use Rattle.std.specs.Prelude.{◌≡◌, ◌⊎◌, ◌+◌, ◌-◌, ◌||◌, ℕ, IsUtf8, count_by, drop, if◌then◌else◌, length, List, nat_eq, nat_le, not, slice_index, take, zip}
use Rattle.std.specs.List.{prefix_len, suffix_len}
use Rattle.std.specs.Fmt.{is_char_start}
use Rattle.std.specs.Str.{IsValidUpTo}
use Rattle.papergrid_csv.specs.Starts.{HasNoRecord, IsRecordStart}
use Rattle.papergrid_csv.specs.declared.reading.Reading.{Reading}
use Rattle.papergrid_table.specs.declared.compared.Difference.{Difference}
use Rattle.papergrid_table.specs.declared.places.Spot.{Spot}

-- how many line feeds, and one more
abbrev pub line_count : List ℕ → ℕ
line_count text = count_by (λ byte. nat_eq byte 10) text + 1

-- what stands behind the last line feed
abbrev pub last_line : List ℕ → List ℕ
last_line text = drop (length text - suffix_len (λ byte. not (nat_eq byte 10)) text) text

-- the line and the byte of what stands after so many bytes
abbrev pub spot_after : List ℕ → ℕ → Spot
spot_after text count = record { line = line_count (take count text); byte = length (last_line (take count text)) + 1 }

-- the character of its line which that byte begins, or is in
abbrev pub column_after : List ℕ → ℕ → ℕ
column_after text count = count_by is_char_start (last_line (take count text))
    + (if nat_le (length text) count || is_char_start (slice_index text count) then 1 else 0)

-- how many bytes of two texts are the same, before the first that differs
abbrev pub same_bytes : List ℕ → List ℕ → ℕ
same_bytes left right = prefix_len (λ (a, b). nat_eq a b) (zip left right)

-- where a picture differs first from a table
abbrev pub first_mismatch : List ℕ → List ℕ → Difference
first_mismatch picture table = record {
  line = line_count (take (same_bytes picture table) picture);
  column = column_after picture (same_bytes picture table);
}

-- the record of a text after so many others begins after so many bytes, or after none where there are fewer
abbrev pub IsStartOrNone : Reading → List ℕ → ℕ → ℕ → Type 0
IsStartOrNone reading text count start = IsRecordStart reading text count start ⊎ (HasNoRecord reading text count × (start ≡ 0))

-- the first byte of a text that is not UTF-8 stands after so many, or the text is UTF-8 and ends there
abbrev pub IsFirstBad : List ℕ → ℕ → Type 0
IsFirstBad text n = (¬ (IsUtf8 text) × IsValidUpTo text n) ⊎ (IsUtf8 text × (n ≡ length text))

-- the line of the first byte of the record after so many others, or the last line where there are fewer
abbrev pub IsLineOfRecord : Reading → List ℕ → ℕ → ℕ → Type 0
IsLineOfRecord reading text count line = (HasNoRecord reading text count × (line ≡ line_count text))
    ⊎ ((start : ℕ) × IsRecordStart reading text count start × (line ≡ line_count (take start text)))
