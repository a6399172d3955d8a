-- Simple characters: those that are told by ranges, and take none, one or two columns whatever stands around them among such characters,
-- but for the Arabic lam, which joins an alef after it.
use Rattle.std.specs.Prelude.{◌≡◌, ℕ, ◌+◌, ◌<◌, ◌≤◌, Bool, true, false, ◌||◌, ◌==◌, ◌++◌, List, length, take, drop, get_or, Option, Some, None, chars, encode_utf8, if◌then◌else◌}
use Rattle.std.specs.Int.{is_in_range}
use Rattle.std.specs.List.{list_all}
use Rattle.std.specs.Str.{IsCharBoundary}
use Rattle.unicode_width.specs.declared.state.After.TheVariants.{Alef, Lamed}
use Rattle.unicode_width.specs.declared.state.State.{State}
use Rattle.unicode_width.specs.Width.{Reading, before, plain, read_before}

-- Latin and Greek letters with accents, punctuation, subscripts and currencies, symbols, lines and blocks
abbrev pub is_one_column : ℕ → Bool
is_one_column c =
    is_in_range 0x1E00 0x1FFF c || is_in_range 0x2010 0x2027 c || is_in_range 0x2080 0x20BF c || is_in_range 0x2100 0x22FF c || is_in_range 0x2500 0x25BF c

-- East Asian punctuation, kana, ideographs, Hangul and full forms of ASCII
abbrev pub is_two_columns : ℕ → Bool
is_two_columns c =
    is_in_range 0x3000 0x3029 c || is_in_range 0x3041 0x3096 c || is_in_range 0x30A0 0x30FF c || is_in_range 0x3400 0x9FFF c
    || is_in_range 0xAC00 0xD77F c || is_in_range 0xFF01 0xFF3F c

-- the columns of a character of three bytes
abbrev pub columns_of_three : ℕ → Option ℕ
columns_of_three c = if is_two_columns c then Some 2 else if is_one_column c then Some 1 else None

-- the marks of Devanagari that stand above or below a letter
abbrev pub is_devanagari_mark : ℕ → Bool
is_devanagari_mark c =
    is_in_range 0x900 0x902 c || (c == 0x93A) || (c == 0x93C) || is_in_range 0x941 0x948 c || (c == 0x94D) || is_in_range 0x951 0x957 c
    || is_in_range 0x962 0x963 c

-- the same of Thai
abbrev pub is_thai_mark : ℕ → Bool
is_thai_mark c = (c == 0xE31) || is_in_range 0xE34 0xE3A c || is_in_range 0xE47 0xE4E c

-- the columns of a character of Devanagari or Thai
abbrev pub columns_of_brahmic : ℕ → Option ℕ
columns_of_brahmic c =
    if is_devanagari_mark c || is_thai_mark c then Some 0
    else if is_in_range 0x900 0x97F c || is_in_range 0xE00 0xE7F c then Some 1
    else None

-- a letter of Hebrew or Arabic
abbrev pub is_semitic_letter : ℕ → Bool
is_semitic_letter c = is_in_range 0x5D0 0x5EA c || is_in_range 0x620 0x64A c

-- the Arabic letters that a lam before them joins
abbrev pub is_alef : ℕ → Bool
is_alef c = is_in_range 0x622 0x623 c || (c == 0x625) || (c == 0x627)

-- a lam may join a text that begins with this character: an alef, or a mark before one
abbrev pub may_join_lam : ℕ → Bool
may_join_lam c = is_alef c || is_in_range 0x300 0x36F c || is_devanagari_mark c || is_thai_mark c

-- what is known of a text that begins with this character, so that before it each simple character but lam has its own columns
pub data IsQuiet (first : ℕ) (s : State) : Type 0 where
  Plain : s ≡ plain → IsQuiet first s
  AtLamed : s ≡ before Lamed → IsQuiet first s
  AtAlef : s ≡ before Alef → may_join_lam first ≡ true → IsQuiet first s

-- the reading of a text of such a width that begins with this character
pub record Reads (first width : ℕ) (r : Reading) : Type 0 where
  pub counted : r.0 ≡ width
  pub quiet : IsQuiet first r.1

-- a text of this width before which each simple character but lam has its own columns
abbrev pub ReadsQuietly : List ℕ → ℕ → Type 0
ReadsQuietly text width = Reads (get_or (chars text) 0 0) width (read_before false (chars text) (0, plain))

-- the text begins with this character
abbrev pub BeginsWith : List ℕ → ℕ → Type 0
BeginsWith text c = (rest : List ℕ) × (text ≡ encode_utf8 c ++ rest)

-- so many bytes at the front have so many columns before all that reads quietly
pub record IsPiece (text : List ℕ) (columns count : ℕ) : Type 0 where
  pub boundary : IsCharBoundary text count
  pub some : 0 < count
  pub bound : columns ≤ count
  pub reads : (n : ℕ) → ReadsQuietly (drop count text) n → ReadsQuietly text (columns + n)

-- so many bytes at the front are printable ASCII
pub record IsPrintableFront (text : List ℕ) (count : ℕ) : Type 0 where
  pub within : count ≤ length text
  pub printable : list_all (is_in_range 0x20 0x7E) (take count text) ≡ true
