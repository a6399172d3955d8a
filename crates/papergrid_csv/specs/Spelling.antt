-- What the fields of a text stand for, and how those of their characters are spelled that would break the lines of a
-- table. These are control characters, and those that turn the direction of a text.
use Rattle.std.specs.Prelude.{ℕ, nat_le, ◌/◌, ◌%◌, ◌==◌, ◌||◌, ◌&&◌, ◌++◌, Bool, false, if◌then◌else◌, List, [], ◌∷◌, Option, None, Some, chars, codes, encode_utf8_all, flat_map, replicate}
use Rattle.std.specs.Fmt.{digit_glyph, digits}
use Rattle.std.specs.Int.{is_in_range}
use Rattle.papergrid_csv.specs.declared.reading.Format.{Format}
use Rattle.papergrid_csv.specs.declared.reading.Format.TheVariants.{Csv, Tsv}
use Rattle.papergrid_csv.specs.declared.reading.Reading.{Reading}

-- ---- what a field stands for

-- whether a backslash and this character stand for one: it is `t`, `n` or a backslash
abbrev pub is_escaped : ℕ → Bool
is_escaped c = (c == 0x74) || ((c == 0x6E) || (c == 0x5C))

-- for which: a tab, a line feed, or the backslash
abbrev pub escaped : ℕ → ℕ
escaped c = if c == 0x74 then 0x09 else (if c == 0x6E then 0x0A else c)

-- the characters for which these stand, where a backslash may begin such a pair; any other backslash stands for itself
unfoldable pub without_escapes : List ℕ → List ℕ
without_escapes [] = []
without_escapes (c ∷ []) = c ∷ []
without_escapes (c ∷ next ∷ rest) =
    if (c == 0x5C) && is_escaped next then escaped next ∷ without_escapes rest else c ∷ without_escapes (next ∷ rest)

-- the characters for which those of a field stand
abbrev pub meant : Format → List ℕ → List ℕ
meant (Csv delimiter) characters = characters
meant Tsv characters = without_escapes characters

-- ---- how it is spelled

-- the ASCII control characters
abbrev pub is_ascii_control : ℕ → Bool
is_ascii_control c = nat_le c 0x1F || (c == 0x7F)

-- other control characters, and those that turn the direction of a text
abbrev pub is_other_control : ℕ → Bool
is_other_control c = (is_in_range 0x80 0x9F c || is_in_range 0x202A 0x202E c) || is_in_range 0x2066 0x2069 c

-- a number below 256 in two hexadecimal digits with small letters
abbrev pub two_digits : ℕ → List ℕ
two_digits c = digit_glyph false (c / 16) ∷ digit_glyph false (c % 16) ∷ []

-- what stands for a character that is neither a line feed, a tab nor a carriage return, where none stays as it is
unfoldable pub spelled_other : ℕ → List ℕ
spelled_other c =
    if is_ascii_control c then codes "\\x" ++ two_digits c else
    (if is_other_control c then codes "\\u{" ++ (digits 16 false c ++ codes "}") else c ∷ [])

-- what stands for a tab: so many blanks, else itself where characters stay as they are
abbrev pub spelled_tab : Option ℕ → Bool → List ℕ
spelled_tab (Some blanks) raw = replicate blanks 0x20
spelled_tab None raw = if raw then 0x09 ∷ [] else codes "\\t"

-- what stands for a character that is neither a line feed nor a tab: itself where characters stay as they are
abbrev pub spelled_in_line : Bool → ℕ → List ℕ
spelled_in_line raw c = if raw then c ∷ [] else (if c == 0x0D then codes "\\r" else spelled_other c)

-- what stands for a character: a line feed begins a new line in its cell, unless a field is to have one line
unfoldable pub spelled_character : Reading → ℕ → List ℕ
spelled_character reading c =
    if c == 0x0A then (if reading.one_line then codes "\\n" else 0x0A ∷ []) else
    (if c == 0x09 then spelled_tab reading.tab reading.raw else spelled_in_line reading.raw c)

-- a field as it is shown: the characters for which it stands, each spelled
unfoldable pub spelled : Reading → List ℕ → List ℕ
spelled reading field = encode_utf8_all (flat_map (spelled_character reading) (meant reading.format (chars field)))
