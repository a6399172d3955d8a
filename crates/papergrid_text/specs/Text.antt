-- The lines of a text, its measures and its tabs. A text is the list of its bytes. Byte 9 is a tab,
-- 10 a newline, 13 a carriage return, 32 a space and 92 a backslash.
use Rattle.std.specs.Prelude.{◌≡◌, ◌≢◌, ℕ, ◌<◌, ◌==◌, ◌&&◌, ◌||◌, List, [], ◌∷◌, ◌++◌, Option, Some, None, length, map, max, not, if◌then◌else◌, Bool, false, replicate, chars}
use Rattle.std.specs.List.{slice_split, join_with_byte, All, flat_map, zip}
use Rattle.std.specs.Str.{encode_utf8_all}
use Rattle.std.specs.Str.Lines.{lines}
use Rattle.unicode_width.specs.Width.{str_width}

-- ---- lines

-- no byte of the text is a newline
abbrev pub HasNoNewline : List ℕ → Type 0
HasNoNewline text = All (λ b. b ≢ 10) text

-- there is a part, none has a newline, and joined by newlines they are the text
pub record IsLines (text : List ℕ) (parts : List (List ℕ)) : Type 0 where
  pub some : 0 < length parts
  pub plain : All HasNoNewline parts
  pub joined : join_with_byte 10 parts ≡ text

-- the lines of a text: the one list of parts as above
abbrev pub split_lines : List ℕ → List (List ℕ)
split_lines text = slice_split (λ b. b == 10) text

-- ---- measures

-- the width of a text, in columns of a terminal
abbrev pub width_of : List ℕ → ℕ
width_of text = str_width false (chars text)

-- the greatest width of the parts, 0 where there is none
abbrev pub greatest_width : List (List ℕ) → ℕ
greatest_width [] = 0
greatest_width (part ∷ parts) = max (width_of part) (greatest_width parts)

-- the greatest width of std's lines
abbrev pub text_width : List ℕ → ℕ
text_width text = greatest_width (lines text)

-- the number of lines, and the greatest width of them
abbrev pub text_dimension : List ℕ → ℕ × ℕ
text_dimension text = (length (split_lines text), greatest_width (split_lines text))

-- no carriage return stands right before a newline
abbrev pub HasNoCrLf : List ℕ → Type 0
HasNoCrLf text = (front back : List ℕ) → text ≢ front ++ (13 ∷ 10 ∷ back)

-- a line with its width
abbrev pub with_width : List ℕ → List ℕ × ℕ
with_width line = (line, width_of line)

-- the lines that `Text::new` keeps of the lines of a text: none where there is only one
abbrev pub cached_by_new : List (List ℕ) → List (List ℕ × ℕ)
cached_by_new [] = []
cached_by_new (line ∷ []) = []
cached_by_new (line ∷ next ∷ more) = map with_width (line ∷ next ∷ more)

-- ---- tabs

-- whether spaces stand for the character c, whose left neighbour is `left`. They do for a tab,
-- except, where n is not 4, for one right after a backslash
abbrev pub is_spaced : ℕ → ℕ → ℕ → Bool
is_spaced n left c = (c == 9) && ((n == 4) || not (left == 92))

-- what stands for a character, which comes with its left neighbour
abbrev pub in_place_of : ℕ → ℕ × ℕ → List ℕ
in_place_of n pair = if is_spaced n pair.0 pair.1 then replicate n 32 else pair.1 ∷ []

-- the text with n spaces for its tabs, by each character with its left neighbour, 0 for the first
abbrev pub tabs_replaced : ℕ → List ℕ → List ℕ
tabs_replaced n text =
    encode_utf8_all (flat_map (in_place_of n) (zip (0 ∷ chars text) (chars text)))

-- ---- one character

-- the only one of these; none where there are none, or several
abbrev pub only : List ℕ → Option ℕ
only [] = None
only (c ∷ []) = Some c
only (c ∷ next ∷ cs) = None

-- the character that a text is, if it is exactly one
unfoldable pub character_of : List ℕ → Option ℕ
character_of text = only (chars text)
