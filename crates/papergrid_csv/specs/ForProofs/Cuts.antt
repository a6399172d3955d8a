-- Where a line is cut, by its characters.
use Rattle.std.specs.Prelude.{◌≡◌, ◌<◌, ◌≤◌, ◌++◌, ◌||◌, ℕ, All, Bool, List, [], ◌∷◌, chars, encode_utf8_all, if◌then◌else◌, length, take, false}
use Rattle.std.specs.Int.{is_in_range}
use Rattle.std.specs.Str.{IsCharBoundary}
use Rattle.unicode_width.specs.Width.{str_width}
use Rattle.papergrid_text.specs.Separators.{is_separator}
use Rattle.papergrid_text.specs.Text.{split_lines, width_of}
use Rattle.papergrid_csv.specs.Cutting.{IsCutLine}

-- letters of Latin, Greek and Cyrillic
abbrev pub is_narrow_letter : ℕ → Bool
is_narrow_letter c = is_in_range 0xC0 0x2FF c || is_in_range 0x370 0x47F c

-- kana, ideographs and Hangul
abbrev pub is_wide_letter : ℕ → Bool
is_wide_letter c =
    (is_in_range 0x3041 0x3096 c || is_in_range 0x30A0 0x30FF c) || (is_in_range 0x3400 0x9FFF c || is_in_range 0xAC00 0xD77F c)

-- a separator, or a letter that joins nothing after it
abbrev pub is_apart : ℕ → Bool
is_apart c = is_separator c || (is_narrow_letter c || is_wide_letter c)

-- each beginning of these characters is less than so many columns wide, so that an ellipsis fits after it
abbrev pub AllNarrow : ℕ → List ℕ → Type 0
AllNarrow columns characters = (m : ℕ) → 1 ≤ m → m ≤ length characters → str_width false (take m characters) < columns

-- the characters of a line up to this byte are narrow so, and with the next one they are not
pub record IsCutAt (columns : ℕ) (line : List ℕ) (count : ℕ) : Type 0 where
  pub kept : List ℕ
  pub next : ℕ
  pub left : List ℕ
  pub characters : chars line ≡ kept ++ next ∷ left
  pub taken : take count line ≡ encode_utf8_all kept
  pub boundary : IsCharBoundary line count
  pub narrow : AllNarrow columns kept
  pub wide : columns ≤ str_width false (kept ++ next ∷ [])

-- each line of a text takes at most so many columns
abbrev pub HasLinesWithin : ℕ → List ℕ → Type 0
HasLinesWithin columns text = All (λ line. width_of line ≤ columns) (split_lines text)

-- a line was added as it is cut, after a line feed where it is not the first
abbrev pub AddsLine : ℕ → List ℕ → Bool → List ℕ → List ℕ → Type 0
AddsLine columns line begins old new =
    (cut : List ℕ) × IsCutLine columns line cut × (new ≡ old ++ (if begins then cut else 10 ∷ cut))
