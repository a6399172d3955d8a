-- The lines that a `Text` keeps.
use Rattle.std.specs.Prelude.{ℕ, ◌≤◌, List, [], ◌∷◌, map, slice_range}
use Rattle.std.specs.List.{All}
use Rattle.std.specs.Str.{IsCharBoundary}
use Rattle.std.specs.Cow.{cow_str_bytes}
use Rattle.papergrid_text.specs.declared.line_cache.LineRange.{LineRange}
use Rattle.papergrid_text.specs.declared.line_cache.StrWithWidth.{StrWithWidth}
use Rattle.papergrid_text.specs.declared.line_cache.LineCache.{LineCache}
use Rattle.papergrid_text.specs.declared.line_cache.LineCache.TheVariants.{Ranges, Given}

-- a range lies in the text, between characters
pub record IsInsideText (text : List ℕ) (range : LineRange) : Type 0 where
  pub in_order : range.start ≤ range.end
  pub begins : IsCharBoundary text range.start
  pub ends : IsCharBoundary text range.end

-- the ranges that are kept
abbrev pub ranges_of : LineCache → List LineRange
ranges_of (Ranges v) = v.items
ranges_of (Given v) = []

-- each range lies in the text
abbrev pub AreInside : List ℕ → LineCache → Type 0
AreInside text kept = All (IsInsideText text) (ranges_of kept)

-- the line at a range, and a line that was given, each with its width
abbrev pub line_of_range : List ℕ → LineRange → List ℕ × ℕ
line_of_range text range = (slice_range text range.start range.end, range.width)

-- a line that was given, with its width
abbrev pub given_line : StrWithWidth → List ℕ × ℕ
given_line line = (cow_str_bytes line.text, line.width)

-- the lines kept of a text
abbrev pub cached_lines : List ℕ → LineCache → List (List ℕ × ℕ)
cached_lines text (Ranges v) = map (line_of_range text) v.items
cached_lines text (Given v) = map given_line v.items

-- the lines answered: where none is kept, the whole text with its width
abbrev pub answered_lines : List ℕ → ℕ → List (List ℕ × ℕ) → List (List ℕ × ℕ)
answered_lines text width [] = (text, width) ∷ []
answered_lines text width (line ∷ lines) = line ∷ lines
