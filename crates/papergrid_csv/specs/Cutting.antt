-- Texts whose lines are cut.
use Rattle.std.specs.Prelude.{◌≡◌, ◌⊎◌, ◌<◌, ◌≤◌, ◌+◌, ◌++◌, ℕ, List, [], ◌∷◌, chars, encode_utf8_all, length, take}
use Rattle.std.specs.List.{AllZip, join_with_byte}
use Rattle.papergrid_text.specs.Text.{split_lines, width_of}

-- so many characters of a line, and an ellipsis
abbrev pub shortened : ℕ → List ℕ → List ℕ
shortened count line = encode_utf8_all (take count (chars line) ++ 0x2026 ∷ [])

-- of a wide line this is shown: so many of its characters and an ellipsis. With the ellipsis each of its beginnings up to
-- there takes at most so many columns, and the one with the next character takes more
pub record IsShortened (columns : ℕ) (line shown : List ℕ) : Type 0 where
  pub count : ℕ
  pub wide : columns < width_of line
  pub within : count < length (chars line)
  pub fits : (m : ℕ) → 1 ≤ m → m ≤ count → width_of (shortened m line) ≤ columns
  pub next : columns < width_of (shortened (count + 1) line)
  pub is : shown ≡ shortened count line

-- what is shown of a line: all of it where it takes at most so many columns
abbrev pub IsCutLine : ℕ → List ℕ → List ℕ → Type 0
IsCutLine columns line shown = ((width_of line ≤ columns) × (shown ≡ line)) ⊎ IsShortened columns line shown

-- what is shown of a text: each of its lines cut
pub record IsCut (columns : ℕ) (text shown : List ℕ) : Type 0 where
  pub lines : List (List ℕ)
  pub each : AllZip (IsCutLine columns) (split_lines text) lines
  pub joined : shown ≡ join_with_byte 10 lines
