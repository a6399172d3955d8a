-- The pieces that the lines of a drawn table consist of.
use Rattle.std.specs.Prelude.{ℕ, ◌==◌, if◌then◌else◌, List, [], ◌∷◌, Option, encode_utf8_all, replicate}

-- what a piece is
pub data Kind : Type 0 where
  Padding : Kind
  Justification : Kind
  CellText : Kind
  Line : Kind
  Crossing : Kind

-- a text, how many columns of a terminal it counts for, and its colour
pub record Piece : Type 0 where
  pub kind : Kind
  pub text : List ℕ
  pub columns : ℕ
  pub color : Option (List ℕ × List ℕ)

-- a character so many times over, each of which counts for one column
abbrev pub fill_text : ℕ → ℕ → List ℕ
fill_text character n = encode_utf8_all (replicate n character)

-- as a piece; nothing where it is no times
abbrev pub fill : Kind → ℕ → ℕ → Option (List ℕ × List ℕ) → List Piece
fill kind character n color =
    if n == 0 then []
    else (record { kind = kind; text = fill_text character n; columns = n; color = color } ∷ [])
