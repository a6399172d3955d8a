-- What is added to a line.
use Rattle.std.specs.Prelude.{◌≡◌, ℕ, ◌==◌, if◌then◌else◌, List, [], ◌∷◌, ◌++◌, Option, Some, None}
use Rattle.papergrid_draw.specs.Bytes.{colored, stretches_bytes, used_at_end}
use Rattle.papergrid_draw.specs.Characters.{Mark}
use Rattle.papergrid_draw.specs.Contents.{Block, content}
use Rattle.papergrid_draw.specs.Drawn.{Over, Stretch}
use Rattle.papergrid_draw.specs.Pieces.{Line, fill_text}

-- a character so many times in a colour; nothing, no colour either, where it is no times
abbrev pub fill_bytes : Option (List ℕ × List ℕ) → ℕ → ℕ → List ℕ
fill_bytes color character n = if n == 0 then [] else colored color (fill_text character n)

-- a character of a horizontal line in the colour of the line, with one of its own or none
abbrev pub line_mark : Option (List ℕ × List ℕ) → Option (List ℕ × List ℕ) → ℕ → Mark
line_mark color own character = record {
  piece = record { kind = Line; text = fill_text character 1; columns = 1; color = color };
  own = own;
}

-- some stretches of a horizontal line are added to its bytes, and change the colour in use
pub record AddsStretches (old new : Option (List ℕ × List ℕ)) (before after : List ℕ) (stretches : List Stretch)
    : Type 0 where
  pub bytes : after ≡ before ++ stretches_bytes old stretches
  pub used : new ≡ used_at_end old stretches

-- the line of a cell, if it begins here, as a stretch of a horizontal line
abbrev pub stretches_over : Option Block → ℕ → List Stretch
stretches_over None k = []
stretches_over (Some block) k = Over (content block k) ∷ []
