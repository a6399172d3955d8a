-- The bytes of the lines of a drawn table.
use Rattle.std.specs.Prelude.{ℕ, if◌then◌else◌, List, [], ◌∷◌, ◌++◌, Option, Some, None}
use Rattle.std.specs.List.{flat_map}
use Rattle.std.specs.Option.{option_eq}
use Rattle.papergrid_values.specs.Colors.{same_texts}
use Rattle.papergrid_draw.specs.Characters.{Mark}
use Rattle.papergrid_draw.specs.Drawn.{DrawnLine, OnLine, Over, RuleLine, Stretch, TextLine}
use Rattle.papergrid_draw.specs.Pieces.{Piece}

-- the text before what has a colour
abbrev pub prefix_of : Option (List ℕ × List ℕ) → List ℕ
prefix_of None = []
prefix_of (Some color) = color.0

-- the text after it
abbrev pub suffix_of : Option (List ℕ × List ℕ) → List ℕ
suffix_of None = []
suffix_of (Some color) = color.1

-- a text in a colour, or in none
abbrev pub colored : Option (List ℕ × List ℕ) → List ℕ → List ℕ
colored color text = prefix_of color ++ text ++ suffix_of color

-- a piece that stands alone
abbrev pub piece_bytes : Piece → List ℕ
piece_bytes piece = colored piece.color piece.text

-- pieces one by one
abbrev pub pieces_bytes : List Piece → List ℕ
pieces_bytes pieces = flat_map piece_bytes pieces

-- from the colour in use to another: the end of the one and the beginning of the other, where they differ
abbrev pub switch : Option (List ℕ × List ℕ) → Option (List ℕ × List ℕ) → List ℕ
switch used color = if option_eq same_texts used color then [] else suffix_of used ++ prefix_of color

-- a piece of a horizontal line, whose colour is in use. Where the piece has a colour of its own, the one in use is
-- left and begun again
abbrev pub mark_bytes : Mark → List ℕ
mark_bytes mark = mark_of mark.own
  where
    mark_of : Option (List ℕ × List ℕ) → List ℕ
    mark_of None = mark.piece.text
    mark_of (Some own) = suffix_of mark.piece.color ++ colored (Some own) mark.piece.text ++ prefix_of mark.piece.color

-- a stretch of a horizontal line after a colour in use, which ends before a cell that stands over the line
abbrev pub stretch_bytes : Option (List ℕ × List ℕ) → Stretch → List ℕ
stretch_bytes used (OnLine mark) = switch used mark.piece.color ++ mark_bytes mark
stretch_bytes used (Over pieces) = suffix_of used ++ pieces_bytes pieces

-- the colour in use after it
abbrev pub used_after : Stretch → Option (List ℕ × List ℕ)
used_after (OnLine mark) = mark.piece.color
used_after (Over pieces) = None

-- stretches from left to right
abbrev pub stretches_bytes : Option (List ℕ × List ℕ) → List Stretch → List ℕ
stretches_bytes used [] = []
stretches_bytes used (stretch ∷ more) = stretch_bytes used stretch ++ stretches_bytes (used_after stretch) more

-- the colour in use after the last
abbrev pub used_at_end : Option (List ℕ × List ℕ) → List Stretch → Option (List ℕ × List ℕ)
used_at_end used [] = used
used_at_end used (stretch ∷ more) = used_at_end (used_after stretch) more

-- a horizontal line: its stretches, and the end of the colour in use
abbrev pub rule_bytes : List Stretch → List ℕ
rule_bytes stretches = stretches_bytes None stretches ++ suffix_of (used_at_end None stretches)

-- a line
abbrev pub line_bytes : DrawnLine → List ℕ
line_bytes (TextLine pieces) = pieces_bytes pieces
line_bytes (RuleLine stretches) = rule_bytes stretches
