-- Which colour each text of a line has, and what a table is without colours.
use Rattle.std.specs.Prelude.{◌≡◌, ℕ, List, [], ◌∷◌, None, Option, flat_map, map}
use Rattle.std.specs.Option.{option_or}
use Rattle.papergrid_config.specs.declared.spanned.SpannedConfig.{SpannedConfig}
use Rattle.papergrid_draw.specs.Bytes.{colored}
use Rattle.papergrid_draw.specs.Drawings.{Drawing}
use Rattle.papergrid_draw.specs.Drawn.{DrawnLine, OnLine, Over, RuleLine, Stretch, TextLine}
use Rattle.papergrid_draw.specs.Pieces.{Piece}

-- a text with its colour, or none
abbrev pub Ink : Type 0
Ink = Option (List ℕ × List ℕ) × List ℕ

-- the text of a piece with its colour
abbrev pub piece_ink : Piece → Ink
piece_ink piece = (piece.color, piece.text)

-- those of a stretch of a horizontal line: a mark has its own colour, or else that of the line
abbrev pub stretch_inks : Stretch → List Ink
stretch_inks (OnLine mark) = (option_or mark.own mark.piece.color, mark.piece.text) ∷ []
stretch_inks (Over pieces) = map piece_ink pieces

-- the texts of a line with their colours, from left to right
abbrev pub inks_of : DrawnLine → List Ink
inks_of (TextLine pieces) = map piece_ink pieces
inks_of (RuleLine stretches) = flat_map stretch_inks stretches

-- bytes in blocks. Each is the beginning of a colour, some texts of that colour, and its end, or texts without colour.
-- In order the texts are these, each in a block of its colour
pub record AreInBlocks (inks : List Ink) (bytes : List ℕ) : Type 0 where
  pub blocks : List (Option (List ℕ × List ℕ) × List (List ℕ))
  pub written : bytes ≡ flat_map (λ block. colored block.0 (flat_map (λ text. text) block.1)) blocks
  pub texts : flat_map (λ block. map (λ text. (block.0, text)) block.1) blocks ≡ inks

-- the first with the colours of the second
abbrev pub with_colors_of : SpannedConfig → SpannedConfig → SpannedConfig
with_colors_of x y = record x {
  padding_color = y.padding_color;
  justification_color = y.justification_color;
  colors = y.colors;
  horizontal_colors = y.horizontal_colors;
  vertical_colors = y.vertical_colors;
  margin_color = y.margin_color;
}

-- two configurations differ in colours at most
abbrev pub DifferInColors : SpannedConfig → SpannedConfig → Type 0
DifferInColors x y = y ≡ with_colors_of x y

-- two drawings do
pub record AreAlikeButColors (d e : Drawing) : Type 0 where
  pub config : DifferInColors d.config e.config
  pub widths : d.widths ≡ e.widths
  pub heights : d.heights ≡ e.heights
  pub shape : d.shape ≡ e.shape
  pub lines : d.lines ≡ e.lines

-- a piece without its colour
abbrev pub uncolored : Piece → Piece
uncolored piece = record piece { color = None }
