-- Where the pieces of a picture come from.
use Rattle.std.specs.Prelude.{◌≡◌, ◌⊎◌, ℕ, Contains, List}
use Rattle.papergrid_values.specs.declared.position.Position.{Position}
use Rattle.papergrid_layout.specs.Places.{IsVisibleCell}
use Rattle.papergrid_draw.specs.Characters.{Mark, crossing, segment, vertical}
use Rattle.papergrid_draw.specs.Contents.{Block, block_at, content, shown, shown_line}
use Rattle.papergrid_draw.specs.Drawings.{Drawing, layout_of}
use Rattle.papergrid_draw.specs.Laws.{text_piece}
use Rattle.papergrid_draw.specs.Pieces.{Piece, fill_text}
use Rattle.papergrid_draw.specs.Separated.{fills_of}

-- a piece of a picture is of a visible cell's content, or a vertical line, a crossing, or of a horizontal line
pub data IsOfTable (d : Drawing) (piece : Piece) : Type 0 where
  OfCell : (p : Position) → IsVisibleCell (layout_of d) p → (k : ℕ) → Contains (content (block_at d p) k) piece →
      IsOfTable d piece
  OfVertical : (p : Position) (k : ℕ) → piece ≡ vertical d.config d.shape p (d.heights p.row) k → IsOfTable d piece
  OfCrossing : (p : Position) → piece ≡ (crossing d.config d.shape p).piece → IsOfTable d piece
  OfSegment : (p : Position) (mark : Mark) → Contains (segment d.config d.shape p (d.widths p.col)) mark →
      piece ≡ mark.piece → IsOfTable d piece

-- a piece is a line of the cell's text as it is shown, or consists of a character that fills the cell's place
abbrev pub IsOfCell : Block → Piece → Type 0
IsOfCell b piece =
    ((line : List ℕ × ℕ) × Contains (shown b) line
    × (piece ≡ text_piece b (shown_line b.look.formatting.horizontal_trim line)))
    ⊎ ((character : ℕ) × (n : ℕ) × Contains (fills_of b.look) character × (piece.text ≡ fill_text character n))
