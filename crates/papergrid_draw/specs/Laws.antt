-- What is seen of a picture: which pieces stand where in its lines.
use Rattle.std.specs.Prelude.{◌≡◌, ◌≤◌, ◌++◌, ℕ, All, List, [], ◌∷◌, Some, flat_map, map, slice_get, sum_by}
use Rattle.papergrid_values.specs.declared.direction.Direction.TheVariants.{Columns}
use Rattle.papergrid_values.specs.declared.position.Position.{Position}
use Rattle.papergrid_text.specs.Text.{split_lines, width_of, with_width}
use Rattle.papergrid_walk.specs.Cells.{side}
use Rattle.papergrid_layout.specs.Laws.{IsCellAt}
use Rattle.papergrid_draw.specs.Contents.{Block}
use Rattle.papergrid_draw.specs.Drawings.{Drawing}
use Rattle.papergrid_draw.specs.Drawn.{DrawnLine, OnLine, Over, RuleLine, Stretch, TextLine, drawn_lines}
use Rattle.papergrid_draw.specs.Pieces.{CellText, Piece}

-- the pieces of a stretch of a horizontal line
abbrev pub stretch_pieces : Stretch → List Piece
stretch_pieces (OnLine mark) = mark.piece ∷ []
stretch_pieces (Over pieces) = pieces

-- those of a line, from left to right
abbrev pub pieces_of : DrawnLine → List Piece
pieces_of (TextLine pieces) = pieces
pieces_of (RuleLine stretches) = flat_map stretch_pieces stretches

-- the columns of a terminal that pieces count for
abbrev pub terminal_columns : List Piece → ℕ
terminal_columns pieces = sum_by (λ (piece : Piece). piece.columns) pieces

-- among the pieces of a line some stand together, from column x on
abbrev pub StandAt : List Piece → ℕ → List Piece → Type 0
StandAt line x pieces =
    (front : List Piece) × (back : List Piece) × (line ≡ front ++ (pieces ++ back)) × (terminal_columns front ≡ x)

-- in line y of the table, counted from its top, some pieces stand together, from column x on
abbrev pub AreDrawnAt : Drawing → ℕ → ℕ → List Piece → Type 0
AreDrawnAt d x y pieces =
    (line : DrawnLine) × (slice_get (drawn_lines d) y ≡ Some line) × StandAt (pieces_of line) x pieces

-- the text of a line of a cell, as a piece
abbrev pub text_piece : Block → List ℕ × ℕ → Piece
text_piece b line = record { kind = CellText; text = line.0; columns = line.1; color = b.color }

-- lines of which none is narrower than its text or wider than this
abbrev pub AreNoWider : ℕ → List (List ℕ × ℕ) → Type 0
AreNoWider width lines = All (λ line. (width_of line.0 ≤ line.1) × (line.1 ≤ width)) lines

-- such are the lines at a position, by the measure of the cell that the rows have there. There are none where they have none
pub record AreMeasuredAt {C : Type 0} (measure : C → ℕ × ℕ) (rows : List (List C)) (p : Position)
    (lines : List (List ℕ × ℕ)) : Type 0 where
  pub of_cell : (cell : C) → IsCellAt rows p cell → AreNoWider (side Columns (measure cell)) lines
  pub of_none : ((cell : C) → IsCellAt rows p cell → ⊥) → lines ≡ []

-- the lines at a position are those of the text of the cell that the rows have there. There are none where they have none
pub record AreLinesAt {C : Type 0} (text : C → List ℕ) (rows : List (List C)) (p : Position)
    (lines : List (List ℕ × ℕ)) : Type 0 where
  pub of_cell : (cell : C) → IsCellAt rows p cell → lines ≡ map with_width (split_lines (text cell))
  pub of_none : ((cell : C) → IsCellAt rows p cell → ⊥) → lines ≡ []
