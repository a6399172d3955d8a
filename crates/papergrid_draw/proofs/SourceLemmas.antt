-- Where the pieces of a picture come from.
use Rattle.std.proofs.Common.{◌≡◌, refl, subst, sym, inl, inr, ℕ, ◌+◌, ◌-◌, ◌<◌, ◌&&◌, Bool, true, false, List, [], ◌∷◌, ◌++◌, None, Option, Some, get_or, length, map, arith}
use Rattle.std.specs.Prelude.{◌==◌, All, Contains, if◌then◌else◌, nat_lt, not}
use Rattle.std.specs.List.{flat_map, range_with_len}
use Rattle.std.proofs.lemmas.Bool.{ltb-false, ltb-true}
use Rattle.std.proofs.lemmas.List.Elements.{All-append, All-cons, All-contains_itself, All-map, All-nil, All-weaker, Contains-get_or}
use Rattle.papergrid_values.specs.Positions.{position_of}
use Rattle.papergrid_values.specs.declared.direction.Direction.TheVariants.{Rows}
use Rattle.papergrid_values.specs.declared.position.Position.{Position}
use Rattle.papergrid_layout.specs.Places.{IsVisibleCell, begin_along, line_offset, track_line, track_size}
use Rattle.papergrid_draw.specs.Characters.{Mark, crossing, segment, vertical}
use Rattle.papergrid_draw.specs.Contents as contents
use Rattle.papergrid_draw.specs.Contents.{above, before, block_at, content, inner, line_pieces, shown, shown_line}
use Rattle.papergrid_draw.specs.Drawings.{Drawing, layout_of}
use Rattle.papergrid_draw.specs.Drawn.{OnLine, after_these, column_pieces, content_from, drawn_lines, draws_vertical, over_line, owner_at, rule_line, stands_over, stands_over_crossing, text_line, vertical_pieces}
use Rattle.papergrid_draw.specs.Laws.{pieces_of, stretch_pieces, text_piece}
use Rattle.papergrid_draw.specs.Pieces.{Justification, Kind, Padding, Piece, fill, fill_text}
use Rattle.papergrid_draw.specs.Separated.{fills_of}
use Rattle.papergrid_draw.specs.Sources.{IsOfCell, IsOfTable, OfCell, OfCrossing, OfSegment, OfVertical}
use Rattle.papergrid_draw.proofs.BlockLemmas.{Line}
use Rattle.papergrid_draw.proofs.DrawnLemmas.{All-drawn, All-joined}
use Rattle.papergrid_draw.proofs.HiddenLemmas.{over-within, owner-visible}
use Rattle.papergrid_draw.proofs.OverLemmas.{all-pieces, crossing_pieces, over_pieces, parts, pieces-on_line, rule_pieces}

module _ (d : Drawing) where
  abbrev AreOfTable : List Piece → Type 0
  AreOfTable pieces = All (IsOfTable d) pieces

  -- ---- lines of the table

  of-vertical : (r j k : ℕ) → AreOfTable (vertical_pieces d r j k)
  of-vertical r j k = in_case (draws_vertical d j)
    where
      in_case : (line : Bool) → AreOfTable (if line then vertical d.config d.shape (position_of (r, j)) (d.heights r) k ∷ [] else [])
      in_case true = All-cons (IsOfTable d) _ [] (OfVertical (position_of (r, j)) k refl) (All-nil (IsOfTable d))
      in_case false = All-nil (IsOfTable d)

  of-crossing : (i j : ℕ) → AreOfTable (crossing_pieces d i j)
  of-crossing i j = in_case (draws_vertical d j && not (stands_over_crossing d i j))
    where
      in_case : (line : Bool) → AreOfTable (flat_map stretch_pieces (if line then OnLine (crossing d.config d.shape (position_of (i, j))) ∷ [] else []))
      in_case true = All-cons (IsOfTable d) _ [] (OfCrossing (position_of (i, j)) refl) (All-nil (IsOfTable d))
      in_case false = All-nil (IsOfTable d)

  of-segment : (i c : ℕ) → AreOfTable (map (λ (mark : Mark). mark.piece) (segment d.config d.shape (position_of (i, c)) (d.widths c)))
  of-segment i c =
      let marks : List Mark = segment d.config d.shape (position_of (i, c)) (d.widths c) in
      All-map (IsOfTable d) (λ (mark : Mark). mark.piece) marks
      (All-weaker (Contains marks) (λ mark. IsOfTable d mark.piece) (λ mark within. OfSegment (position_of (i, c)) mark within refl) marks (All-contains_itself marks))

  -- ---- cells

  of-content : (o : Position) → IsVisibleCell (layout_of d) o → (k : ℕ) → AreOfTable (content (block_at d o) k)
  of-content o cell k =
      let pieces : List Piece = content (block_at d o) k in
      All-weaker (Contains pieces) (IsOfTable d) (λ piece within. OfCell o cell k within) pieces (All-contains_itself pieces)

  -- what stands there, if anything does
  abbrev IsAnyOfTable : Option (List Piece) → Type 0
  IsAnyOfTable None = Unit {0}
  IsAnyOfTable (Some pieces) = AreOfTable pieces

  of-column : (r c y : ℕ) → r < d.shape.0 → c < d.shape.1 → IsAnyOfTable (content_from d (owner_at d r c) c y)
  of-column r c y row_in col_in = in_case (owner_at d r c) refl
    where
      begun : (o : Position) → IsVisibleCell (layout_of d) o → (k : ℕ) (here : Bool) →
          IsAnyOfTable (if here then Some (content (block_at d o) k) else None)
      begun o cell k true = of-content o cell k
      begun o cell k false = tt

      in_case : (o : Option Position) → owner_at d r c ≡ o → IsAnyOfTable (content_from d o c y)
      in_case None is = tt
      in_case (Some o) is = begun o (owner-visible d r c o row_in col_in is) (y - begin_along (layout_of d) Rows o) (o.col == c)

  of-after : (front : List Piece) (pieces : Option (List Piece)) → AreOfTable front → IsAnyOfTable pieces → AreOfTable (after_these d front pieces)
  of-after front None first more = All-nil (IsOfTable d)
  of-after front (Some pieces) first more = All-append (IsOfTable d) front pieces first more

  of-over : (pieces : Option (List Piece)) → IsAnyOfTable pieces → AreOfTable (flat_map stretch_pieces (over_line d pieces))
  of-over None more = All-nil (IsOfTable d)
  of-over (Some pieces) more = All-append (IsOfTable d) pieces [] more (All-nil (IsOfTable d))

  -- ---- lines of a picture

  of-text : (r k : ℕ) → r < d.shape.0 → AreOfTable (text_line d r k)
  of-text r k row_in =
      All-append (IsOfTable d) (flat_map (column_pieces d r k) (range_with_len 0 d.shape.1)) (vertical_pieces d r d.shape.1 k)
      (All-joined (IsOfTable d) (column_pieces d r k) 0 d.shape.1
      (λ c below. of-after (vertical_pieces d r c k) (content_from d (owner_at d r c) c (begin_along (layout_of d) Rows (position_of (r, c)) + k))
      (of-vertical r c k) (of-column r c _ row_in (omega (arith, below)))))
      (of-vertical r d.shape.1 k)

  of-stretch : (i c : ℕ) → c < d.shape.1 → AreOfTable (over_pieces d i c)
  of-stretch i c col_in = in_case (stands_over d i c) refl
    where
      in_case : (over : Bool) → stands_over d i c ≡ over → AreOfTable (flat_map stretch_pieces
          (if over then over_line d (content_from d (owner_at d i c) c (line_offset (track_size (layout_of d) Rows) (track_line (layout_of d) Rows) i))
          else map OnLine (segment d.config d.shape (position_of (i, c)) (d.widths c))))
      in_case true is =
          of-over (content_from d (owner_at d i c) c (line_offset (track_size (layout_of d) Rows) (track_line (layout_of d) Rows) i))
          (of-column i c _ (over-within d i c is) col_in)
      in_case false is =
          subst AreOfTable (sym (pieces-on_line (segment d.config d.shape (position_of (i, c)) (d.widths c)))) (of-segment i c)

  of-rule : (i : ℕ) → AreOfTable (flat_map stretch_pieces (rule_line d i))
  of-rule i =
      subst AreOfTable (sym (all-pieces d i))
      (All-append (IsOfTable d) (flat_map (rule_pieces d i) (range_with_len 0 d.shape.1)) (crossing_pieces d i d.shape.1)
      (All-joined (IsOfTable d) (rule_pieces d i) 0 d.shape.1
      (λ c below. subst AreOfTable (sym (parts d i c))
      (All-append (IsOfTable d) (crossing_pieces d i c) (over_pieces d i c) (of-crossing i c) (of-stretch i c (omega (arith, below))))))
      (of-crossing i d.shape.1))

  -- each piece is of a cell or of a line
  pub all-of_table : All (λ line. All (IsOfTable d) (pieces_of line)) (drawn_lines d)
  all-of_table = All-drawn d (λ line. All (IsOfTable d) (pieces_of line)) (λ r k row_in. of-text r k row_in) of-rule

-- ---- the place of a cell

module _ (b : contents.Block) where
  fill-of_cell : (kind : Kind) (character n : ℕ) (color : Option (List ℕ × List ℕ)) → Contains (fills_of b.look) character →
      All (IsOfCell b) (fill kind character n color)
  fill-of_cell kind character n color within = in_case (n == 0)
    where
      in_case : (none : Bool) → All (IsOfCell b) (if none then []
          else (record { kind = kind; text = fill_text character n; columns = n; color = color } ∷ []))
      in_case true = All-nil (IsOfCell b)
      in_case false = All-cons (IsOfCell b) _ [] (inr (character, n, within, refl)) (All-nil (IsOfCell b))

  left-within : Contains (fills_of b.look) b.look.padding.left.fill
  left-within = (0, omega arith, refl)

  right-within : Contains (fills_of b.look) b.look.padding.right.fill
  right-within = (1, omega arith, refl)

  top-within : Contains (fills_of b.look) b.look.padding.top.fill
  top-within = (2, omega arith, refl)

  bottom-within : Contains (fills_of b.look) b.look.padding.bottom.fill
  bottom-within = (3, omega arith, refl)

  rest-within : Contains (fills_of b.look) b.look.justification
  rest-within = (4, omega arith, refl)

  line-of_cell : (line : Line) → IsOfCell b (text_piece b line) → All (IsOfCell b) (line_pieces b line)
  line-of_cell line text =
      let left : List Piece = fill Padding b.look.padding.left.fill b.look.padding.left.size b.look.padding_color.left in
      let start : List Piece = fill Justification b.look.justification (before b line) b.look.justification_color in
      let rest : List Piece = fill Justification b.look.justification (inner b - (before b line + line.1)) b.look.justification_color in
      let right : List Piece = fill Padding b.look.padding.right.fill b.look.padding.right.size b.look.padding_color.right in
      All-append (IsOfCell b) ((left ++ start) ++ text_piece b line ∷ rest) right
      (All-append (IsOfCell b) (left ++ start) (text_piece b line ∷ rest)
      (All-append (IsOfCell b) left start
      (fill-of_cell Padding b.look.padding.left.fill b.look.padding.left.size b.look.padding_color.left left-within)
      (fill-of_cell Justification b.look.justification (before b line) b.look.justification_color rest-within))
      (All-cons (IsOfCell b) (text_piece b line) rest text
      (fill-of_cell Justification b.look.justification (inner b - (before b line + line.1)) b.look.justification_color rest-within)))
      (fill-of_cell Padding b.look.padding.right.fill b.look.padding.right.size b.look.padding_color.right right-within)

  -- each piece is a line of its text, or fills it
  pub all-of_cell : (k : ℕ) → All (IsOfCell b) (content b k)
  all-of_cell k = in_case (nat_lt k (above b)) (nat_lt k (above b + length (shown b))) refl refl
    where
      in_case : (s t : Bool) → nat_lt k (above b) ≡ s → nat_lt k (above b + length (shown b)) ≡ t →
          All (IsOfCell b) (if s then fill Padding b.look.padding.top.fill b.width b.look.padding_color.top
          else (if t then line_pieces b (shown_line b.look.formatting.horizontal_trim (get_or (shown b) (k - above b) ([], 0)))
          else fill Padding b.look.padding.bottom.fill b.width b.look.padding_color.bottom))
      in_case true t first second = fill-of_cell Padding b.look.padding.top.fill b.width b.look.padding_color.top top-within
      in_case false true first second =
          let from = ltb-false k (above b) first in
          let to = ltb-true k (above b + length (shown b)) second in
          let line : Line = get_or (shown b) (k - above b) ([], 0) in
          line-of_cell (shown_line b.look.formatting.horizontal_trim line)
          (inl (line, Contains-get_or (shown b) (k - above b) ([], 0) (omega arith), refl))
      in_case false false first second = fill-of_cell Padding b.look.padding.bottom.fill b.width b.look.padding_color.bottom bottom-within
