-- What stands beside a text in its cell, and between cells, is separators alone.
use Rattle.std.proofs.Common.{◌≡◌, ap, refl, inr, ℕ, zero, suc, ◌+◌, ◌-◌, ◌<◌, ◌≤◌, ◌&&◌, Bool, true, false, List, [], ◌∷◌, ◌++◌, Option, Some, None, get_or, length, map, unwrap_or, arith}
use Rattle.std.specs.Prelude.{◌==◌, All, if◌then◌else◌, nat_lt, not}
use Rattle.std.specs.FinMap.{get}
use Rattle.std.specs.List.{flat_map, range_with_len}
use Rattle.std.proofs.lemmas.Bool.{ltb-false, ltb-true}
use Rattle.papergrid_values.specs.Positions.{position_of}
use Rattle.papergrid_values.specs.declared.position.Position.{Position}
use Rattle.papergrid_tables.specs.Overrides.{found_override, override_at}
use Rattle.papergrid_text.specs.Separators.{IsSeparator}
use Rattle.papergrid_draw.specs.Characters.{Mark, crossing, crossing_character, has_overrides, overridden_mark, plain_mark, segment, segment_character, segment_piece, vertical, vertical_character}
use Rattle.papergrid_draw.specs.Contents as contents
use Rattle.papergrid_draw.specs.Contents.{above, before, block_at, content, inner, line_pieces, shown}
use Rattle.papergrid_draw.specs.Drawings.{Drawing}
use Rattle.papergrid_draw.specs.Drawn.{OnLine, draws_vertical, stands_over_crossing, vertical_pieces}
use Rattle.papergrid_draw.specs.Laws.{terminal_columns, stretch_pieces, text_piece}
use Rattle.papergrid_draw.specs.Pieces.{Justification, Padding, Piece, fill}
use Rattle.papergrid_draw.specs.Separated.{HasSeparators, IsMeasuredLine, fills_of}
use Rattle.papergrid_draw.proofs.BlockLemmas.{Line}
use Rattle.papergrid_draw.proofs.ContentLemmas.{All-shown, columns-fill, line_at}
use Rattle.papergrid_draw.proofs.OverLemmas.{crossing_pieces}
use Rattle.papergrid_draw.proofs.WideLemmas.{AreFills, AreSeparate, Begins, Ends, IsFill, IsTold, end-after, fill-of, fills-append, fills-begin, fills-end, fills-fill, fills-separate, separate-append, separate-fills, shown-told, some-count}

-- ---- a cell

module _ (b : contents.Block) (filled : All IsSeparator (fills_of b.look)) (honest : All IsMeasuredLine b.lines) where
  left-fills : AreFills (fill Padding b.look.padding.left.fill b.look.padding.left.size b.look.padding_color.left)
  left-fills = fills-fill Padding b.look.padding.left.fill b.look.padding.left.size b.look.padding_color.left (filled 0 0 (omega arith))

  right-fills : AreFills (fill Padding b.look.padding.right.fill b.look.padding.right.size b.look.padding_color.right)
  right-fills = fills-fill Padding b.look.padding.right.fill b.look.padding.right.size b.look.padding_color.right (filled 1 0 (omega arith))

  top-fills : AreFills (fill Padding b.look.padding.top.fill b.width b.look.padding_color.top)
  top-fills = fills-fill Padding b.look.padding.top.fill b.width b.look.padding_color.top (filled 2 0 (omega arith))

  bottom-fills : AreFills (fill Padding b.look.padding.bottom.fill b.width b.look.padding_color.bottom)
  bottom-fills = fills-fill Padding b.look.padding.bottom.fill b.width b.look.padding_color.bottom (filled 3 0 (omega arith))

  rest-fills : (n : ℕ) → AreFills (fill Justification b.look.justification n b.look.justification_color)
  rest-fills n = fills-fill Justification b.look.justification n b.look.justification_color (filled 4 0 (omega arith))

  module _ (line : Line) (told : IsTold line.0 line.1) where
    abbrev left : List Piece
    left = fill Padding b.look.padding.left.fill b.look.padding.left.size b.look.padding_color.left

    abbrev start : List Piece
    start = fill Justification b.look.justification (before b line) b.look.justification_color

    abbrev rest : List Piece
    rest = fill Justification b.look.justification (inner b - (before b line + line.1)) b.look.justification_color

    abbrev right : List Piece
    right = fill Padding b.look.padding.right.fill b.look.padding.right.size b.look.padding_color.right

    -- the text of a line stands between fills
    line-separate : AreSeparate (line_pieces b line)
    line-separate =
        let after = rest-fills (inner b - (before b line + line.1)) in
        let text : AreSeparate (text_piece b line ∷ rest) = (inr (told, fills-begin rest after), separate-fills rest after) in
        let front = fills-append left start left-fills (rest-fills (before b line)) in
        separate-append ((left ++ start) ++ text_piece b line ∷ rest) right (fills-separate (left ++ start) (text_piece b line ∷ rest) front text)
        (separate-fills right right-fills) (fills-begin right right-fills)

    -- it begins with the padding, if there is one
    line-begins : 0 < b.look.padding.left.size → Begins (line_pieces b line)
    line-begins some =
        let wide = columns-fill Padding b.look.padding.left.fill b.look.padding.left.size b.look.padding_color.left in
        in_case left (λ none. (let narrow = ap terminal_columns none in omega (arith, some))) left-fills
      where
        in_case : (front : List Piece) → (front ≡ [] → ⊥) → AreFills front → Begins (front ++ start ++ text_piece b line ∷ rest ++ right)
        in_case [] none fills = absurd (none refl)
        in_case (piece ∷ front) none fills = fills.0

    -- it ends with the padding on the other side, if there is one
    line-ends : 0 < b.look.padding.right.size → Ends (line_pieces b line)
    line-ends some =
        let wide = columns-fill Padding b.look.padding.right.fill b.look.padding.right.size b.look.padding_color.right in
        end-after ((left ++ start) ++ text_piece b line ∷ rest) right (λ none. (let narrow = ap terminal_columns none in omega (arith, some)))
        (fills-end right right-fills)

  -- ---- a line of its place

  line-told : (i : ℕ) → i < length (shown b) → IsTold (line_at b i).0 (line_at b i).1
  line-told i below = shown-told b.look.formatting.horizontal_trim (get_or (shown b) i ([], 0)) (All-shown IsMeasuredLine b.look.formatting.vertical_trim b.lines honest i ([], 0) below)

  content-is : (P : List Piece → Type 0) → ((pieces : List Piece) → AreFills pieces → P pieces) →
      ((i : ℕ) → i < length (shown b) → P (line_pieces b (line_at b i))) → (k : ℕ) → P (content b k)
  content-is P fills lines k = in_case (nat_lt k (above b)) (nat_lt k (above b + length (shown b))) refl refl
    where
      in_case : (s t : Bool) → nat_lt k (above b) ≡ s → nat_lt k (above b + length (shown b)) ≡ t →
          P (if s then fill Padding b.look.padding.top.fill b.width b.look.padding_color.top
          else (if t then line_pieces b (line_at b (k - above b))
          else fill Padding b.look.padding.bottom.fill b.width b.look.padding_color.bottom))
      in_case true t first second = fills (fill Padding b.look.padding.top.fill b.width b.look.padding_color.top) top-fills
      in_case false true first second =
          let from : above b ≤ k = ltb-false k (above b) first in
          let to : k < above b + length (shown b) = ltb-true k (above b + length (shown b)) second in
          lines (k - above b) (omega arith)
      in_case false false first second = fills (fill Padding b.look.padding.bottom.fill b.width b.look.padding_color.bottom) bottom-fills

  pub content-separate : (k : ℕ) → AreSeparate (content b k)
  content-separate = content-is AreSeparate separate-fills (λ i below. line-separate (line_at b i) (line-told i below))

  pub content-begins : 0 < b.look.padding.left.size → (k : ℕ) → Begins (content b k)
  content-begins some = content-is Begins fills-begin (λ i below. line-begins (line_at b i) (line-told i below) some)

  -- and it ends with the padding on the other side
  pub content-ends : 0 < b.look.padding.right.size → (k : ℕ) → Ends (content b k)
  content-ends some = content-is Ends fills-end (λ i below. line-ends (line_at b i) (line-told i below) some)

-- ---- what stands between cells

module _ (d : Drawing) (separated : HasSeparators d) where
  pub vertical-fills : (r j k : ℕ) → AreFills (vertical_pieces d r j k)
  vertical-fills r j k = in_case (draws_vertical d j)
    where
      in_case : (line : Bool) → AreFills (if line then vertical d.config d.shape (position_of (r, j)) (d.heights r) k ∷ [] else [])
      in_case true = (
        fill-of (vertical d.config d.shape (position_of (r, j)) (d.heights r) k) (vertical_character d.config d.shape (position_of (r, j)) (d.heights r) k) 1
            (separated.vertical (position_of (r, j)) k) (omega arith) refl refl,
        tt,
      )
      in_case false = tt

  pub crossing-fills : (i j : ℕ) → AreFills (crossing_pieces d i j)
  crossing-fills i j = in_case (draws_vertical d j && not (stands_over_crossing d i j))
    where
      in_case : (line : Bool) → AreFills (flat_map stretch_pieces (if line then OnLine (crossing d.config d.shape (position_of (i, j))) ∷ [] else []))
      in_case true = (
        fill-of (crossing d.config d.shape (position_of (i, j))).piece (crossing_character d.config d.shape (position_of (i, j))) 1
            (separated.crossing (position_of (i, j))) (omega arith) refl refl,
        tt,
      )
      in_case false = tt

  -- ---- the line over a column

  segment-fill : (p : Position) (character n : ℕ) → IsSeparator character → 0 < n → IsFill (segment_piece d.config d.shape p character n)
  segment-fill p character n separates some = fill-of (segment_piece d.config d.shape p character n) character n separates some refl refl

  overridden-separates : (p : Position) (k : ℕ) →
      IsSeparator (unwrap_or (found_override (override_at d.config.horizontal_chars p) k (d.widths p.col)) (segment_character d.config d.shape p))
  overridden-separates p k = in_case (found_override (override_at d.config.horizontal_chars p) k (d.widths p.col)) refl
    where
      in_case : (found : Option ℕ) → found_override (override_at d.config.horizontal_chars p) k (d.widths p.col) ≡ found →
          IsSeparator (unwrap_or found (segment_character d.config d.shape p))
      in_case None is = separated.horizontal p
      in_case (Some c) is = separated.overridden p k c is

  each-fill : (f : ℕ → Mark) → ((k : ℕ) → IsFill (f k).piece) → (a n : ℕ) → AreFills (map (λ (mark : Mark). mark.piece) (map f (range_with_len a n)))
  each-fill f fills a zero = tt
  each-fill f fills a (suc n) = (fills a, each-fill f fills (a + 1) n)

  pub segment-fills : (i c : ℕ) → AreFills (map (λ (mark : Mark). mark.piece) (segment d.config d.shape (position_of (i, c)) (d.widths c)))
  segment-fills i c = in_case (has_overrides (get d.config.horizontal_chars (position_of (i, c)))) (d.widths c == 0) refl
    where
      in_case : (overridden none : Bool) → (d.widths c == 0) ≡ none → AreFills (map (λ (mark : Mark). mark.piece)
          (if overridden then map (overridden_mark d.config d.shape (position_of (i, c)) (d.widths c)) (range_with_len 0 (d.widths c))
          else if none then [] else (plain_mark (segment_piece d.config d.shape (position_of (i, c)) (segment_character d.config d.shape (position_of (i, c))) (d.widths c)) ∷ [])))
      in_case true none is =
          each-fill (overridden_mark d.config d.shape (position_of (i, c)) (d.widths c))
          (λ k. segment-fill (position_of (i, c))
          (unwrap_or (found_override (override_at d.config.horizontal_chars (position_of (i, c))) k (d.widths c)) (segment_character d.config d.shape (position_of (i, c)))) 1
          (overridden-separates (position_of (i, c)) k) (omega arith))
          0 (d.widths c)
      in_case false true is = tt
      in_case false false is = (
        segment-fill (position_of (i, c)) (segment_character d.config d.shape (position_of (i, c))) (d.widths c) (separated.horizontal (position_of (i, c)))
            (some-count (d.widths c) is),
        tt,
      )
