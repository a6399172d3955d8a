-- Where cells, their texts and the lines of a table stand in its picture.
use Rattle.std.proofs.Common.{◌≡◌, ◌≢◌, ◌∙◌, ap, sym, subst, inl, inr, ℕ, ◌+◌, ◌-◌, ◌<◌, ◌≤◌, true, false, [], ◌∷◌, Some, length, map, slice_index_or, arith}
use Rattle.std.specs.Prelude.{slice_get}
use Rattle.std.proofs.lemmas.Bool.{cases_eq, cases_lt}
use Rattle.papergrid_values.specs.Positions.{position_of}
use Rattle.papergrid_values.specs.declared.direction.Direction.TheVariants.{Columns, Rows}
use Rattle.papergrid_values.specs.declared.position.Position.{Position}
use Rattle.papergrid_maps.proofs.HiddenLemmas.{position-same}
use Rattle.papergrid_layout.specs.Places.{IsVisibleCell, begin_along, length_along, line_offset, offset, track_line, track_size}
use Rattle.papergrid_layout.proofs.PointLemmas.{none-but-visible}
use Rattle.papergrid_draw.specs.Characters.{Mark, crossing, segment, vertical}
use Rattle.papergrid_draw.specs.Contents.{above, before, block_at, content, line_pieces, shown, shown_line}
use Rattle.papergrid_draw.specs.Drawings.{Drawing, layout_of}
use Rattle.papergrid_draw.specs.Drawn.{RuleLine, TextLine, drawn_lines, draws_horizontal, draws_vertical, owner_at, rule_line, stands_over, stands_over_crossing, text_line}
use Rattle.papergrid_draw.specs.Faults.{AllHaveRoom}
use Rattle.papergrid_draw.specs.Laws.{AreDrawnAt, StandAt, terminal_columns, pieces_of, text_piece}
use Rattle.papergrid_draw.specs.Tiles.{IsTiled, Owns}
use Rattle.papergrid_draw.specs.ForProofs.Pages.{row_start, text_start}
use Rattle.papergrid_draw.proofs.Ranges.{first_of, text_first}
use Rattle.papergrid_draw.proofs.ColumnLemmas.{cell-in-text_line, line-in-text_line, owner-beside}
use Rattle.papergrid_draw.proofs.ContentLemmas.{above-within, columns-content, content-line, has-room, line-fits, line_at, stands-within, text-stands}
use Rattle.papergrid_draw.proofs.DrawnLemmas.{IsLineInside, IsOfRow, row-or-line, rule_line-at, text_line-at}
use Rattle.papergrid_draw.proofs.OverLemmas.{cell-in-rule_line, crossing-in-rule_line, segment-in-rule_line}
use Rattle.papergrid_draw.proofs.RoomLemmas.{inside-of}
use Rattle.papergrid_draw.proofs.TileLemmas.{has-owner, owns-owner}

-- each line of a cell's place is as wide as that
pub cells-wide : (d : Drawing) → AllHaveRoom d → (p : Position) → IsVisibleCell (layout_of d) p → (k : ℕ) →
    terminal_columns (content (block_at d p) k) ≡ length_along (layout_of d) Columns p
cells-wide d room p cell k = columns-content (block_at d p) (has-room d p room cell) k

module _ (d : Drawing) (tiled : IsTiled (layout_of d)) (room : AllHaveRoom d) where
  -- ---- cells

  -- a visible cell covers its own position
  owns-own : (p : Position) → IsVisibleCell (layout_of d) p → Owns (layout_of d) p p
  owns-own p cell =
      let once = tiled.once p (cell.row_in, cell.col_in) in
      let q = once.0 in
      let none_but : (q ≡ p → ⊥) → ⊥ = λ other. none-but-visible d.config p q cell.visible once.1.covers other in
      let same : q ≡ p = elim (cases_eq q.row p.row) [
        | inl row ↦ elim (cases_eq q.col p.col) [
          | inl col ↦ position-same q p row col
          | inr other ↦ absurd (none_but (λ e. other (ap (λ (x : Position). x.col) e)))
        ]
        | inr other ↦ absurd (none_but (λ e. other (ap (λ (x : Position). x.row) e)))
      ] in
      subst (λ x. Owns (layout_of d) x p) same once.1

  -- and the positions below it that it spans
  owns-below : (p : Position) → IsVisibleCell (layout_of d) p → (r : ℕ) → p.row ≤ r → r < p.row + (layout_of d).grid.span Rows p → r < d.shape.0 →
      owner_at d r p.col ≡ Some p
  owns-below p cell r from to row_in =
      let own = (owns-own p cell).covers in
      owns-owner (layout_of d) tiled p (position_of (r, p.col)) (row_in, cell.col_in) (record {
        visible = cell.visible;
        covers = record { below_top = from; above_bottom = to; after_left = own.after_left; before_right = own.before_right };
      })

  module _ (p : Position) (cell : IsVisibleCell (layout_of d) p) (k : ℕ) where
    abbrev y : ℕ
    y = begin_along (layout_of d) Rows p + k

    abbrev span : ℕ
    span = (layout_of d).grid.span Rows p

    ends : p.row + span ≤ d.shape.0
    ends = (inside-of (layout_of d) p tiled cell).down

    -- line k of its place is a text line of one of its rows
    in-text_line : (r : ℕ) → IsOfRow (track_size (layout_of d) Rows) (track_line (layout_of d) Rows) p.row span y r →
        AreDrawnAt d (begin_along (layout_of d) Columns p) y (content (block_at d p) k)
    in-text_line r has =
        let row_in : r < d.shape.0 = omega (arith, has.to, ends) in
        let at : text_start d r + (y - text_start d r) ≡ y = omega (arith, has.begun) in
        let number : text_start d r + (y - text_start d r) - begin_along (layout_of d) Rows p ≡ k = omega (arith, has.begun) in (
          TextLine (text_line d r (y - text_start d r)),
          ap (slice_get (drawn_lines d)) (sym at) ∙ text_line-at d r (y - text_start d r) row_in (omega (arith, has.begun, has.before_end)),
          subst (λ n. StandAt (text_line d r (y - text_start d r)) (begin_along (layout_of d) Columns p) (content (block_at d p) n)) number
              (cell-in-text_line d tiled room r (y - text_start d r) p row_in cell.col_in (owns-below p cell r has.from has.to row_in)),
        )

    -- or a horizontal line inside of them
    in-rule_line : (i : ℕ) → IsLineInside (track_size (layout_of d) Rows) (track_line (layout_of d) Rows) p.row span y i →
        AreDrawnAt d (begin_along (layout_of d) Columns p) y (content (block_at d p) k)
    in-rule_line i has =
        let row_in : i < d.shape.0 = omega (arith, has.to, ends) in
        let number : row_start d i - begin_along (layout_of d) Rows p ≡ k = omega (arith, has.here) in (
          RuleLine (rule_line d i),
          ap (slice_get (drawn_lines d)) has.here ∙ rule_line-at d i (omega (arith, row_in)) has.drawn,
          subst (λ n. StandAt (pieces_of (RuleLine (rule_line d i))) (begin_along (layout_of d) Columns p) (content (block_at d p) n)) number
              (cell-in-rule_line d tiled i room p row_in cell.col_in (owns-below p cell i (omega (arith, has.after)) has.to row_in) has.after),
        )

    -- line k of its content stands there
    pub cell-drawn : k < length_along (layout_of d) Rows p → AreDrawnAt d (begin_along (layout_of d) Columns p) y (content (block_at d p) k)
    cell-drawn below =
        elim (row-or-line (track_size (layout_of d) Rows) (track_line (layout_of d) Rows) p.row span y (omega arith) (omega (arith, below))) [
          | inl row ↦ in-text_line row.0 row.1
          | inr inside ↦ in-rule_line inside.0 inside.1
        ]

  -- ---- texts

  pub text-drawn : (p : Position) → IsVisibleCell (layout_of d) p → let b = block_at d p in
      b.look.padding.top.size + length (shown b) ≤ b.height → (i : ℕ) → i < length (shown b) →
      let line = shown_line b.look.formatting.horizontal_trim (slice_index_or (shown b) i ([], 0)) in
      AreDrawnAt d (begin_along (layout_of d) Columns p + (b.look.padding.left.size + before b line)) (begin_along (layout_of d) Rows p + (above b + i))
      (text_piece b line ∷ [])
  text-drawn p cell high i below =
      let b = block_at d p in
      let there = cell-drawn p cell (above b + i) (above-within b high i below) in (
        there.0,
        there.1,
        stands-within (pieces_of there.0) (line_pieces b (line_at b i)) (text_piece b (line_at b i) ∷ []) (begin_along (layout_of d) Columns p)
            (b.look.padding.left.size + before b (line_at b i))
            (subst (λ pieces. StandAt (pieces_of there.0) (begin_along (layout_of d) Columns p) pieces) (content-line b i below) there.2)
            (text-stands b (line_at b i)),
      )

  -- ---- lines

  -- no cell covers both sides of a vertical line, so a range begins after it
  begins-after : (r j : ℕ) → r < d.shape.0 → (0 < j → j < d.shape.1 → owner_at d r (j - 1) ≢ owner_at d r j) → j < d.shape.1 → text_first d r j ≡ j
  begins-after r j row_in apart before =
      let found = has-owner (layout_of d) tiled (position_of (r, j)) (row_in, before) in
      let o = found.0 in
      let has = found.1 in
      let left : o.col ≤ j = has.owns.covers.after_left in
      let right : j < o.col + (layout_of d).grid.span Columns o = has.owns.covers.before_right in
      let first : text_first d r j ≡ o.col = ap (λ owner. first_of owner j) has.is in
      elim (cases_lt o.col j) [
        | inl behind ↦ absurd (apart (omega arith) before
            (owner-beside d tiled r j (j - 1) o row_in has (omega arith) (omega arith) ∙ sym has.is))
        | inr from ↦ omega (arith, first, from, left)
      ]

  pub vertical-drawn : (r j k : ℕ) → r < d.shape.0 → k < d.heights r → j ≤ d.shape.1 → draws_vertical d j ≡ true →
      (0 < j → j < d.shape.1 → owner_at d r (j - 1) ≢ owner_at d r j) →
      AreDrawnAt d (line_offset (track_size (layout_of d) Columns) (track_line (layout_of d) Columns) j)
      (offset (track_size (layout_of d) Rows) (track_line (layout_of d) Rows) r + k)
      (vertical d.config d.shape (position_of (r, j)) (d.heights r) k ∷ [])
  vertical-drawn r j k row_in below within line apart = (
    TextLine (text_line d r k),
    text_line-at d r k row_in below,
    line-in-text_line d tiled room r k j row_in within line (begins-after r j row_in apart),
  )

  pub segment-drawn : (i c : ℕ) → i ≤ d.shape.0 → c < d.shape.1 → draws_horizontal d i ≡ true → stands_over d i c ≡ false →
      AreDrawnAt d (offset (track_size (layout_of d) Columns) (track_line (layout_of d) Columns) c)
      (line_offset (track_size (layout_of d) Rows) (track_line (layout_of d) Rows) i)
      (map (λ (mark : Mark). mark.piece) (segment d.config d.shape (position_of (i, c)) (d.widths c)))
  segment-drawn i c within below line free = (
    RuleLine (rule_line d i),
    rule_line-at d i within line,
    segment-in-rule_line d tiled i room c below free,
  )

  pub crossing-drawn : (i j : ℕ) → i ≤ d.shape.0 → j ≤ d.shape.1 → draws_horizontal d i ≡ true → draws_vertical d j ≡ true → stands_over_crossing d i j ≡ false →
      AreDrawnAt d (line_offset (track_size (layout_of d) Columns) (track_line (layout_of d) Columns) j)
      (line_offset (track_size (layout_of d) Rows) (track_line (layout_of d) Rows) i)
      ((crossing d.config d.shape (position_of (i, j))).piece ∷ [])
  crossing-drawn i j within inside line also free = (
    RuleLine (rule_line d i),
    rule_line-at d i within line,
    crossing-in-rule_line d tiled i room j inside also free,
  )

-- ---- a text stands between the paddings of its cell, and within its place

pub text-within : (d : Drawing) → AllHaveRoom d → (p : Position) → IsVisibleCell (layout_of d) p → let b = block_at d p in
    b.look.padding.top.size + length (shown b) ≤ b.height → (i : ℕ) → i < length (shown b) →
    let line = shown_line b.look.formatting.horizontal_trim (slice_index_or (shown b) i ([], 0)) in
    ((b.look.padding.left.size + before b line) + line.1 + b.look.padding.right.size ≤ b.width) × (above b + i < b.height)
text-within d room p cell high i below =
    let b = block_at d p in
    let between = line-fits b (has-room d p room cell) i below in
    (omega (arith, between.sides, between.fits), above-within b high i below)
