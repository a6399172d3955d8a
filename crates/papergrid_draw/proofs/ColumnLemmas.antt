-- The columns that the pieces of a text line take, and where the cells and the vertical lines stand in it.
use Rattle.std.proofs.Common.{◌≡◌, ◌∙◌, ap, sym, subst, refl, inl, inr, ℕ, ◌+◌, ◌-◌, ◌<◌, ◌≤◌, Bool, true, false, cond, List, [], ◌∷◌, ◌++◌, Some, None, append_assoc, arith}
use Rattle.std.specs.Prelude.{if◌then◌else◌}
use Rattle.std.specs.List.{flat_map, range_with_len}
use Rattle.std.proofs.lemmas.Bool.{cases_lt, eq-eqb, ne_eqb}
use Rattle.papergrid_values.specs.Positions.{position_of}
use Rattle.papergrid_values.specs.declared.direction.Direction.TheVariants.{Columns, Rows}
use Rattle.papergrid_values.specs.declared.position.Position.{Position}
use Rattle.papergrid_layout.specs.Places.{IsVisibleCell, TableView, begin_along, extent, line_offset, total_along, track_line, track_size}
use Rattle.papergrid_layout.proofs.PlaceSums.{line-before}
use Rattle.papergrid_draw.specs.Characters.{vertical}
use Rattle.papergrid_draw.specs.Contents.{block_at, content}
use Rattle.papergrid_draw.specs.Drawings.{Drawing, layout_of}
use Rattle.papergrid_draw.specs.Drawn.{after_these, column_pieces, content_from, draws_vertical, owner_at, text_line, vertical_pieces}
use Rattle.papergrid_draw.specs.Faults.{AllHaveRoom}
use Rattle.papergrid_draw.specs.Laws.{StandAt, terminal_columns}
use Rattle.papergrid_draw.specs.Pieces.{Piece}
use Rattle.papergrid_draw.specs.Tiles.{IsTiled}
use Rattle.papergrid_draw.specs.ForProofs.Pages.{text_start}
use Rattle.papergrid_draw.proofs.Ranges.{AreRanges, FillRanges, first_of, many_of, text_first, text_many}
use Rattle.papergrid_draw.proofs.TileLemmas.{HasOwner}
use Rattle.papergrid_draw.proofs.ContentLemmas.{columns-append, columns-content, has-room}
use Rattle.papergrid_draw.proofs.RangeLemmas.{columns-before, cut-at}
use Rattle.papergrid_draw.proofs.TileLemmas.{has-owner, owns-owner}

-- an owner is a visible cell
pub cell-of : (table : TableView) (q p : Position) → HasOwner table q p → IsVisibleCell table p
cell-of table q p has = record { visible = has.owns.visible; row_in = has.in_table.0; col_in = has.in_table.1 }

module _ (d : Drawing) where
  abbrev at : ℕ → ℕ → Position
  at r c = position_of (r, c)

  -- ---- the pieces of a column

  vertical_or_none : (piece : Piece) (line : Bool) → piece.columns ≡ 1 → terminal_columns (if line then piece ∷ [] else []) ≡ cond line 1 0
  vertical_or_none piece true one = ap (λ n. 0 + n) one
  vertical_or_none piece false one = refl

  pub columns-vertical : (r j k : ℕ) → terminal_columns (vertical_pieces d r j k) ≡ cond (draws_vertical d j) 1 0
  columns-vertical r j k = vertical_or_none (vertical d.config d.shape (at r j) (d.heights r) k) (draws_vertical d j) refl

  pub vertical-there : (r j k : ℕ) → draws_vertical d j ≡ true → vertical_pieces d r j k ≡ vertical d.config d.shape (at r j) (d.heights r) k ∷ []
  vertical-there r j k line = ap (λ b. if b then vertical d.config d.shape (at r j) (d.heights r) k ∷ [] else []) line

  -- the line of a cell that begins there, after the line before it
  pub column-begun : (r k c : ℕ) (o : Position) → owner_at d r c ≡ Some o → o.col ≡ c →
      column_pieces d r k c ≡ vertical_pieces d r c k ++ content (block_at d o) (text_start d r + k - begin_along (layout_of d) Rows o)
  column-begun r k c o is here =
      ap (λ owner. after_these d (vertical_pieces d r c k) (content_from d owner c (text_start d r + k))) is
      ∙ ap (λ b. after_these d (vertical_pieces d r c k)
      (if b then Some (content (block_at d o) (text_start d r + k - begin_along (layout_of d) Rows o)) else None)) (eq-eqb o.col c here)

  -- none of one that begins further left
  pub column-inside : (r k c : ℕ) (o : Position) → owner_at d r c ≡ Some o → o.col < c → column_pieces d r k c ≡ []
  column-inside r k c o is left =
      ap (λ owner. after_these d (vertical_pieces d r c k) (content_from d owner c (text_start d r + k))) is
      ∙ ap (λ b. after_these d (vertical_pieces d r c k)
      (if b then Some (content (block_at d o) (text_start d r + k - begin_along (layout_of d) Rows o)) else None))
      (ne_eqb o.col c (λ same. omega (arith, left, same)))

  -- ---- ranges

  module _ (tiled : IsTiled (layout_of d)) where
    -- the owner of a position owns those beside it that its cell covers
    pub owner-beside : (r c e : ℕ) (o : Position) → r < d.shape.0 → HasOwner (layout_of d) (at r c) o → o.col ≤ e →
        e < o.col + (layout_of d).grid.span Columns o → owner_at d r e ≡ Some o
    owner-beside r c e o row_in has from to =
        owns-owner (layout_of d) tiled o (at r e) (row_in, omega (arith, has.across, to)) (record {
          visible = has.owns.visible;
          covers = record {
            below_top = has.owns.covers.below_top;
            above_bottom = has.owns.covers.above_bottom;
            after_left = from;
            before_right = to;
          };
        })

    pub text-ranges : (r : ℕ) → r < d.shape.0 → AreRanges d.shape.1 (text_first d r) (text_many d r)
    text-ranges r row_in = record {
      within = λ c below.
          let found = has-owner (layout_of d) tiled (at r c) (row_in, below) in
          let has = found.1 in
          subst (λ owner. (first_of owner c ≤ c) × (c < first_of owner c + many_of (layout_of d) owner)
          × (first_of owner c + many_of (layout_of d) owner ≤ d.shape.1)) (sym has.is)
          (has.owns.covers.after_left, has.owns.covers.before_right, has.across);
      shared = λ c e below from to.
          let found = has-owner (layout_of d) tiled (at r c) (row_in, below) in
          let o = found.0 in
          let has = found.1 in
          let same : owner_at d r e ≡ Some o = owner-beside r c e o row_in has (subst (λ owner. first_of owner c ≤ e) has.is from)
          (subst (λ owner. e < first_of owner c + many_of (layout_of d) owner) has.is to) in (
            ap (λ owner. first_of owner e) same ∙ sym (ap (λ owner. first_of owner c) has.is),
            ap (many_of (layout_of d)) (same ∙ sym has.is),
          );
    }

    module _ (room : AllHaveRoom d) where
      pub text-filled : (r k : ℕ) → r < d.shape.0 →
          FillRanges (track_size (layout_of d) Columns) (track_line (layout_of d) Columns) d.shape.1 (text_first d r) (text_many d r) (column_pieces d r k)
      text-filled r k row_in = record {
        begun = λ c below first.
            let found = has-owner (layout_of d) tiled (at r c) (row_in, below) in
            let o = found.0 in
            let has = found.1 in
            let here : o.col ≡ c = subst (λ owner. first_of owner c ≡ c) has.is first in
            let n = text_start d r + k - begin_along (layout_of d) Rows o in
            let wide : (layout_of d).grid.span Columns o ≡ text_many d r c = sym (ap (many_of (layout_of d)) has.is) in
            ap terminal_columns (column-begun r k c o has.is here)
            ∙ columns-append (vertical_pieces d r c k) (content (block_at d o) n)
            ∙ (λ i. columns-vertical r c k i + columns-content (block_at d o) (has-room d o room (cell-of (layout_of d) (at r c) o has)) n i)
            ∙ (λ i. cond (draws_vertical d c) 1 0 + extent (track_size (layout_of d) Columns) (track_line (layout_of d) Columns) (here i) (wide i));
        inside = λ c below left.
            let found = has-owner (layout_of d) tiled (at r c) (row_in, below) in
            column-inside r k c found.0 found.1.is (subst (λ owner. first_of owner c < c) found.1.is left);
      }

      -- ---- what is left of a column, and the whole line

      pub columns-left : (r k c : ℕ) → r < d.shape.0 → c ≤ d.shape.1 → (c < d.shape.1 → text_first d r c ≡ c) →
          terminal_columns (flat_map (column_pieces d r k) (range_with_len 0 c)) ≡ line_offset (track_size (layout_of d) Columns) (track_line (layout_of d) Columns) c
      columns-left r k c row_in within begins =
          columns-before (track_size (layout_of d) Columns) (track_line (layout_of d) Columns) d.shape.1 (text_first d r) (text_many d r) (column_pieces d r k)
          (text-ranges r row_in) (text-filled r k row_in) c within begins

      pub columns-text_line : (r k : ℕ) → r < d.shape.0 → terminal_columns (text_line d r k) ≡ total_along (layout_of d) Columns
      columns-text_line r k row_in =
          columns-append (flat_map (column_pieces d r k) (range_with_len 0 d.shape.1)) (vertical_pieces d r d.shape.1 k)
          ∙ (λ i. columns-left r k d.shape.1 row_in (omega arith) (λ past. absurd (omega arith)) i + columns-vertical r d.shape.1 k i)
          ∙ sym (line-before (track_size (layout_of d) Columns) (track_line (layout_of d) Columns) d.shape.1)

      -- ---- what stands where

      cell-among : (a v m s b : List Piece) → (a ++ ((v ++ m) ++ s)) ++ b ≡ (a ++ v) ++ (m ++ (s ++ b))
      cell-among a v m s b = simp append_assoc

      line-among : (a v m s b : List Piece) → (a ++ ((v ++ m) ++ s)) ++ b ≡ a ++ (v ++ (m ++ (s ++ b)))
      line-among a v m s b = simp append_assoc

      -- a cell, in each text line of its rows
      pub cell-in-text_line : (r k : ℕ) (p : Position) → r < d.shape.0 → p.col < d.shape.1 → owner_at d r p.col ≡ Some p →
          StandAt (text_line d r k) (begin_along (layout_of d) Columns p) (content (block_at d p) (text_start d r + k - begin_along (layout_of d) Rows p))
      cell-in-text_line r k p row_in col_in is =
          let n = text_start d r + k - begin_along (layout_of d) Rows p in
          let left = flat_map (column_pieces d r k) (range_with_len 0 p.col) in
          let right = flat_map (column_pieces d r k) (range_with_len (p.col + 1) (d.shape.1 - (p.col + 1))) in
          let line = vertical_pieces d r p.col k in
          let last = vertical_pieces d r d.shape.1 k in (
            left ++ line,
            right ++ last,
            ap (λ columns. columns ++ last) (cut-at (column_pieces d r k) d.shape.1 p.col col_in
                ∙ ap (λ column. left ++ (column ++ right)) (column-begun r k p.col p is refl))
                ∙ cell-among left line (content (block_at d p) n) right last,
            columns-append left line
                ∙ (λ i. columns-left r k p.col row_in (omega (arith, col_in)) (λ _. ap (λ owner. first_of owner p.col) is) i + columns-vertical r p.col k i)
                ∙ sym (line-before (track_size (layout_of d) Columns) (track_line (layout_of d) Columns) p.col),
          )

      -- a vertical line, beside which no cell covers both sides
      pub line-in-text_line : (r k j : ℕ) → r < d.shape.0 → j ≤ d.shape.1 → draws_vertical d j ≡ true → (j < d.shape.1 → text_first d r j ≡ j) →
          StandAt (text_line d r k) (line_offset (track_size (layout_of d) Columns) (track_line (layout_of d) Columns) j)
          (vertical d.config d.shape (at r j) (d.heights r) k ∷ [])
      line-in-text_line r k j row_in within line begins = elim (cases_lt j d.shape.1) [
        | inl before ↦
            let found = has-owner (layout_of d) tiled (at r j) (row_in, before) in
            let o = found.0 in
            let here : o.col ≡ j = subst (λ owner. first_of owner j ≡ j) found.1.is (begins before) in
            let n = text_start d r + k - begin_along (layout_of d) Rows o in
            let left = flat_map (column_pieces d r k) (range_with_len 0 j) in
            let right = flat_map (column_pieces d r k) (range_with_len (j + 1) (d.shape.1 - (j + 1))) in
            let last = vertical_pieces d r d.shape.1 k in (
              left,
              content (block_at d o) n ++ (right ++ last),
              ap (λ columns. columns ++ last) (cut-at (column_pieces d r k) d.shape.1 j before
                  ∙ ap (λ column. left ++ (column ++ right)) (column-begun r k j o found.1.is here))
                  ∙ line-among left (vertical_pieces d r j k) (content (block_at d o) n) right last
                  ∙ ap (λ piece. left ++ (piece ++ (content (block_at d o) n ++ (right ++ last)))) (vertical-there r j k line),
              columns-left r k j row_in within begins,
            )
        | inr past ↦
            let end : j ≡ d.shape.1 = omega arith in (
              flat_map (column_pieces d r k) (range_with_len 0 j),
              [],
              (λ i. flat_map (column_pieces d r k) (range_with_len 0 (sym end i)) ++ vertical_pieces d r (sym end i) k)
                  ∙ ap (λ piece. flat_map (column_pieces d r k) (range_with_len 0 j) ++ piece) (vertical-there r j k line),
              columns-left r k j row_in within begins,
            )
      ]
