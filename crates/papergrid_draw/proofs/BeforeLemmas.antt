-- In each line of a drawn table a separator stands between any two texts, if one stands before each cell.
use Rattle.std.proofs.Common.{◌≡◌, ◌∙◌, ap, sym, subst, refl, inl, inr, ℕ, ◌+◌, ◌-◌, ◌<◌, ◌≤◌, Bool, true, false, List, [], ◌∷◌, ◌++◌, arith}
use Rattle.std.specs.Prelude.{if◌then◌else◌}
use Rattle.std.specs.List.{flat_map, range_with_len}
use Rattle.std.proofs.lemmas.Bool.{cases_lt}
use Rattle.papergrid_values.specs.Positions.{position_of}
use Rattle.papergrid_values.specs.declared.direction.Direction.TheVariants.{Rows}
use Rattle.papergrid_values.specs.declared.position.Position.{Position}
use Rattle.papergrid_layout.specs.Places.{IsVisibleCell, begin_along}
use Rattle.papergrid_draw.specs.Characters.{vertical}
use Rattle.papergrid_draw.specs.Contents.{block_at, content}
use Rattle.papergrid_draw.specs.Drawings.{Drawing, layout_of}
use Rattle.papergrid_draw.specs.Drawn.{column_pieces, draws_vertical, rule_line, stands_over, text_line, vertical_pieces}
use Rattle.papergrid_draw.specs.Laws.{terminal_columns, stretch_pieces}
use Rattle.papergrid_draw.specs.Pieces.{Piece}
use Rattle.papergrid_draw.specs.Separated.{AreApartBefore, HasSeparators, IsHonest}
use Rattle.papergrid_draw.specs.Tiles.{IsTiled}
use Rattle.papergrid_draw.specs.ForProofs.Pages.{row_start, text_start}
use Rattle.papergrid_draw.proofs.Ranges.{first_of, rule_first}
use Rattle.papergrid_draw.proofs.ColumnLemmas.{cell-of, column-begun, column-inside, vertical-there}
use Rattle.papergrid_draw.proofs.OverLemmas.{all-pieces, crossing-free, crossing-there, crossing_pieces, over-begun, over-free, over-inside, over-known, over_pieces, parts, rule_pieces}
use Rattle.papergrid_draw.proofs.SeparateLemmas.{content-begins, content-separate, crossing-fills, segment-fills, vertical-fills}
use Rattle.papergrid_draw.proofs.TileLemmas.{has-owner}
use Rattle.papergrid_draw.proofs.WideLemmas.{AreFills, AreSeparate, Begins, IsColumn, begin-append, columns-separate, fills-append, fills-begin, fills-separate, separate-append, separate-fills}

module _ (d : Drawing) (honest : IsHonest d) (separated : HasSeparators d) (apart : AreApartBefore d) where
  fills-column : (c : ℕ) (pieces : List Piece) → AreFills pieces → IsColumn c pieces
  fills-column c pieces fills = record { separate = separate-fills pieces fills; begins = λ _. fills-begin pieces fills }

  -- a cell after the line before it
  cell-column : (c n : ℕ) (o : Position) (line : List Piece) → IsVisibleCell (layout_of d) o → o.col ≡ c → AreFills line →
      (draws_vertical d c ≡ true → (line ≡ [] → ⊥)) → IsColumn c (line ++ content (block_at d o) n)
  cell-column c n o line cell here fills drawn =
      let filled = separated.filled o cell in
      let measured = honest o cell in
      record {
        separate = fills-separate line (content (block_at d o) n) fills (content-separate (block_at d o) filled measured n);
        begins = λ some. elim (apart o cell (omega (arith, some, here))) [
          | inl vertical ↦ in_case line fills (drawn (ap (draws_vertical d) (sym here) ∙ vertical))
          | inr padded ↦ begin-append line (content (block_at d o) n) (fills-begin line fills) (content-begins (block_at d o) filled measured padded n)
        ];
      }
    where
      in_case : (front : List Piece) → AreFills front → (front ≡ [] → ⊥) → Begins (front ++ content (block_at d o) n)
      in_case [] fills some = absurd (some refl)
      in_case (piece ∷ front) fills some = fills.0

  module _ (tiled : IsTiled (layout_of d)) where
    text-column : (r k c : ℕ) → r < d.shape.0 → c < d.shape.1 → IsColumn c (column_pieces d r k c)
    text-column r k c row_in col_in =
        let found = has-owner (layout_of d) tiled (position_of (r, c)) (row_in, col_in) in
        let o = found.0 in
        let has = found.1 in
        let left : o.col ≤ c = has.owns.covers.after_left in
        elim (cases_lt o.col c) [
          | inl behind ↦ subst (IsColumn c) (sym (column-inside d r k c o has.is behind)) (fills-column c [] tt)
          | inr from ↦
              let here : o.col ≡ c = omega (arith, from, left) in
              subst (IsColumn c) (sym (column-begun d r k c o has.is here))
              (cell-column c (text_start d r + k - begin_along (layout_of d) Rows o) o (vertical_pieces d r c k) (cell-of (layout_of d) (position_of (r, c)) o has) here
              (vertical-fills d separated r c k) (λ line none. (let one = ap terminal_columns (sym (vertical-there d r c k line) ∙ none) in omega arith)))
        ]

    pub text-separate : (r k : ℕ) → r < d.shape.0 → AreSeparate (text_line d r k)
    text-separate r k row_in =
        let last = vertical-fills d separated r d.shape.1 k in
        separate-append (flat_map (column_pieces d r k) (range_with_len 0 d.shape.1)) (vertical_pieces d r d.shape.1 k)
        (columns-separate (column_pieces d r k) 0 d.shape.1 (λ c below. text-column r k c row_in (omega (arith, below)))).separate
        (separate-fills (vertical_pieces d r d.shape.1 k) last) (fills-begin (vertical_pieces d r d.shape.1 k) last)

    -- a column of a horizontal line
    rule-column : (i c : ℕ) → c < d.shape.1 → IsColumn c (rule_pieces d i c)
    rule-column i c col_in = subst (IsColumn c) (sym (parts d i c)) (in_case (stands_over d i c) refl)
      where
        in_case : (over : Bool) → stands_over d i c ≡ over → IsColumn c (crossing_pieces d i c ++ over_pieces d i c)
        in_case false free =
            fills-column c (crossing_pieces d i c ++ over_pieces d i c)
            (fills-append (crossing_pieces d i c) (over_pieces d i c) (crossing-fills d separated i c) (subst AreFills (sym (over-free d i c free)) (segment-fills d separated i c)))
        in_case true over =
            let known = over-known d tiled i c col_in over in
            let o = known.0 in
            let has = known.1.owns in
            let left : o.col ≤ c = has.owns.covers.after_left in
            elim (cases_lt o.col c) [
              | inl behind ↦
                  fills-column c (crossing_pieces d i c ++ over_pieces d i c)
                  (fills-append (crossing_pieces d i c) (over_pieces d i c) (crossing-fills d separated i c)
                  (subst AreFills (sym (ap (flat_map stretch_pieces) (over-inside d i c o over has.is behind))) tt))
              | inr from ↦
                  let here : o.col ≡ c = omega (arith, from, left) in
                  let first : rule_first d i c ≡ c = (λ k. if over k then first_of (has.is k) c else c) ∙ here in
                  let free = crossing-free d tiled i c (λ _. first) (omega (arith, col_in)) in
                  subst (IsColumn c) (sym (ap (λ pieces. crossing_pieces d i c ++ pieces) (over-begun d i c o over has.is here)))
                  (cell-column c (row_start d i - begin_along (layout_of d) Rows o) o (crossing_pieces d i c) (cell-of (layout_of d) (position_of (i, c)) o has) here
                  (crossing-fills d separated i c) (λ line none. (let one = ap terminal_columns (sym (crossing-there d i c line free) ∙ none) in omega arith)))
            ]

    pub rule-separate : (i : ℕ) → AreSeparate (flat_map stretch_pieces (rule_line d i))
    rule-separate i =
        let last = crossing-fills d separated i d.shape.1 in
        subst AreSeparate (sym (all-pieces d i))
        (separate-append (flat_map (rule_pieces d i) (range_with_len 0 d.shape.1)) (crossing_pieces d i d.shape.1)
        (columns-separate (rule_pieces d i) 0 d.shape.1 (λ c below. rule-column i c (omega (arith, below)))).separate
        (separate-fills (crossing_pieces d i d.shape.1) last) (fills-begin (crossing_pieces d i d.shape.1) last))
