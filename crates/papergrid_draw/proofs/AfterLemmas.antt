-- In each line of a drawn table a separator stands between any two texts, if one stands after each cell.
use Rattle.std.proofs.Common.{◌≡◌, ◌∙◌, ap, sym, subst, refl, inl, inr, ℕ, zero, suc, ◌+◌, ◌-◌, ◌<◌, ◌≤◌, ◌⊎◌, Bool, true, false, List, [], ◌∷◌, ◌++◌, append-nil, arith}
use Rattle.std.specs.Prelude.{if◌then◌else◌}
use Rattle.std.specs.List.{flat_map, range_with_len}
use Rattle.std.proofs.lemmas.Bool.{cases_lt}
use Rattle.papergrid_values.specs.Positions.{position_of}
use Rattle.papergrid_values.specs.declared.direction.Direction.TheVariants.{Columns, Rows}
use Rattle.papergrid_values.specs.declared.position.Position.{Position}
use Rattle.papergrid_layout.specs.Places.{IsVisibleCell, begin_along}
use Rattle.papergrid_draw.specs.Contents.{block_at, content}
use Rattle.papergrid_draw.specs.Drawings.{Drawing, layout_of}
use Rattle.papergrid_draw.specs.Drawn.{column_pieces, column_stretch, draws_vertical, owner_at, rule_line, stands_over, text_line, vertical_pieces}
use Rattle.papergrid_draw.specs.Laws.{terminal_columns, stretch_pieces}
use Rattle.papergrid_draw.specs.Pieces.{Piece}
use Rattle.papergrid_draw.specs.Separated.{AreApartAfter, HasSeparators, IsHonest}
use Rattle.papergrid_draw.specs.Tiles.{IsTiled}
use Rattle.papergrid_draw.specs.ForProofs.Pages.{row_start, text_start}
use Rattle.papergrid_draw.proofs.Ranges.{AreRanges, first_of, many_of, rule_first, rule_many, text_first, text_many}
use Rattle.papergrid_draw.proofs.ColumnLemmas.{cell-of, column-begun, column-inside, text-ranges, vertical-there}
use Rattle.papergrid_draw.proofs.LineLemmas.{range-more}
use Rattle.papergrid_draw.proofs.OverLemmas.{all-pieces, crossing-covered, crossing-free, crossing-from, crossing-there, crossing_pieces, over-begun, over-free, over-inside, over-known, over_pieces, parts, rule-ranges, rule_pieces}
use Rattle.papergrid_draw.proofs.SeparateLemmas.{content-ends, content-separate, crossing-fills, segment-fills, vertical-fills}
use Rattle.papergrid_draw.proofs.TileLemmas.{has-owner}
use Rattle.papergrid_draw.proofs.WideLemmas.{AreFills, AreSeparate, Begins, Ends, end-after, end-append, fills-begin, fills-end, fills-separate, separate-after, separate-append, separate-fills}

-- ---- ranges of columns, each of which ends with a separator or has a line after it

module _ (count : ℕ) (first many : ℕ → ℕ) (drawn : ℕ → Bool) where
  -- what stands in the column that a range begins in: the line before it, and the rest
  pub record IsRange (c : ℕ) (pieces : List Piece) : Type 0 where
    pub line : List Piece
    pub body : List Piece
    pub is : pieces ≡ line ++ body
    pub fills : AreFills line
    pub there : drawn c ≡ true → line ≡ [] → ⊥
    pub separate : AreSeparate body
    pub after : c + many c < count → (drawn (c + many c) ≡ true) ⊎ Ends body

  -- up to a range that begins in column c all is separate, and ends with a separator if no line is drawn
  record IsReady (c : ℕ) (before : List Piece) : Type 0 where
    separate : AreSeparate before
    ends : (drawn c ≡ true) ⊎ Ends before

  -- up to the end of its range, column c included
  record IsDone (c : ℕ) (before : List Piece) : Type 0 where
    separate : AreSeparate before
    ends : first c + many c < count → (drawn (first c + many c) ≡ true) ⊎ Ends before

  begins-line : (line body : List Piece) → (line ≡ [] → ⊥) → AreFills line → Begins (line ++ body)
  begins-line [] body some fills = absurd (some refl)
  begins-line (piece ∷ line) body some fills = fills.0

  some-line : (line body : List Piece) → (line ≡ [] → ⊥) → line ++ body ≡ [] → ⊥
  some-line [] body some = absurd (some refl)
  some-line (piece ∷ line) body some = λ none. (let fewer = ap terminal_columns none in cc)

  range-separate : (c : ℕ) (before pieces : List Piece) → IsReady c before → IsRange c pieces → AreSeparate (before ++ pieces)
  range-separate c before pieces ready range =
      let own = fills-separate range.line range.body range.fills range.separate in
      subst (λ more. AreSeparate (before ++ more)) (sym range.is) (elim ready.ends [
        | inl drawn ↦ separate-append before (range.line ++ range.body) ready.separate own (begins-line range.line range.body (range.there drawn) range.fills)
        | inr ends ↦ separate-after before (range.line ++ range.body) ready.separate ends own
      ])

  range-ends : (c : ℕ) (before pieces : List Piece) → IsReady c before → (range : IsRange c pieces) → Ends range.body → Ends (before ++ pieces)
  range-ends c before pieces ready range body =
      let own = end-append range.line range.body (fills-end range.line range.fills) body in
      subst (λ more. Ends (before ++ more)) (sym range.is) (elim ready.ends [
        | inl drawn ↦ end-after before (range.line ++ range.body) (some-line range.line range.body (range.there drawn)) own
        | inr ends ↦ end-append before (range.line ++ range.body) ends own
      ])

  range-done : (c : ℕ) (before pieces : List Piece) → first c ≡ c → IsReady c before → IsRange c pieces → IsDone c (before ++ pieces)
  range-done c before pieces begins ready range = record {
    separate = range-separate c before pieces ready range;
    ends = λ within. elim (range.after (omega (arith, within, begins))) [
      | inl drawn ↦ inl (subst (λ k. drawn_at (k + many c)) (sym begins) drawn)
      | inr body ↦ inr (range-ends c before pieces ready range body)
    ];
  }
    where
      drawn_at : ℕ → Type 0
      drawn_at e = drawn e ≡ true

  module _ (pieces : ℕ → List Piece) (ranges : AreRanges count first many) (begun : (c : ℕ) → c < count → first c ≡ c → IsRange c (pieces c))
      (inside : (c : ℕ) → c < count → first c < c → pieces c ≡ []) where
    abbrev before : ℕ → List Piece
    before c = flat_map pieces (range_with_len 0 c)

    next-done : (c : ℕ) → c + 1 < count → IsDone c (before (c + 1)) → IsDone (c + 1) (before (c + 1 + 1))
    next-done c below done =
        let in_range = ranges.within c (omega (arith, below)) in
        let from : first c ≤ c = in_range.0 in
        let to : c < first c + many c = in_range.1 in
        let next_range = ranges.within (c + 1) below in
        let next_from : first (c + 1) ≤ c + 1 = next_range.0 in
        let next_to : c + 1 < first (c + 1) + many (c + 1) = next_range.1 in
        subst (IsDone (c + 1)) (sym (range-more pieces (c + 1))) (elim (cases_lt (first (c + 1)) (c + 1)) [
          | inl behind ↦
              let same = ranges.shared (c + 1) c below (omega arith) (omega arith) in
              let start : first c ≡ first (c + 1) = same.0 in
              let length : many c ≡ many (c + 1) = same.1 in
              let none : before (c + 1) ≡ before (c + 1) ++ pieces (c + 1) =
              sym (ap (λ more. before (c + 1) ++ more) (inside (c + 1) below behind) ∙ append-nil (before (c + 1))) in
              subst (IsDone (c + 1)) none (record {
                separate = done.separate;
                ends = subst (λ e. e < count → (drawn e ≡ true) ⊎ Ends (before (c + 1))) (λ i. start i + length i) done.ends;
              })
          | inr here ↦
              let begins : first (c + 1) ≡ c + 1 = omega arith in
              let reached : first c + many c ≡ c + 1 = elim (cases_lt (c + 1) (first c + many c)) [
                | inl further ↦ (let same : first (c + 1) ≡ first c = (ranges.shared c (c + 1) (omega (arith, below)) (omega arith) further).0 in absurd (omega arith))
                | inr past ↦ omega arith
              ] in
              range-done (c + 1) (before (c + 1)) (pieces (c + 1)) begins
              (record { separate = done.separate; ends = subst (λ e. (drawn e ≡ true) ⊎ Ends (before (c + 1))) reached (done.ends (omega (arith, below))) })
              (begun (c + 1) below begins)
        ])

    up-to : (c : ℕ) → c < count → IsDone c (before (c + 1))
    up-to zero below =
        let from : first 0 ≤ 0 = (ranges.within 0 below).0 in
        let begins : first 0 ≡ 0 = omega arith in
        subst (IsDone 0) (sym (range-more pieces 0)) (range-done 0 [] (pieces 0) begins (record { separate = tt; ends = inr tt }) (begun 0 below begins))
    up-to (suc c) below =
        subst (λ n. IsDone n (before (n + 1))) (let e : c + 1 ≡ suc c = omega arith in e) (next-done c (omega arith) (up-to c (omega arith)))

    pub ranges-separate : AreSeparate (flat_map pieces (range_with_len 0 count))
    ranges-separate = by count refl
      where
        by : (n : ℕ) → n ≡ count → AreSeparate (flat_map pieces (range_with_len 0 n))
        by zero is = tt
        by (suc n) is =
            subst (λ m. AreSeparate (flat_map pieces (range_with_len 0 m))) (let e : n + 1 ≡ suc n = omega arith in e)
            (up-to n (omega arith)).separate

-- ---- the lines of a table

module _ (d : Drawing) (honest : IsHonest d) (separated : HasSeparators d) (apart : AreApartAfter d) (tiled : IsTiled (layout_of d)) where
  -- a cell after the line before it
  cell-range : (first many : ℕ → ℕ) (c n : ℕ) (o : Position) (line pieces : List Piece) → IsVisibleCell (layout_of d) o → o.col ≡ c →
      many c ≡ (layout_of d).grid.span Columns o → pieces ≡ line ++ content (block_at d o) n → AreFills line → (draws_vertical d c ≡ true → line ≡ [] → ⊥) →
      IsRange d.shape.1 first many (draws_vertical d) c pieces
  cell-range first many c n o line pieces cell here wide is fills drawn =
      let filled = separated.filled o cell in
      let measured = honest o cell in
      let end : o.col + (layout_of d).grid.span Columns o ≡ c + many c = omega (arith, here, wide) in
      record {
        line = line;
        body = content (block_at d o) n;
        is = is;
        fills = fills;
        there = drawn;
        separate = content-separate (block_at d o) filled measured n;
        after = λ within. elim (apart o cell (omega (arith, within, end))) [
          | inl vertical ↦ inl (ap (draws_vertical d) (sym end) ∙ vertical)
          | inr padded ↦ inr (content-ends (block_at d o) filled measured padded n)
        ];
      }

  pub text-after : (r k : ℕ) → r < d.shape.0 → AreSeparate (text_line d r k)
  text-after r k row_in =
      let last = vertical-fills d separated r d.shape.1 k in
      separate-append (flat_map (column_pieces d r k) (range_with_len 0 d.shape.1)) (vertical_pieces d r d.shape.1 k)
      (ranges-separate d.shape.1 (text_first d r) (text_many d r) (draws_vertical d) (column_pieces d r k) (text-ranges d tiled r row_in) begun inside)
      (separate-fills (vertical_pieces d r d.shape.1 k) last) (fills-begin (vertical_pieces d r d.shape.1 k) last)
    where
      begun : (c : ℕ) → c < d.shape.1 → text_first d r c ≡ c → IsRange d.shape.1 (text_first d r) (text_many d r) (draws_vertical d) c (column_pieces d r k c)
      begun c below first =
          let found = has-owner (layout_of d) tiled (position_of (r, c)) (row_in, below) in
          let o = found.0 in
          let has = found.1 in
          let here : o.col ≡ c = subst (λ owner. first_of owner c ≡ c) has.is first in
          cell-range (text_first d r) (text_many d r) c (text_start d r + k - begin_along (layout_of d) Rows o) o (vertical_pieces d r c k) (column_pieces d r k c)
          (cell-of (layout_of d) (position_of (r, c)) o has) here (ap (many_of (layout_of d)) has.is) (column-begun d r k c o has.is here)
          (vertical-fills d separated r c k) (λ line none. (let one = ap terminal_columns (sym (vertical-there d r c k line) ∙ none) in omega arith))

      inside : (c : ℕ) → c < d.shape.1 → text_first d r c < c → column_pieces d r k c ≡ []
      inside c below left =
          let found = has-owner (layout_of d) tiled (position_of (r, c)) (row_in, below) in
          column-inside d r k c found.0 found.1.is (subst (λ owner. first_of owner c < c) found.1.is left)

  pub rule-after : (i : ℕ) → AreSeparate (flat_map stretch_pieces (rule_line d i))
  rule-after i =
      let last = crossing-fills d separated i d.shape.1 in
      subst AreSeparate (sym (all-pieces d i))
      (separate-append (flat_map (rule_pieces d i) (range_with_len 0 d.shape.1)) (crossing_pieces d i d.shape.1)
      (ranges-separate d.shape.1 (rule_first d i) (rule_many d i) (draws_vertical d) (rule_pieces d i) (rule-ranges d tiled i) begun inside)
      (separate-fills (crossing_pieces d i d.shape.1) last) (fills-begin (crossing_pieces d i d.shape.1) last))
    where
      crossed : (c : ℕ) → c < d.shape.1 → rule_first d i c ≡ c → draws_vertical d c ≡ true → crossing_pieces d i c ≡ [] → ⊥
      crossed c below first line none =
          let free = crossing-free d tiled i c (λ _. first) (omega (arith, below)) in
          let one = ap terminal_columns (sym (crossing-there d i c line free) ∙ none) in
          omega arith

      begun : (c : ℕ) → c < d.shape.1 → rule_first d i c ≡ c → IsRange d.shape.1 (rule_first d i) (rule_many d i) (draws_vertical d) c (rule_pieces d i c)
      begun c below first = in_case (stands_over d i c) refl
        where
          in_case : (over : Bool) → stands_over d i c ≡ over → IsRange d.shape.1 (rule_first d i) (rule_many d i) (draws_vertical d) c (rule_pieces d i c)
          in_case true over =
              let known = over-known d tiled i c below over in
              let o = known.0 in
              let has = known.1.owns in
              let at : rule_first d i c ≡ o.col = (λ k. if over k then first_of (has.is k) c else c) in
              let wide : rule_many d i c ≡ (layout_of d).grid.span Columns o = (λ k. if over k then many_of (layout_of d) (has.is k) else 1) in
              let here : o.col ≡ c = sym at ∙ first in
              cell-range (rule_first d i) (rule_many d i) c (row_start d i - begin_along (layout_of d) Rows o) o (crossing_pieces d i c) (rule_pieces d i c)
              (cell-of (layout_of d) (position_of (i, c)) o has) here wide
              (parts d i c ∙ ap (λ pieces. crossing_pieces d i c ++ pieces) (over-begun d i c o over has.is here))
              (crossing-fills d separated i c) (crossed c below first)
          in_case false free =
              let fills = subst AreFills (sym (over-free d i c free)) (segment-fills d separated i c) in
              record {
                line = crossing_pieces d i c;
                body = over_pieces d i c;
                is = parts d i c;
                fills = crossing-fills d separated i c;
                there = crossed c below first;
                separate = separate-fills (over_pieces d i c) fills;
                after = λ _. inr (fills-end (over_pieces d i c) fills);
              }

      inside : (c : ℕ) → c < d.shape.1 → rule_first d i c < c → rule_pieces d i c ≡ []
      inside c below left =
          ap (flat_map stretch_pieces)
          (λ k. crossing-covered d i c (crossing-from d tiled i c below left) k ++ none_of (stands_over d i c) refl left k)
        where
          none_of : (s : Bool) → stands_over d i c ≡ s → (if s then first_of (owner_at d i c) c else c) < c → column_stretch d i c ≡ []
          none_of true over left =
              let known = over-known d tiled i c below over in
              over-inside d i c known.0 over known.1.owns.is (subst (λ owner. first_of owner c < c) known.1.owns.is left)
          none_of false free left = absurd (omega (arith, left))
