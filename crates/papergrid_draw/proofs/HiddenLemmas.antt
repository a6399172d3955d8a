-- What stands in hidden cells is not drawn.
use Rattle.std.proofs.Common.{◌≡◌, ◌∙◌, ap, ap₂, refl, ℕ, zero, suc, ◌+◌, ◌-◌, ◌<◌, ◌≤◌, ◌==◌, ◌||◌, true, false, if◌then◌else◌, nat_lt, List, [], ◌∷◌, ◌++◌, map, Option, Some, None, arith}
use Rattle.std.specs.List.{enumerate_from, flat_map, join_with_byte, range_with_len}
use Rattle.std.proofs.lemmas.Bool.{and_parts, ltb-true}
use Rattle.papergrid_values.specs.Positions.{position_of}
use Rattle.papergrid_values.specs.declared.direction.Direction.TheVariants.{Columns, Rows}
use Rattle.papergrid_values.specs.declared.position.Position.{Position}
use Rattle.papergrid_layout.specs.Places.{IsVisibleCell, begin_along, length_along, line_offset, track_line, track_size}
use Rattle.papergrid_draw.specs.Bytes.{line_bytes}
use Rattle.papergrid_draw.specs.Characters.{segment}
use Rattle.papergrid_draw.specs.Contents.{block_at, content, look_of}
use Rattle.papergrid_draw.specs.Drawings.{Drawing, layout_of}
use Rattle.papergrid_draw.specs.Drawn.{OnLine, RuleLine, TextLine, after_these, column_pieces, column_stretch, content_from, crossing_stretch, drawn_lines, draws_horizontal, over_line, owner_at, row_lines, rule_line, rule_lines, stands_over, text_line, vertical_pieces}
use Rattle.papergrid_draw.specs.Margins.{printed, with_margins}
use Rattle.papergrid_draw.specs.Pieces.{Piece}
use Rattle.papergrid_draw.proofs.PageLemmas.{owner-behind, owner-shown}
use Rattle.papergrid_draw.proofs.PrinterLemmas.{bottom_lines, top_lines}

-- what agrees at each number of a range
flat_map-within : {X : Type 0} (f g : ℕ → List X) (a n : ℕ) → ((k : ℕ) → a ≤ k → k < a + n → f k ≡ g k) →
    flat_map f (range_with_len a n) ≡ flat_map g (range_with_len a n)
flat_map-within f g a zero same = refl
flat_map-within f g a (suc n) same =
    ap₂ (λ xs ys. xs ++ ys) (same a (omega arith) (omega arith))
    (flat_map-within f g (a + 1) n (λ k from below. same k (omega arith) (omega arith)))

-- an owner of a position of the table is a visible cell
pub owner-visible : (d : Drawing) (r c : ℕ) (o : Position) → r < d.shape.0 → c < d.shape.1 → owner_at d r c ≡ Some o → IsVisibleCell (layout_of d) o
owner-visible d r c o row_in col_in is =
    let behind = owner-behind (layout_of d) (position_of (r, c)) o is in record {
      visible = owner-shown (layout_of d) (position_of (r, c)) o is;
      row_in = omega (arith, behind.0, row_in);
      col_in = omega (arith, behind.1, col_in);
    }

-- what one cell stands over is no line after the last row
pub over-within : (d : Drawing) (i c : ℕ) → stands_over d i c ≡ true → i < d.shape.0
over-within d i c over =
    let inner = and_parts (nat_lt 0 i) _ over in
    let within = and_parts (nat_lt i d.shape.0) _ inner.1 in
    ltb-true i d.shape.0 within.0

-- a drawing, and other texts and colours that are the same in each visible cell
module _ (d : Drawing) (lines : Position → List (List ℕ × ℕ)) (color : Position → Option (List ℕ × List ℕ))
    (same : (p : Position) → IsVisibleCell (layout_of d) p → (d.lines p ≡ lines p) × (d.color p ≡ color p)) where
  abbrev other : Drawing
  other = record d { lines = lines; color = color }

  same-block : (p : Position) → IsVisibleCell (layout_of d) p → block_at d p ≡ block_at other p
  same-block p cell = λ i. record {
    look = look_of d.config p;
    lines = (same p cell).0 i;
    color = (same p cell).1 i;
    width = length_along (layout_of d) Columns p;
    height = length_along (layout_of d) Rows p;
  }

  same-content : (r c y : ℕ) → r < d.shape.0 → c < d.shape.1 →
      content_from d (owner_at d r c) c y ≡ content_from other (owner_at d r c) c y
  same-content r c y row_in col_in =
      elim (owner_at d r c) as (λ o. owner_at d r c ≡ o → content_from d o c y ≡ content_from other o c y) [
        | None ↦ λ is. refl
        | Some o ↦ λ is.
            ap (λ b. if o.col == c then Some (content b (y - begin_along (layout_of d) Rows o)) else None)
            (same-block o (owner-visible d r c o row_in col_in is))
      ] refl

  -- ---- lines of rows

  same-column : (r k c : ℕ) → r < d.shape.0 → c < d.shape.1 → column_pieces d r k c ≡ column_pieces other r k c
  same-column r k c row_in col_in =
      ap (after_these d (vertical_pieces d r c k))
      (same-content r c (begin_along (layout_of d) Rows (position_of (r, c)) + k) row_in col_in)

  same-text : (r : ℕ) → r < d.shape.0 → (k : ℕ) → text_line d r k ≡ text_line other r k
  same-text r row_in k =
      ap (λ pieces. pieces ++ vertical_pieces d r d.shape.1 k)
      (flat_map-within (column_pieces d r k) (column_pieces other r k) 0 d.shape.1
      (λ c from below. same-column r k c row_in (omega (arith, below))))

  -- ---- horizontal lines

  abbrev line_at : ℕ → ℕ
  line_at i = line_offset (track_size (layout_of d) Rows) (track_line (layout_of d) Rows) i

  same-stretch : (i c : ℕ) → c < d.shape.1 → column_stretch d i c ≡ column_stretch other i c
  same-stretch i c col_in =
      let rest = map OnLine (segment d.config d.shape (position_of (i, c)) (d.widths c)) in
      elim (stands_over d i c) as (λ b. stands_over d i c ≡ b →
      (if b then over_line d (content_from d (owner_at d i c) c (line_at i)) else rest)
      ≡ (if b then over_line other (content_from other (owner_at d i c) c (line_at i)) else rest)) [
        | true ↦ λ over. ap (over_line d) (same-content i c (line_at i) (over-within d i c over) col_in)
        | false ↦ λ over. refl
      ] refl

  same-rule : (i : ℕ) → rule_line d i ≡ rule_line other i
  same-rule i =
      ap (λ stretches. stretches ++ crossing_stretch d i d.shape.1)
      (flat_map-within (λ c. crossing_stretch d i c ++ column_stretch d i c) (λ c. crossing_stretch other i c ++ column_stretch other i c)
      0 d.shape.1
      (λ c from below. ap (λ stretches. crossing_stretch d i c ++ stretches) (same-stretch i c (omega (arith, below)))))

  same-rules : (i : ℕ) → rule_lines d i ≡ rule_lines other i
  same-rules i = ap (λ line. if draws_horizontal d i then RuleLine line ∷ [] else []) (same-rule i)

  -- ---- all lines

  same-row : (r : ℕ) → r < d.shape.0 → row_lines d r ≡ row_lines other r
  same-row r row_in =
      ap₂ (λ rule (text : ℕ → List Piece). rule ++ map (λ k. TextLine (text k)) (range_with_len 0 (d.heights r)))
      (same-rules r) (λ i k. same-text r row_in k i)

  same-lines : drawn_lines d ≡ drawn_lines other
  same-lines =
      ap₂ (λ rows last. rows ++ last)
      (flat_map-within (row_lines d) (row_lines other) 0 d.shape.0 (λ r from below. same-row r (omega (arith, below))))
      (same-rules d.shape.0)

  same-printed : printed d ≡ printed other
  unfolding printed
  same-printed =
      ap (λ drawn. if d.shape.0 == 0 || d.shape.1 == 0 then []
      else join_with_byte 10 (top_lines d ++ map (with_margins d) (enumerate_from 0 (map line_bytes drawn)) ++ bottom_lines d))
      same-lines

-- of two drawings that differ in hidden cells alone
pub same-picture : (d e : Drawing) → d.config ≡ e.config → d.shape ≡ e.shape → d.widths ≡ e.widths → d.heights ≡ e.heights →
    ((p : Position) → IsVisibleCell (layout_of d) p → (d.lines p ≡ e.lines p) × (d.color p ≡ e.color p)) → printed d ≡ printed e
same-picture d e config shape widths heights same =
    same-printed d e.lines e.color same
    ∙ ap printed (λ i. record {
      config = config i;
      widths = widths i;
      heights = heights i;
      shape = shape i;
      lines = e.lines;
      color = e.color;
    })
