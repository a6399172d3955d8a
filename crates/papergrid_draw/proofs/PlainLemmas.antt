-- What is known of a table whose cells span nothing, and whose lines have no part, colour or character of a single cell.
use Rattle.std.proofs.Common.{◌≡◌, ◌∙◌, ap, sym, refl, inl, inr, ℕ, ◌+◌, ◌-◌, ◌<◌, ◌≤◌, Bool, true, false, ◌&&◌, List, [], ◌∷◌, ◌++◌, Option, Some, None, get_or, length, subst, arith}
use Rattle.std.proofs.Math.Bool.{and-false}
use Rattle.std.specs.Prelude.{◌==◌, IsSome, if◌then◌else◌, nat_lt, unwrap_or}
use Rattle.std.specs.FinMap.{get}
use Rattle.std.specs.Option.{option_or}
use Rattle.std.proofs.lemmas.Bool.{cases_lt, eq-eqb, le-ltb}
use Rattle.std.proofs.Math.Seq.{get_or-append_seam}
use Rattle.std.proofs.lemmas.List.{append-nil, get_or_append_left, length-append}
use Rattle.std.proofs.lemmas.List.Sums.{sum_by-cons}
use Rattle.papergrid_values.specs.Positions.{position_of}
use Rattle.papergrid_values.specs.declared.direction.Direction.{Direction}
use Rattle.papergrid_values.specs.declared.direction.Direction.TheVariants.{Columns, Rows}
use Rattle.papergrid_values.specs.declared.offset.Offset.{Offset}
use Rattle.papergrid_values.specs.declared.offset.Offset.TheVariants.{End, Start}
use Rattle.papergrid_values.specs.declared.position.Position.{Position}
use Rattle.papergrid_tables.specs.BorderParts.{BorderParts, HasNoCellParts, found_vertical, no_parts}
use Rattle.papergrid_tables.specs.Overrides.{found_override, override_at}
use Rattle.papergrid_tables.specs.StoredBorders.{parts_of_borders}
use Rattle.papergrid_maps.specs.ForProofs.SpanVisible.{visible_test, visible_without_spans}
use Rattle.papergrid_config.specs.Grids.{spanned_grid}
use Rattle.papergrid_config.specs.Queries.{HasCommonLines}
use Rattle.papergrid_config.specs.declared.spanned.SpannedConfig.{SpannedConfig}
use Rattle.papergrid_layout.specs.Places.{IsInsideTable, begin_along, extent, length_along, sum_from, track_line, track_size}
use Rattle.papergrid_draw.specs.Bytes.{piece_bytes, pieces_bytes}
use Rattle.papergrid_draw.specs.Characters.{vertical, vertical_character, vertical_color}
use Rattle.papergrid_draw.specs.Contents as contents
use Rattle.papergrid_draw.specs.Contents.{block_at, content}
use Rattle.papergrid_draw.specs.Drawings.{Drawing, layout_of}
use Rattle.papergrid_draw.specs.Drawn.{after_these, column_pieces, content_from, draws_vertical, owner_at, stands_over, stands_over_crossing, vertical_pieces}
use Rattle.papergrid_draw.specs.Pieces.{Line, fill_text}
use Rattle.papergrid_draw.specs.Tiles.{IsTiled}
use Rattle.papergrid_draw.specs.ForProofs.Pages.{AreSlots, character_bytes, IsSlot, text_start}
use Rattle.papergrid_draw.specs.ForProofs.Plain.{IsPlain}
use Rattle.papergrid_draw.specs.ForProofs.Sheets.{AtText}
use Rattle.papergrid_draw.specs.declared.page.Slot.{Slot}
use Rattle.papergrid_draw.specs.declared.sheet.Sheet.{Sheet}
use Rattle.papergrid_draw.proofs.PageLemmas.{crossing-test, over-test}
use Rattle.papergrid_draw.proofs.PrinterLemmas.{slots-at}
use Rattle.papergrid_draw.proofs.RuleLemmas.{crossing-last}
use Rattle.papergrid_draw.proofs.TileLemmas.{single-owner, single-tiled}

-- ---- spans

span-one : (held : Option ℕ) → (IsSome held → ⊥) → unwrap_or held 1 ≡ 1
span-one None none = refl
span-one (Some n) none = absurd (none refl)

module _ (config : SpannedConfig) (plain : IsPlain config) where
  -- each cell is one position
  pub plain-single : (direction : Direction) (p : Position) → (spanned_grid config).span direction p ≡ 1
  plain-single Columns p = span-one (get config.spans.columns p) (λ some. plain.columns (p, some))
  plain-single Rows p = span-one (get config.spans.rows p) (λ some. plain.rows (p, some))

  -- none is hidden
  pub plain-shown : (p : Position) → (spanned_grid config).shows p ≡ true
  plain-shown p = (visible_test config.spans p).1.1 (visible_without_spans config.spans p plain.columns plain.rows)

extent-one : (size : ℕ → ℕ) (line : ℕ → Bool) (s : ℕ) → extent size line s 1 ≡ size s
extent-one size line s = let e : sum_from size s 1 ≡ size s + 0 = sum_by-cons size s [] in omega arith

and-last : (a b e : Bool) → e ≡ false → (a && (b && e)) ≡ false
and-last true true e none = none
and-last true false e none = refl
and-last false b e none = refl

module _ (d : Drawing) (plain : IsPlain d.config) where
  pub plain-tiled : IsTiled (layout_of d)
  plain-tiled = single-tiled (layout_of d) (plain-shown d.config plain) (plain-single d.config plain)

  -- each position is its own owner
  pub plain-owner : (r c : ℕ) → owner_at d r c ≡ Some (position_of (r, c))
  plain-owner r c = single-owner (layout_of d) (plain-shown d.config plain) (plain-single d.config plain) (position_of (r, c))

  -- ---- cells

  -- a cell is as wide as its column and as high as its row
  pub plain-width : (p : Position) → length_along (layout_of d) Columns p ≡ d.widths p.col
  plain-width p =
      ap (λ n. extent (track_size (layout_of d) Columns) (track_line (layout_of d) Columns) p.col n) (plain-single d.config plain Columns p)
      ∙ extent-one (track_size (layout_of d) Columns) (track_line (layout_of d) Columns) p.col

  pub plain-height : (p : Position) → length_along (layout_of d) Rows p ≡ d.heights p.row
  plain-height p =
      ap (λ n. extent (track_size (layout_of d) Rows) (track_line (layout_of d) Rows) p.row n) (plain-single d.config plain Rows p)
      ∙ extent-one (track_size (layout_of d) Rows) (track_line (layout_of d) Rows) p.row

  -- it ends within the table
  pub plain-inside : (p : Position) → p.row < d.shape.0 → p.col < d.shape.1 → IsInsideTable (layout_of d) p
  plain-inside p row_in col_in =
      let wide = plain-single d.config plain Columns p in
      let high = plain-single d.config plain Rows p in
      record { visible = plain-shown d.config plain p; across = omega (arith, wide, col_in); down = omega (arith, high, row_in) }

  -- it is kept in its column before its first line
  pub plain-slot : {T : Type 0} (r c : ℕ) (block : Option contents.Block) → block ≡ Some (block_at d (position_of (r, c))) →
      IsSlot d {T = T} r c (text_start d r) (record { owner = position_of (r, c); block = block; drawn = 0 })
  plain-slot r c block is =
      let here = position_of (r, c) in
      let none : 0 ≡ text_start d r - text_start d r = omega arith in
      let held : block ≡ (if c == c then Some (block_at d here) else None) = is ∙ sym (ap (λ b. if b then Some (block_at d here) else None) (eq-eqb c c refl)) in
      (here, plain-owner r c, λ i. record { owner = here; block = held i; drawn = none i })

  -- a column of a text line has its own cell, after the line before it
  pub plain-column : (r k c : ℕ) → vertical_pieces d r c k ++ content (block_at d (position_of (r, c))) k ≡ column_pieces d r k c
  plain-column r k c =
      let here = position_of (r, c) in
      let begin = begin_along (layout_of d) Rows here in
      let line : begin + k - begin ≡ k = omega arith in
      sym (ap (λ o. after_these d (vertical_pieces d r c k) (content_from d o c (begin + k))) (plain-owner r c)
      ∙ ap (λ b. after_these d (vertical_pieces d r c k) (if b then Some (content (block_at d here) (begin + k - begin)) else None)) (eq-eqb c c refl)
      ∙ ap (λ n. vertical_pieces d r c k ++ content (block_at d here) n) line)

  -- ---- lines

  -- no cell stands over a horizontal line
  pub plain-over : (i c : ℕ) → c < d.shape.1 → stands_over d i c ≡ false
  plain-over i c inside =
      over-test d plain-tiled i c (position_of (i, c)) inside (λ _. plain-owner i c)
      ∙ and-last (nat_lt 0 i) (nat_lt i d.shape.0) (nat_lt i i) (le-ltb i i (omega arith))

  -- nor over a crossing
  pub plain-crossing : (i j : ℕ) → j ≤ d.shape.1 → stands_over_crossing d i j ≡ false
  plain-crossing i j within = elim (cases_lt j d.shape.1) [
    | inl inside ↦
        let here = nat_lt 0 i && (nat_lt i d.shape.0 && nat_lt i i) in
        crossing-test d plain-tiled i j (position_of (i, j)) inside (λ _. plain-owner i j)
        ∙ ap (λ b. here && b) (le-ltb j j (omega arith)) ∙ and-false here
    | inr past ↦ crossing-last d i j (omega (arith, within, past))
  ]

-- ---- lists

-- what holds of each before a number, and of one more
pub one-more : {X : Type 0} (P : ℕ → X → Type 0) (items all : List X) (j : ℕ) (x : X) → all ≡ items ++ x ∷ [] → length items ≡ j →
    ((i : ℕ) (other : X) → i < j → P i (get_or items i other)) → P j x → (length all ≡ j + 1) × ((i : ℕ) (other : X) → i < j + 1 → P i (get_or all i other))
one-more {X} P items all j x is many known last = (
  ap length is ∙ length-append items (x ∷ []) ∙ ap (λ n. n + 1) many,
  λ i other below. subst (λ (xs : List X). P i (get_or xs i other)) (sym is) (elim (cases_lt i j) [
    | inl before ↦ subst (P i) (sym (get_or_append_left items (x ∷ []) other i (omega (arith, before, many)))) (known i other before)
    | inr past ↦
        let here : i ≡ length items = omega (arith, past, below, many) in
        subst (P i) (sym (ap (λ n. get_or (items ++ x ∷ []) n other) here ∙ get_or-append_seam items x [] other)) (subst (λ n. P n x) (sym (here ∙ many)) last)
  ]),
)

-- ---- what is looked up

one-or-other : {T : Type 0} (b : Bool) → ◌≡◌ {A = Option T} (if b then None else None) None
one-or-other true = refl
one-or-other false = refl

-- no override is found where none is held
pub unfound : {T : Type 0} (held : Offset → Option T) (k height : ℕ) → ((o : Offset) → held o ≡ None) → found_override held k height ≡ None
unfound {T} held k height none =
    ap (λ first. option_or first (if nat_lt k height then held (End (height - k - 1)) else None)) (none (Start k))
    ∙ ap (λ last. if nat_lt k height then last else None) (none (End (height - k - 1)))
    ∙ one-or-other {T = T} (nat_lt k height)

module _ {T : Type 0} (places : BorderParts T) where
  one-of-three : (a b : Bool) → ◌≡◌ {A = Option T} (option_or (if a then None else (if b then None else None)) None) None
  one-of-three true b = refl
  one-of-three false true = refl
  one-of-three false false = refl

  -- nothing is found of a vertical line where nothing is held
  no-vertical : (p : Position) (count : ℕ) → places ≡ no_parts → found_vertical places p count ≡ None
  no-vertical p count bare = ap (λ held. found_vertical held p count) bare ∙ one-of-three (p.col == count) (p.col == 0)

  -- where no edge is held the row does not matter
  same-vertical : (p q : Position) (count : ℕ) → HasNoCellParts places → p.col ≡ q.col → found_vertical places p count ≡ found_vertical places q count
  same-vertical p q count bare same =
      ap (λ edge. option_or edge (found_vertical (record places { vertical_edge = λ _. None }) p count)) (bare.vertical_edges p)
      ∙ ap (λ c. found_vertical (record places { vertical_edge = λ _. None }) (position_of (0, c)) count) same
      ∙ sym (ap (λ edge. option_or edge (found_vertical (record places { vertical_edge = λ _. None }) q count)) (bare.vertical_edges q))

  -- nothing is held, so no part of a cell
  pub bare-parts : places ≡ no_parts → HasNoCellParts places
  bare-parts bare = record {
    horizontal_edges = λ p. ap (λ (held : BorderParts T). held.horizontal_edge p) bare;
    vertical_edges = λ p. ap (λ (held : BorderParts T). held.vertical_edge p) bare;
    corners = λ p. ap (λ (held : BorderParts T). held.corner p) bare;
  }

one-bytes : (text : List ℕ) (color : Option (List ℕ × List ℕ)) → color ≡ None →
    pieces_bytes (record { kind = Line; text = text; columns = 1; color = color } ∷ []) ≡ text
one-bytes text color none =
    append-nil (piece_bytes (record { kind = Line; text = text; columns = 1; color = color }))
    ∙ ap (λ k. piece_bytes (record { kind = Line; text = text; columns = 1; color = k })) none
    ∙ append-nil text

module _ (d : Drawing) (common : HasCommonLines d.config) where
  -- a vertical line has one character in all rows
  common-character : (p q : Position) (height k : ℕ) → p.col ≡ q.col →
      vertical_character d.config d.shape p height k ≡ unwrap_or (found_vertical (parts_of_borders d.config.characters) q d.shape.1) d.config.missing
  common-character p q height k same =
      ap (λ own. unwrap_or (option_or own (found_vertical (parts_of_borders d.config.characters) p d.shape.1)) d.config.missing)
      (unfound (override_at d.config.vertical_chars p) k height (common.vertical_chars p))
      ∙ ap (λ found. unwrap_or found d.config.missing)
      (same-vertical (parts_of_borders d.config.characters) p q d.shape.1 common.characters same)

  -- and no colour
  common-color : (p : Position) (height k : ℕ) → vertical_color d.config d.shape p height k ≡ None
  common-color p height k =
      ap (λ found. option_or found (found_override (override_at d.config.vertical_colors p) k height))
      (no-vertical (parts_of_borders d.config.colors) p d.shape.1 common.colors)
      ∙ unfound (override_at d.config.vertical_colors p) k height (common.vertical_colors p)

  common-vertical : (r c k character : ℕ) (q : Position) → draws_vertical d c ≡ true → c ≡ q.col →
      character ≡ unwrap_or (found_vertical (parts_of_borders d.config.characters) q d.shape.1) d.config.missing →
      pieces_bytes (vertical_pieces d r c k) ≡ fill_text character 1
  common-vertical r c k character q some same is =
      let p = position_of (r, c) in
      ap (λ b. pieces_bytes (if b then vertical d.config d.shape p (d.heights r) k ∷ [] else [])) some
      ∙ one-bytes (fill_text (vertical_character d.config d.shape p (d.heights r) k) 1) (vertical_color d.config d.shape p (d.heights r) k)
      (common-color p (d.heights r) k)
      ∙ ap (λ n. fill_text n 1) (common-character p q (d.heights r) k same ∙ sym is)

  -- and there are no bytes where no line is drawn
  pub common-bytes : (r c k : ℕ) (found : Option ℕ) (q : Position) (drawn : Bool) → draws_vertical d c ≡ drawn → c ≡ q.col →
      found ≡ (if drawn then Some (unwrap_or (found_vertical (parts_of_borders d.config.characters) q d.shape.1) d.config.missing) else None) →
      pieces_bytes (vertical_pieces d r c k) ≡ character_bytes found
  common-bytes r c k found q true some same is = common-vertical r c k _ q some same refl ∙ ap character_bytes (sym is)
  common-bytes r c k found q false none same is =
      ap (λ b. pieces_bytes (if b then vertical d.config d.shape (position_of (r, c)) (d.heights r) k ∷ [] else [])) none ∙ ap character_bytes (sym is)

-- ---- rows

-- the cells of a row are taken before its first line
pub text-comes : {T : Type 0} (d : Drawing) (r : ℕ) (sheet : Sheet) (slots lent : List (Slot T)) →
    r < d.shape.0 → sheet.written ≡ text_start d r → AreSlots d r (λ _. text_start d r) slots → lent ≡ slots → AtText d r 0 sheet lent
text-comes {T} d r sheet slots lent below start are same =
    let first : text_start d r ≡ text_start d r + 0 = omega arith in
    record {
      row_in = below;
      written = start ∙ first;
      kept = subst (λ (s : List (Slot T)). AreSlots d r (λ _. text_start d r + 0) s) (sym same) (slots-at d r (text_start d r) (text_start d r + 0) slots first are);
    }
