-- The columns that the pieces of a horizontal line take, and where the cells that stand over it, its segments and its
-- crossings stand in it.
use Rattle.std.proofs.Common.{◌≡◌, ◌∙◌, ap, sym, subst, refl, inl, inr, ℕ, zero, suc, ◌+◌, ◌-◌, ◌<◌, ◌≤◌, Bool, true, false, ◌&&◌, cond, List, [], ◌∷◌, ◌++◌, Some, None, map, append-nil, append_assoc, arith}
use Rattle.std.specs.Prelude.{◌==◌, if◌then◌else◌, nat_lt, not}
use Rattle.std.specs.FinMap.{get}
use Rattle.std.specs.List.{flat_map, range_with_len}
use Rattle.std.specs.Option.{option_eq}
use Rattle.std.proofs.lemmas.Bool.{and_from, and_parts, cases_lt, eq-eqb, eqb-true, false_from_ne_true, false≢true, lt-ltb, ltb-true, ne_eqb}
use Rattle.std.proofs.lemmas.List.Concat.{flat_map-append}
use Rattle.papergrid_values.specs.Positions.{position_of}
use Rattle.papergrid_values.specs.declared.direction.Direction.TheVariants.{Columns, Rows}
use Rattle.papergrid_values.specs.declared.position.Position.{Position}
use Rattle.papergrid_values.specs.MapKeys.{position_eq}
use Rattle.papergrid_layout.specs.Places.{begin_along, extent, line_offset, offset, total_along, track_line, track_size}
use Rattle.papergrid_layout.proofs.PlaceSums.{line-before}
use Rattle.papergrid_draw.specs.Characters.{Mark, crossing, has_overrides, overridden_mark, plain_mark, segment, segment_character, segment_piece}
use Rattle.papergrid_draw.specs.Contents.{block_at, content}
use Rattle.papergrid_draw.specs.Drawings.{Drawing, layout_of}
use Rattle.papergrid_draw.specs.Drawn.{OnLine, column_stretch, content_from, crossing_stretch, draws_vertical, over_line, owner_at, rule_line, stands_over, stands_over_crossing}
use Rattle.papergrid_draw.specs.Faults.{AllHaveRoom}
use Rattle.papergrid_draw.specs.Laws.{StandAt, terminal_columns, stretch_pieces}
use Rattle.papergrid_draw.specs.Pieces.{Piece}
use Rattle.papergrid_draw.specs.Tiles.{IsTiled}
use Rattle.papergrid_draw.specs.ForProofs.Pages.{row_start}
use Rattle.papergrid_draw.proofs.Ranges.{AreRanges, FillRanges, first_of, many_of, rule_first, rule_many}
use Rattle.papergrid_draw.proofs.TileLemmas.{HasOwner}
use Rattle.papergrid_draw.proofs.ColumnLemmas.{cell-of, owner-beside}
use Rattle.papergrid_draw.proofs.ContentLemmas.{columns-append, columns-cons, columns-content, has-room}
use Rattle.papergrid_draw.proofs.PageLemmas.{crossing-test, over-test}
use Rattle.papergrid_draw.proofs.RangeLemmas.{columns-before, cut-at, extent-one}
use Rattle.papergrid_draw.proofs.RuleLemmas.{crossing-last, crossing-none, crossing-some, stretch-line}
use Rattle.papergrid_draw.proofs.TileLemmas.{has-owner}

-- ---- pieces of stretches

flat_map-twice : {A B C : Type 0} (g : B → List C) (f : A → List B) (xs : List A) → flat_map g (flat_map f xs) ≡ flat_map (λ x. flat_map g (f x)) xs
flat_map-twice g f [] = refl
flat_map-twice g f (x ∷ xs) = flat_map-append g (f x) (flat_map f xs) ∙ ap (λ more. flat_map g (f x) ++ more) (flat_map-twice g f xs)

pub pieces-on_line : (marks : List Mark) → flat_map stretch_pieces (map OnLine marks) ≡ map (λ (mark : Mark). mark.piece) marks
pieces-on_line [] = refl
pieces-on_line (mark ∷ marks) = ap (λ more. mark.piece ∷ more) (pieces-on_line marks)

one-each : (f : ℕ → Mark) → ((k : ℕ) → (f k).piece.columns ≡ 1) → (a n : ℕ) → terminal_columns (map (λ (mark : Mark). mark.piece) (map f (range_with_len a n))) ≡ n
one-each f one a zero = refl
one-each f one a (suc n) =
    let first : terminal_columns (map (λ (mark : Mark). mark.piece) (map f (range_with_len a (suc n)))) ≡ (f a).piece.columns + terminal_columns (map (λ (mark : Mark). mark.piece) (map f (range_with_len (a + 1) n))) =
    columns-cons (f a).piece (map (λ (mark : Mark). mark.piece) (map f (range_with_len (a + 1) n))) in
    let more : terminal_columns (map (λ (mark : Mark). mark.piece) (map f (range_with_len (a + 1) n))) ≡ n = one-each f one (a + 1) n in
    omega (arith, one a)

-- the horizontal line over a column is as wide as that
columns-segment : (d : Drawing) (p : Position) (width : ℕ) → terminal_columns (map (λ (mark : Mark). mark.piece) (segment d.config d.shape p width)) ≡ width
columns-segment d p width = in_case (has_overrides (get d.config.horizontal_chars p)) (width == 0) refl
  where
    in_case : (overridden none : Bool) → (width == 0) ≡ none →
        terminal_columns (map (λ (mark : Mark). mark.piece) (if overridden then map (overridden_mark d.config d.shape p width) (range_with_len 0 width)
        else if none then [] else (plain_mark (segment_piece d.config d.shape p (segment_character d.config d.shape p) width) ∷ []))) ≡ width
    in_case true none is = one-each (overridden_mark d.config d.shape p width) (λ k. refl) 0 width
    in_case false true is = sym (eqb-true width 0 is)
    in_case false false is = let one = columns-cons (segment_piece d.config d.shape p (segment_character d.config d.shape p) width) [] in omega (arith, one)

-- ---- the pieces of a horizontal line

module _ (d : Drawing) (i : ℕ) where
  abbrev pub crossing_pieces : ℕ → List Piece
  crossing_pieces j = flat_map stretch_pieces (crossing_stretch d i j)

  abbrev pub over_pieces : ℕ → List Piece
  over_pieces c = flat_map stretch_pieces (column_stretch d i c)

  -- those of a column
  abbrev pub rule_pieces : ℕ → List Piece
  rule_pieces c = flat_map stretch_pieces (crossing_stretch d i c ++ column_stretch d i c)

  pub parts : (c : ℕ) → rule_pieces c ≡ crossing_pieces c ++ over_pieces c
  parts c = flat_map-append stretch_pieces (crossing_stretch d i c) (column_stretch d i c)

  pub all-pieces : flat_map stretch_pieces (rule_line d i) ≡ flat_map rule_pieces (range_with_len 0 d.shape.1) ++ crossing_pieces d.shape.1
  all-pieces =
      flat_map-append stretch_pieces (flat_map (λ c. crossing_stretch d i c ++ column_stretch d i c) (range_with_len 0 d.shape.1)) (crossing_stretch d i d.shape.1)
      ∙ ap (λ pieces. pieces ++ crossing_pieces d.shape.1)
      (flat_map-twice stretch_pieces (λ c. crossing_stretch d i c ++ column_stretch d i c) (range_with_len 0 d.shape.1))

  -- ---- crossings

  pub crossing-there : (j : ℕ) → draws_vertical d j ≡ true → stands_over_crossing d i j ≡ false →
      crossing_pieces j ≡ (crossing d.config d.shape (position_of (i, j))).piece ∷ []
  crossing-there j line free =
      let shown : (draws_vertical d j && not (stands_over_crossing d i j)) ≡ true = (λ k. line k && not (free k)) in
      ap (flat_map stretch_pieces) (sym (crossing-some d i j shown))

  pub crossing-away : (j : ℕ) → draws_vertical d j ≡ false → crossing_pieces j ≡ []
  crossing-away j none =
      let shown : (draws_vertical d j && not (stands_over_crossing d i j)) ≡ false = (λ k. none k && not (stands_over_crossing d i j)) in
      ap (flat_map stretch_pieces) (sym (crossing-none d i j shown))

  and-not : (line over : Bool) → over ≡ true → (line && not over) ≡ false
  and-not true over is = ap (λ b. not b) is
  and-not false over is = refl

  pub crossing-covered : (j : ℕ) → stands_over_crossing d i j ≡ true → crossing_stretch d i j ≡ []
  crossing-covered j over = sym (crossing-none d i j (and-not (draws_vertical d j) (stands_over_crossing d i j) over))

  columns-crossing : (j : ℕ) → stands_over_crossing d i j ≡ false → terminal_columns (crossing_pieces j) ≡ cond (draws_vertical d j) 1 0
  columns-crossing j free = in_case (draws_vertical d j) refl
    where
      in_case : (line : Bool) → draws_vertical d j ≡ line → terminal_columns (crossing_pieces j) ≡ cond line 1 0
      in_case true line = ap terminal_columns (crossing-there j line free)
      in_case false none = ap terminal_columns (crossing-away j none)

  -- ---- columns

  -- a cell that begins there and stands over the line
  pub over-begun : (c : ℕ) (o : Position) → stands_over d i c ≡ true → owner_at d i c ≡ Some o → o.col ≡ c →
      over_pieces c ≡ content (block_at d o) (row_start d i - begin_along (layout_of d) Rows o)
  over-begun c o over is here =
      ap (λ s. flat_map stretch_pieces (if s then over_line d (content_from d (owner_at d i c) c (row_start d i))
      else map OnLine (segment d.config d.shape (position_of (i, c)) (d.widths c)))) over
      ∙ ap (λ owner. flat_map stretch_pieces (over_line d (content_from d owner c (row_start d i)))) is
      ∙ ap (λ b. flat_map stretch_pieces (over_line d (if b then Some (content (block_at d o) (row_start d i - begin_along (layout_of d) Rows o)) else None)))
      (eq-eqb o.col c here)
      ∙ append-nil (content (block_at d o) (row_start d i - begin_along (layout_of d) Rows o))

  -- nothing of one that begins further left
  pub over-inside : (c : ℕ) (o : Position) → stands_over d i c ≡ true → owner_at d i c ≡ Some o → o.col < c → column_stretch d i c ≡ []
  over-inside c o over is left =
      ap (λ s. if s then over_line d (content_from d (owner_at d i c) c (row_start d i))
      else map OnLine (segment d.config d.shape (position_of (i, c)) (d.widths c))) over
      ∙ ap (λ owner. over_line d (content_from d owner c (row_start d i))) is
      ∙ ap (λ b. over_line d (if b then Some (content (block_at d o) (row_start d i - begin_along (layout_of d) Rows o)) else None))
      (ne_eqb o.col c (λ same. omega (arith, left, same)))

  -- else the line
  pub over-free : (c : ℕ) → stands_over d i c ≡ false → over_pieces c ≡ map (λ (mark : Mark). mark.piece) (segment d.config d.shape (position_of (i, c)) (d.widths c))
  over-free c free =
      ap (flat_map stretch_pieces) (sym (stretch-line d i c free))
      ∙ pieces-on_line (segment d.config d.shape (position_of (i, c)) (d.widths c))

-- ---- what stands over a horizontal line

-- the cell at o, which owns the positions above and below it in the column
pub record IsOver (d : Drawing) (i c : ℕ) (o : Position) : Type 0 where
  pub row_in : i < d.shape.0
  pub owns : HasOwner (layout_of d) (position_of (i, c)) o
  pub above : o.row < i

module _ (d : Drawing) (tiled : IsTiled (layout_of d)) (i : ℕ) where
  pub over-known : (c : ℕ) → c < d.shape.1 → stands_over d i c ≡ true → (o : Position) × IsOver d i c o
  over-known c col_in over =
      let begun = and_parts _ _ over in
      let within = and_parts _ _ begun.1 in
      let row_in : i < d.shape.0 = ltb-true i d.shape.0 within.0 in
      let found = has-owner (layout_of d) tiled (position_of (i, c)) (row_in, col_in) in
      let o = found.0 in
      let test = and_parts (nat_lt 0 i) (nat_lt i d.shape.0 && nat_lt o.row i) (sym (over-test d tiled i c o col_in (λ _. found.1.is)) ∙ over) in
      let above = and_parts (nat_lt i d.shape.0) (nat_lt o.row i) test.1 in
      (o, record { row_in = row_in; owns = found.1; above = ltb-true o.row i above.1 })

  pub over-from : (c : ℕ) (o : Position) → c < d.shape.1 → i < d.shape.0 → owner_at d i c ≡ Some o → o.row < i → stands_over d i c ≡ true
  over-from c o col_in row_in is above =
      over-test d tiled i c o col_in (λ _. is)
      ∙ and_from _ _ (lt-ltb 0 i (omega (arith, above))) (and_from _ _ (lt-ltb i d.shape.0 row_in) (lt-ltb o.row i above))

  -- ---- over a crossing stands what begins further left

  pub crossing-from : (j : ℕ) → j < d.shape.1 → rule_first d i j < j → stands_over_crossing d i j ≡ true
  crossing-from j col_in behind = in_case (stands_over d i j) refl behind
    where
      in_case : (s : Bool) → stands_over d i j ≡ s → (if s then first_of (owner_at d i j) j else j) < j → stands_over_crossing d i j ≡ true
      in_case true over left =
          let known = over-known j col_in over in
          let o = known.0 in
          let is = known.1.owns.is in
          crossing-test d tiled i j o col_in (λ _. is)
          ∙ and_from _ _ (sym (over-test d tiled i j o col_in (λ _. is)) ∙ over) (lt-ltb o.col j (subst (λ owner. first_of owner j < j) is left))
      in_case false free left = absurd (omega (arith, left))

  crossing-behind : (j : ℕ) → stands_over_crossing d i j ≡ true → rule_first d i j < j
  crossing-behind j over =
      let same = option_eq position_eq (owner_at d (i - 1) (j - 1)) (owner_at d i j) in
      let begun = and_parts (nat_lt 0 i) (nat_lt i d.shape.0 && (nat_lt 0 j && (nat_lt j d.shape.1 && same))) over in
      let within = and_parts (nat_lt i d.shape.0) (nat_lt 0 j && (nat_lt j d.shape.1 && same)) begun.1 in
      let begun' = and_parts (nat_lt 0 j) (nat_lt j d.shape.1 && same) within.1 in
      let within' = and_parts (nat_lt j d.shape.1) same begun'.1 in
      let row_in : i < d.shape.0 = ltb-true i d.shape.0 within.0 in
      let col_in : j < d.shape.1 = ltb-true j d.shape.1 within'.0 in
      let found = has-owner (layout_of d) tiled (position_of (i, j)) (row_in, col_in) in
      let o = found.0 in
      let is = found.1.is in
      let test = and_parts (nat_lt 0 i && (nat_lt i d.shape.0 && nat_lt o.row i)) (nat_lt o.col j) (sym (crossing-test d tiled i j o col_in (λ _. is)) ∙ over) in
      let stands : stands_over d i j ≡ true = over-test d tiled i j o col_in (λ _. is) ∙ test.0 in
      let left : o.col < j = ltb-true o.col j test.1 in
      let first : rule_first d i j ≡ o.col = (λ k. if stands k then first_of (is k) j else j) in
      omega (arith, left, first)

  pub crossing-free : (j : ℕ) → (j < d.shape.1 → rule_first d i j ≡ j) → j ≤ d.shape.1 → stands_over_crossing d i j ≡ false
  crossing-free j begins within = elim (cases_lt j d.shape.1) [
    | inl before ↦ false_from_ne_true (stands_over_crossing d i j) (λ over. omega (arith, crossing-behind j over, begins before))
    | inr past ↦ crossing-last d i j (omega (arith, past, within))
  ]

  -- ---- ranges

  pub rule-ranges : AreRanges d.shape.1 (rule_first d i) (rule_many d i)
  rule-ranges = record {
    within = λ c below. inside c below (stands_over d i c) refl;
    shared = λ c e below from to. beside c e below (stands_over d i c) refl from to;
  }
    where
      inside : (c : ℕ) → c < d.shape.1 → (s : Bool) → stands_over d i c ≡ s →
          ((if s then first_of (owner_at d i c) c else c) ≤ c)
          × (c < (if s then first_of (owner_at d i c) c else c) + (if s then many_of (layout_of d) (owner_at d i c) else 1))
          × ((if s then first_of (owner_at d i c) c else c) + (if s then many_of (layout_of d) (owner_at d i c) else 1) ≤ d.shape.1)
      inside c below true over =
          let has = (over-known c below over).1.owns in
          subst (λ owner. (first_of owner c ≤ c) × (c < first_of owner c + many_of (layout_of d) owner)
          × (first_of owner c + many_of (layout_of d) owner ≤ d.shape.1)) (sym has.is)
          (has.owns.covers.after_left, has.owns.covers.before_right, has.across)
      inside c below false free = (omega arith, omega arith, omega (arith, below))

      beside : (c e : ℕ) → c < d.shape.1 → (s : Bool) → stands_over d i c ≡ s → (if s then first_of (owner_at d i c) c else c) ≤ e →
          e < (if s then first_of (owner_at d i c) c else c) + (if s then many_of (layout_of d) (owner_at d i c) else 1) →
          (rule_first d i e ≡ (if s then first_of (owner_at d i c) c else c)) × (rule_many d i e ≡ (if s then many_of (layout_of d) (owner_at d i c) else 1))
      beside c e below true over from to =
          let known = over-known c below over in
          let o = known.0 in
          let has = known.1.owns in
          let from' : o.col ≤ e = subst (λ owner. first_of owner c ≤ e) has.is from in
          let to' : e < o.col + (layout_of d).grid.span Columns o = subst (λ owner. e < first_of owner c + many_of (layout_of d) owner) has.is to in
          let same : owner_at d i e ≡ Some o = owner-beside d tiled i c e o known.1.row_in has from' to' in
          let also : stands_over d i e ≡ true = over-from e o (omega (arith, to', has.across)) known.1.row_in same known.1.above in (
            (λ k. if also k then first_of (same k) e else e) ∙ sym (ap (λ owner. first_of owner c) has.is),
            (λ k. if also k then many_of (layout_of d) (same k) else 1) ∙ sym (ap (many_of (layout_of d)) has.is),
          )
      beside c e below false free from to =
          let same : e ≡ c = omega (arith, from, to) in (
            ap (rule_first d i) same ∙ (λ k. if free k then first_of (owner_at d i c) c else c),
            ap (rule_many d i) same ∙ (λ k. if free k then many_of (layout_of d) (owner_at d i c) else 1),
          )

  module _ (room : AllHaveRoom d) where
    pub rule-filled : FillRanges (track_size (layout_of d) Columns) (track_line (layout_of d) Columns) d.shape.1 (rule_first d i) (rule_many d i) (rule_pieces d i)
    rule-filled = record {
      begun = λ c below first.
          ap terminal_columns (parts d i c)
          ∙ columns-append (crossing_pieces d i c) (over_pieces d i c)
          ∙ (λ k. columns-crossing d i c (crossing-free c (λ _. first) (omega (arith, below))) k + of_column c below (stands_over d i c) refl first k);
      inside = λ c below left.
          ap (flat_map stretch_pieces)
          (λ k. crossing-covered d i c (crossing-from c below left) k ++ none_of c below (stands_over d i c) refl left k);
    }
      where
        of_column : (c : ℕ) → c < d.shape.1 → (s : Bool) → stands_over d i c ≡ s → (if s then first_of (owner_at d i c) c else c) ≡ c →
            terminal_columns (over_pieces d i c) ≡ extent (track_size (layout_of d) Columns) (track_line (layout_of d) Columns) c (if s then many_of (layout_of d) (owner_at d i c) else 1)
        of_column c below true over first =
            let known = over-known c below over in
            let o = known.0 in
            let has = known.1.owns in
            let here : o.col ≡ c = subst (λ owner. first_of owner c ≡ c) has.is first in
            ap terminal_columns (over-begun d i c o over has.is here)
            ∙ columns-content (block_at d o) (has-room d o room (cell-of (layout_of d) (position_of (i, c)) o has)) (row_start d i - begin_along (layout_of d) Rows o)
            ∙ (λ k. extent (track_size (layout_of d) Columns) (track_line (layout_of d) Columns) (here k) (many_of (layout_of d) (sym has.is k)))
        of_column c below false free first =
            ap terminal_columns (over-free d i c free)
            ∙ columns-segment d (position_of (i, c)) (d.widths c)
            ∙ sym (extent-one (track_size (layout_of d) Columns) (track_line (layout_of d) Columns) c)

        none_of : (c : ℕ) → c < d.shape.1 → (s : Bool) → stands_over d i c ≡ s → (if s then first_of (owner_at d i c) c else c) < c → column_stretch d i c ≡ []
        none_of c below true over left =
            let known = over-known c below over in
            over-inside d i c known.0 over known.1.owns.is (subst (λ owner. first_of owner c < c) known.1.owns.is left)
        none_of c below false free left = absurd (omega (arith, left))

    -- ---- what is left of a column, and the whole line

    columns-left : (c : ℕ) → c ≤ d.shape.1 → (c < d.shape.1 → rule_first d i c ≡ c) →
        terminal_columns (flat_map (rule_pieces d i) (range_with_len 0 c)) ≡ line_offset (track_size (layout_of d) Columns) (track_line (layout_of d) Columns) c
    columns-left c within begins =
        columns-before (track_size (layout_of d) Columns) (track_line (layout_of d) Columns) d.shape.1 (rule_first d i) (rule_many d i) (rule_pieces d i)
        rule-ranges rule-filled c within begins

    pub columns-rule_line : terminal_columns (flat_map stretch_pieces (rule_line d i)) ≡ total_along (layout_of d) Columns
    columns-rule_line =
        ap terminal_columns (all-pieces d i)
        ∙ columns-append (flat_map (rule_pieces d i) (range_with_len 0 d.shape.1)) (crossing_pieces d i d.shape.1)
        ∙ (λ k. columns-left d.shape.1 (omega arith) (λ past. absurd (omega arith)) k + columns-crossing d i d.shape.1 (crossing-last d i d.shape.1 refl) k)
        ∙ sym (line-before (track_size (layout_of d) Columns) (track_line (layout_of d) Columns) d.shape.1)

    -- ---- what stands where

    column-among : (a v m s b : List Piece) → (a ++ ((v ++ m) ++ s)) ++ b ≡ (a ++ v) ++ (m ++ (s ++ b))
    column-among a v m s b = simp append_assoc

    crossing-among : (a v m s b : List Piece) → (a ++ ((v ++ m) ++ s)) ++ b ≡ a ++ (v ++ (m ++ (s ++ b)))
    crossing-among a v m s b = simp append_assoc

    abbrev left_of : ℕ → List Piece
    left_of c = flat_map (rule_pieces d i) (range_with_len 0 c)

    abbrev right_of : ℕ → List Piece
    right_of c = flat_map (rule_pieces d i) (range_with_len (c + 1) (d.shape.1 - (c + 1)))

    cut : (c : ℕ) → c < d.shape.1 →
        flat_map stretch_pieces (rule_line d i) ≡ (left_of c ++ ((crossing_pieces d i c ++ over_pieces d i c) ++ right_of c)) ++ crossing_pieces d i d.shape.1
    cut c below =
        all-pieces d i
        ∙ ap (λ columns. columns ++ crossing_pieces d i d.shape.1) (cut-at (rule_pieces d i) d.shape.1 c below
        ∙ ap (λ column. left_of c ++ (column ++ right_of c)) (parts d i c))

    -- in a column in which a range begins
    over-stands : (c : ℕ) → c < d.shape.1 → rule_first d i c ≡ c →
        StandAt (flat_map stretch_pieces (rule_line d i)) (offset (track_size (layout_of d) Columns) (track_line (layout_of d) Columns) c) (over_pieces d i c)
    over-stands c below first = (
      left_of c ++ crossing_pieces d i c,
      right_of c ++ crossing_pieces d i d.shape.1,
      cut c below ∙ column-among (left_of c) (crossing_pieces d i c) (over_pieces d i c) (right_of c) (crossing_pieces d i d.shape.1),
      columns-append (left_of c) (crossing_pieces d i c)
          ∙ (λ k. columns-left c (omega (arith, below)) (λ _. first) k + columns-crossing d i c (crossing-free c (λ _. first) (omega (arith, below))) k)
          ∙ sym (line-before (track_size (layout_of d) Columns) (track_line (layout_of d) Columns) c),
    )

    -- a cell, in each horizontal line inside of its rows
    pub cell-in-rule_line : (p : Position) → i < d.shape.0 → p.col < d.shape.1 → owner_at d i p.col ≡ Some p → p.row < i →
        StandAt (flat_map stretch_pieces (rule_line d i)) (begin_along (layout_of d) Columns p) (content (block_at d p) (row_start d i - begin_along (layout_of d) Rows p))
    cell-in-rule_line p row_in col_in is above =
        let over : stands_over d i p.col ≡ true = over-from p.col p col_in row_in is above in
        let first : rule_first d i p.col ≡ p.col = (λ k. if over k then first_of (is k) p.col else p.col) in
        subst (λ pieces. StandAt (flat_map stretch_pieces (rule_line d i)) (begin_along (layout_of d) Columns p) pieces)
        (over-begun d i p.col p over is refl) (over-stands p.col col_in first)

    -- the line over a column, over which no cell stands
    pub segment-in-rule_line : (c : ℕ) → c < d.shape.1 → stands_over d i c ≡ false →
        StandAt (flat_map stretch_pieces (rule_line d i)) (offset (track_size (layout_of d) Columns) (track_line (layout_of d) Columns) c)
        (map (λ (mark : Mark). mark.piece) (segment d.config d.shape (position_of (i, c)) (d.widths c)))
    segment-in-rule_line c below free =
        let first : rule_first d i c ≡ c = (λ k. if free k then first_of (owner_at d i c) c else c) in
        subst (λ pieces. StandAt (flat_map stretch_pieces (rule_line d i)) (offset (track_size (layout_of d) Columns) (track_line (layout_of d) Columns) c) pieces)
        (over-free d i c free) (over-stands c below first)

    -- a crossing, over which no cell stands
    pub crossing-in-rule_line : (j : ℕ) → j ≤ d.shape.1 → draws_vertical d j ≡ true → stands_over_crossing d i j ≡ false →
        StandAt (flat_map stretch_pieces (rule_line d i)) (line_offset (track_size (layout_of d) Columns) (track_line (layout_of d) Columns) j)
        ((crossing d.config d.shape (position_of (i, j))).piece ∷ [])
    crossing-in-rule_line j within line free =
        let begins : j < d.shape.1 → rule_first d i j ≡ j = λ before. elim (cases_lt (rule_first d i j) j) [
          | inl behind ↦ absurd (false≢true (sym free ∙ crossing-from j before behind))
          | inr from ↦ let le = (rule-ranges.within j before).0 in omega (arith, from, le)
        ] in
        elim (cases_lt j d.shape.1) [
          | inl before ↦ (
            left_of j,
            over_pieces d i j ++ (right_of j ++ crossing_pieces d i d.shape.1),
            cut j before
                ∙ crossing-among (left_of j) (crossing_pieces d i j) (over_pieces d i j) (right_of j) (crossing_pieces d i d.shape.1)
                ∙ ap (λ piece. left_of j ++ (piece ++ (over_pieces d i j ++ (right_of j ++ crossing_pieces d i d.shape.1)))) (crossing-there d i j line free),
            columns-left j within begins,
          )
          | inr past ↦
              let end : d.shape.1 ≡ j = omega (arith, past, within) in (
                left_of j,
                [],
                all-pieces d i
                    ∙ (λ k. left_of (end k) ++ crossing_pieces d i (end k))
                    ∙ ap (λ piece. left_of j ++ piece) (crossing-there d i j line free),
                columns-left j within begins,
              )
        ]
