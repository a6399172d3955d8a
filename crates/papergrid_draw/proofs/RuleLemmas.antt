-- What stands in a horizontal line of a table while it is drawn, column by column.
use Rattle.std.proofs.Common.{◌≡◌, ◌∙◌, ap, sym, subst, refl, inl, inr, ℕ, ◌+◌, ◌-◌, ◌<◌, ◌≤◌, Bool, true, false, ◌&&◌, cond, List, [], ◌∷◌, ◌++◌, Option, Some, None, get_or, length, map, arith}
use Rattle.std.specs.Prelude.{◌==◌, if◌then◌else◌, nat_lt, not}
use Rattle.std.specs.List.{flat_map, range_with_len}
use Rattle.std.specs.Option.{option_eq}
use Rattle.std.proofs.lemmas.Bool.{and_from, and_parts, cases_lt, false≢true, le-ltb, lt-ltb, ltb-true}
use Rattle.papergrid_values.specs.Positions.{position_of}
use Rattle.papergrid_values.specs.declared.direction.Direction.TheVariants.{Rows}
use Rattle.papergrid_values.specs.declared.position.Position.{Position}
use Rattle.papergrid_values.specs.MapKeys.{position_eq}
use Rattle.papergrid_layout.specs.Places.{begin_along, total_along, track_line, track_size}
use Rattle.papergrid_layout.proofs.PlaceSums.{offset-rises}
use Rattle.papergrid_draw.specs.Bytes.{rule_bytes, suffix_of}
use Rattle.papergrid_draw.specs.Characters.{crossing, segment}
use Rattle.papergrid_draw.specs.Contents as contents
use Rattle.papergrid_draw.specs.Contents.{block_at, content}
use Rattle.papergrid_draw.specs.Drawings.{Drawing, layout_of}
use Rattle.papergrid_draw.specs.Drawn.{OnLine, Stretch, column_stretch, content_from, crossing_stretch, draws_horizontal, draws_vertical, over_line, owner_at, rule_line, stands_over, stands_over_crossing}
use Rattle.papergrid_draw.specs.ForProofs.Pages.{IsSlot, Texts, drawing_of, row_start, slot_at, text_start}
use Rattle.papergrid_draw.specs.ForProofs.Pens.{AddsStretches, stretches_over}
use Rattle.papergrid_draw.specs.declared.page.Frame.{Frame}
use Rattle.papergrid_draw.specs.declared.page.Slot.{Slot}
use Rattle.papergrid_draw.proofs.LineLemmas.{frame-columns, frame-line, range-more}
use Rattle.papergrid_draw.proofs.PageLemmas.{crossing-test, over-test, owner-behind, row_start-next, slot-next, text_start-after}
use Rattle.papergrid_draw.proofs.StretchLemmas.{AddsStretches-append, rule_ended}

-- ---- crossings

past-all : (a b e x : Bool) → (a && (b && (e && (false && x)))) ≡ false
past-all true true true x = refl
past-all true true false x = refl
past-all true false e x = refl
past-all false b e x = refl

module _ (d : Drawing) (i j : ℕ) where
  -- none is seen where no line is, or where a cell stands over it
  pub crossing-none : (draws_vertical d j && not (stands_over_crossing d i j)) ≡ false → [] ≡ crossing_stretch d i j
  crossing-none none = sym (ap (λ shown. if shown then OnLine (crossing d.config d.shape (position_of (i, j))) ∷ [] else []) none)

  -- else it is
  pub crossing-some : (draws_vertical d j && not (stands_over_crossing d i j)) ≡ true → OnLine (crossing d.config d.shape (position_of (i, j))) ∷ [] ≡ crossing_stretch d i j
  crossing-some some = sym (ap (λ shown. if shown then OnLine (crossing d.config d.shape (position_of (i, j))) ∷ [] else []) some)

  -- no cell stands over one after the last column
  pub crossing-last : d.shape.1 ≡ j → stands_over_crossing d i j ≡ false
  crossing-last last =
      ap (λ before. nat_lt 0 i && (nat_lt i d.shape.0 && (nat_lt 0 j && (before && option_eq position_eq (owner_at d (i - 1) (j - 1)) (owner_at d i j)))))
      (le-ltb j d.shape.1 (omega (arith, last)))
      ∙ past-all (nat_lt 0 i) (nat_lt i d.shape.0) (nat_lt 0 j) (option_eq position_eq (owner_at d (i - 1) (j - 1)) (owner_at d i j))

module _ (d : Drawing) where
  -- ---- lines of the table

  -- the first text line of a row comes next after the horizontal line before it
  text_start-next : (r : ℕ) → draws_horizontal d r ≡ true → text_start d r ≡ row_start d r + 1
  text_start-next r line = text_start-after d r ∙ ap (λ drawn. row_start d r + cond {A = ℕ} drawn 1 0) line

  -- a horizontal line is one of the lines of the table
  line-within : (r : ℕ) → r ≤ d.shape.0 → draws_horizontal d r ≡ true → row_start d r < total_along (layout_of d) Rows
  line-within r within line =
      let next : text_start d r ≡ row_start d r + 1 = text_start-next r line in
      let rises : text_start d r ≤ total_along (layout_of d) Rows =
      offset-rises (track_size (layout_of d) Rows) (track_line (layout_of d) Rows) r d.shape.0 within in
      omega (arith, next, rises)

  -- a cell that stands over it begins before it
  over-begins : (r : ℕ) (o : Position) → o.row < r → begin_along (layout_of d) Rows o ≤ row_start d r
  over-begins r o above =
      let next : row_start d (r - 1 + 1) ≡ text_start d (r - 1) + d.heights (r - 1) = row_start-next d (r - 1) in
      let same : row_start d (r - 1 + 1) ≡ row_start d r = ap (row_start d) (let e : r - 1 + 1 ≡ r = omega (arith, above) in e) in
      let rises : begin_along (layout_of d) Rows o ≤ text_start d (r - 1) =
      offset-rises (track_size (layout_of d) Rows) (track_line (layout_of d) Rows) o.row (r - 1) (omega (arith, above)) in
      omega (arith, next, same, rises)

  -- ---- columns

  -- no more lines of a cell are drawn than there are before the line
  drawn-before : {T : Type 0} (r c : ℕ) (slot : Slot T) → IsSlot d r c (row_start d r) slot → slot.drawn ≤ row_start d r
  drawn-before {T} r c slot is =
      let drawn : slot.drawn ≡ row_start d r - begin_along (layout_of d) Rows is.0 = ap (λ (s : Slot T). s.drawn) is.2 in
      omega (arith, drawn)

  -- one more line of a cell that stands over the line is drawn
  pub slot-over : {T : Type 0} (r c : ℕ) (slot new : Slot T) → draws_horizontal d r ≡ true → slot.owner.row < r → IsSlot d r c (row_start d r) slot →
      new ≡ record { owner = slot.owner; block = slot.block; drawn = slot.drawn + 1 } → IsSlot d r c (text_start d r) new
  slot-over {T} r c slot new line above is more =
      let o = is.0 in
      let row : slot.owner.row ≡ o.row = ap (λ (s : Slot T). s.owner.row) is.2 in
      let over : o.row < r = omega (arith, above, row) in (
        o,
        is.1,
        more
            ∙ ap (λ (s : Slot T). record { owner = s.owner; block = s.block; drawn = s.drawn + 1 }) is.2
            ∙ sym (slot-next d {T = T} o c (row_start d r) (over-begins r o over))
            ∙ ap (λ y. slot_at d {T = T} o c y) (sym (text_start-next r line)),
      )

  -- none of one that begins below it
  pub slot-below : {T : Type 0} (r c : ℕ) (slot : Slot T) → r ≤ slot.owner.row → IsSlot d r c (row_start d r) slot → IsSlot d r c (text_start d r) slot
  slot-below {T} r c slot below is =
      let o = is.0 in
      let row : slot.owner.row ≡ o.row = ap (λ (s : Slot T). s.owner.row) is.2 in
      let from : r ≤ o.row = omega (arith, below, row) in
      let top : o.row ≤ r = (owner-behind (layout_of d) (position_of (r, c)) o is.1).0 in
      let begins : text_start d o.row ≡ text_start d r = ap (text_start d) (let e : o.row ≡ r = omega (arith, from, top) in e) in
      let after = text_start-after d r in
      let none : row_start d r - begin_along (layout_of d) Rows o ≡ text_start d r - begin_along (layout_of d) Rows o = omega (arith, begins, after) in (
        o,
        is.1,
        is.2 ∙ ap (λ n. record { owner = o; block = (slot_at d {T = T} o c 0).block; drawn = n }) none,
      )

  over_or-none : (here : Bool) (b : contents.Block) (k : ℕ) → stretches_over (if here then Some b else None) k ≡ over_line d (if here then Some (content b k) else None)
  over_or-none true b k = refl
  over_or-none false b k = refl

  -- the line of a cell that stands over the line
  pub stretch-over : {T : Type 0} (i c : ℕ) (slot : Slot T) → stands_over d i c ≡ true → IsSlot d i c (row_start d i) slot →
      stretches_over slot.block slot.drawn ≡ column_stretch d i c
  stretch-over {T} i c slot over is =
      let o = is.0 in
      ap (λ (s : Slot T). stretches_over s.block s.drawn) is.2
      ∙ over_or-none (o.col == c) (block_at d o) (row_start d i - begin_along (layout_of d) Rows o)
      ∙ ap (λ owner. over_line d (content_from d owner c (row_start d i))) (sym is.1)
      ∙ sym (ap (λ stands. if stands then over_line d (content_from d (owner_at d i c) c (row_start d i))
      else map OnLine (segment d.config d.shape (position_of (i, c)) (d.widths c))) over)

  -- or the line
  pub stretch-line : (i c : ℕ) → stands_over d i c ≡ false → map OnLine (segment d.config d.shape (position_of (i, c)) (d.widths c)) ≡ column_stretch d i c
  stretch-line i c free =
      sym (ap (λ stands. if stands then over_line d (content_from d (owner_at d i c) c (row_start d i))
      else map OnLine (segment d.config d.shape (position_of (i, c)) (d.widths c))) free)

  -- the cell that is kept covers the column
  pub slot-owner : {T : Type 0} (r c y : ℕ) (slot : Slot T) → IsSlot d r c y slot → owner_at d r c ≡ Some slot.owner
  slot-owner {T} r c y slot is = is.1 ∙ ap (λ (s : Slot T). Some s.owner) (sym is.2)

-- ---- what is read of a table

lt-of-le : (a b n : ℕ) → a ≤ b → b < n → a < n
lt-of-le a b n few below = omega (arith, few, below)

module _ (frame : Frame) where
  rows-read : frame.shape.0 ≡ length frame.table.now.heights
  rows-read = ap (λ (s : ℕ × ℕ). s.0) frame.read.shape_is

  -- the columns that are passed
  pub column-in : (col : ℕ) → col < frame.shape.1 → col < length frame.table.now.widths
  column-in col below = subst (λ n. col < n) (frame-columns frame) below

  pub columns-all : (col : ℕ) → frame.shape.1 ≤ col → col ≤ frame.shape.1 → col ≡ length frame.table.now.widths
  columns-all col past within = (let e : col ≡ frame.shape.1 = omega (arith, past, within) in e) ∙ frame-columns frame

  pub columns-past : (col : ℕ) → frame.shape.1 ≤ col → length frame.table.now.widths ≤ col
  columns-past col past = subst (λ n. n ≤ col) (frame-columns frame) past

  pub last-kept : frame.shape.1 < frame.verticals.len
  last-kept = let wide = frame-columns frame in omega (arith, wide, frame.read.verticals_are.many, frame.verticals.ok.0)

  pub last-line : (texts : Texts) (kept : Bool) → kept ≡ get_or frame.verticals.items frame.shape.1 kept →
      draws_vertical (drawing_of frame.table.now texts) frame.shape.1 ≡ kept
  last-line texts kept is = frame-line frame texts frame.shape.1 kept (omega arith) is

  -- each has a slot
  pub column-there : {T : Type 0} (slots : List (Slot T)) (col : ℕ) → length slots ≡ length frame.table.now.widths → col < frame.shape.1 → col < length slots
  column-there slots col each below = let inside = column-in col below in omega (arith, each, inside)

  -- the lines of a cell that are drawn before a horizontal line are fewer than those of the table
  pub drawn-below : {T : Type 0} (texts : Texts) (r c : ℕ) (slot : Slot T) → r < length frame.table.now.heights → draws_horizontal (drawing_of frame.table.now texts) r ≡ true →
      IsSlot (drawing_of frame.table.now texts) r c (row_start (drawing_of frame.table.now texts) r) slot → slot.drawn < frame.height
  drawn-below texts r c slot below line is =
      let d = drawing_of frame.table.now texts in
      subst (λ n. slot.drawn < n) (sym frame.read.high)
      (lt-of-le slot.drawn (row_start d r) (total_along (layout_of d) Rows) (drawn-before d r c slot is) (line-within d r (omega (arith, below)) line))

  -- what is asked of the owner of a column
  module _ (r : ℕ) (o : Position) (answer : Bool) (told : answer ≡ (nat_lt 0 r && (nat_lt r frame.shape.0 && nat_lt o.row r))) where
    pub over-so : answer ≡ true → (r < length frame.table.now.heights) × (o.row < r)
    over-so holds =
        let begun = and_parts _ _ (sym told ∙ holds) in
        let within = and_parts _ _ begun.1 in
        (subst (λ n. r < n) rows-read (ltb-true r frame.shape.0 within.0), ltb-true o.row r within.1)

    pub over-not : answer ≡ false → r < length frame.table.now.heights → r ≤ o.row
    over-not fails below = elim (cases_lt o.row r) [
      | inl above ↦ absurd (false≢true (sym fails ∙ told ∙ and_from _ _ (lt-ltb 0 r (omega (arith, above)))
          (and_from _ _ (lt-ltb r frame.shape.0 (subst (λ n. r < n) (sym rows-read) below)) (lt-ltb o.row r above))))
      | inr from ↦ from
    ]

    module _ (texts : Texts) (c : ℕ) (inside : c < length frame.table.now.widths)
        (owner : r < length frame.table.now.heights → owner_at (drawing_of frame.table.now texts) r c ≡ Some o) where
      asked : (nat_lt 0 r && (nat_lt r (length frame.table.now.heights) && nat_lt o.row r)) ≡ answer
      asked = sym (told ∙ ap (λ n. nat_lt 0 r && (nat_lt r n && nat_lt o.row r)) rows-read)

      -- tells whether its cell stands over the line
      pub over-asked : stands_over (drawing_of frame.table.now texts) r c ≡ answer
      over-asked = over-test (drawing_of frame.table.now texts) frame.tiled r c o inside owner ∙ asked

      crossing-asked : stands_over_crossing (drawing_of frame.table.now texts) r c ≡ (answer && nat_lt o.col c)
      crossing-asked = crossing-test (drawing_of frame.table.now texts) frame.tiled r c o inside owner ∙ ap (λ over. over && nat_lt o.col c) asked

      -- and, with its column, over the crossing, which else is seen where a line is kept
      pub crossing-seen : (kept hidden : Bool) → kept ≡ get_or frame.verticals.items c kept → hidden ≡ (answer && nat_lt o.col c) →
          (draws_vertical (drawing_of frame.table.now texts) c && not (stands_over_crossing (drawing_of frame.table.now texts) r c)) ≡ (kept && not hidden)
      crossing-seen kept hidden is over =
          let wide = frame-columns frame in
          let line = frame-line frame texts c kept (omega (arith, inside, wide)) is in
          λ i. line i && not ((crossing-asked ∙ sym over) i)

-- ---- a horizontal line, column by column

-- the same, by what is in use and what stands there after it
pub adds-same : {used new new' : Option (List ℕ × List ℕ)} {before after after' : List ℕ} {stretches : List Stretch} → new' ≡ new → after' ≡ after →
    AddsStretches used new before after stretches → AddsStretches used new' before after' stretches
adds-same in_use line adds = record { bytes = line ∙ adds.bytes; used = in_use ∙ adds.used }

module _ (d : Drawing) (r : ℕ) where
  abbrev in_column : ℕ → List Stretch
  in_column c = crossing_stretch d r c ++ column_stretch d r c

  module _ {first second third : Option (List ℕ × List ℕ)} {before one two : List ℕ} where
    -- the stretches of a column more
    pub whole-column-adds : (col : ℕ) → AddsStretches first second before one (flat_map in_column (range_with_len 0 col)) →
        AddsStretches second third one two (in_column col) → AddsStretches first third before two (flat_map in_column (range_with_len 0 (col + 1)))
    whole-column-adds col so_far column =
        subst (AddsStretches first third before two) (sym (range-more in_column col))
        (AddsStretches-append (flat_map in_column (range_with_len 0 col)) (in_column col) so_far column)

  module _ {first second third fourth : Option (List ℕ × List ℕ)} {before one two three : List ℕ} where
    -- which are its crossing, and what follows
    pub column-adds : (col : ℕ) → AddsStretches first second before one (flat_map in_column (range_with_len 0 col)) →
        AddsStretches second third one two (crossing_stretch d r col) → AddsStretches third fourth two three (column_stretch d r col) →
        AddsStretches first fourth before three (flat_map in_column (range_with_len 0 (col + 1)))
    column-adds col so_far crossing column =
        whole-column-adds col so_far (AddsStretches-append (crossing_stretch d r col) (column_stretch d r col) crossing column)

  -- the line is done with the crossing after the last column, and the end of the colour in use
  pub rule-done : {second third : Option (List ℕ × List ℕ)} {before one two after : List ℕ} (col last : ℕ) → col ≡ d.shape.1 → last ≡ d.shape.1 →
      AddsStretches None second before one (flat_map in_column (range_with_len 0 col)) → AddsStretches second third one two (crossing_stretch d r last) →
      after ≡ two ++ suffix_of third → after ≡ before ++ rule_bytes (rule_line d r)
  rule-done {third = third} {before = before} {two = two} col last all end columns crossing ended =
      rule_ended (rule_line d r)
      (subst (AddsStretches None third before two) (λ i. flat_map in_column (range_with_len 0 (all i)) ++ crossing_stretch d r (end i))
      (AddsStretches-append (flat_map in_column (range_with_len 0 col)) (crossing_stretch d r last) columns crossing)) ended
