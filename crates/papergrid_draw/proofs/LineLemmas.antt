-- What is added for a text line of a row, column by column.
use Rattle.std.proofs.Common.{◌≡◌, ◌∙◌, ap, sym, subst, ℕ, ◌+◌, ◌-◌, ◌<◌, ◌≤◌, Bool, true, false, cond, List, [], ◌∷◌, ◌++◌, Some, None, get_or, length, append_assoc, arith}
use Rattle.std.specs.Prelude.{if◌then◌else◌, nat_lt}
use Rattle.std.specs.List.{flat_map, range_with_len}
use Rattle.std.proofs.lemmas.Bool.{le-ltb}
use Rattle.std.proofs.lemmas.List.{append-nil}
use Rattle.std.proofs.lemmas.List.Concat.{flat_map-append}
use Rattle.papergrid_values.specs.Positions.{position_of}
use Rattle.papergrid_values.specs.declared.direction.Direction.TheVariants.{Rows}
use Rattle.papergrid_tracks.proofs.LoopLemmas.{range_with_len-append}
use Rattle.papergrid_layout.specs.Places.{begin_along, total_along, track_line, track_size}
use Rattle.papergrid_layout.proofs.PlaceSums.{offset-next, offset-rises}
use Rattle.papergrid_draw.specs.Bytes.{piece_bytes, pieces_bytes}
use Rattle.papergrid_draw.specs.Characters.{vertical}
use Rattle.papergrid_draw.specs.Contents as contents
use Rattle.papergrid_draw.specs.Contents.{content}
use Rattle.papergrid_draw.specs.Drawings.{Drawing, layout_of}
use Rattle.papergrid_draw.specs.Drawn.{column_pieces, draws_vertical, text_line, vertical_pieces}
use Rattle.papergrid_draw.specs.Pieces.{Piece}
use Rattle.papergrid_draw.specs.ForProofs.Pages.{AreSlots, IsSlot, Texts, drawing_of, slot_at, text_start}
use Rattle.papergrid_draw.specs.declared.page.Frame.{Frame}
use Rattle.papergrid_draw.specs.declared.page.Slot.{Slot}
use Rattle.papergrid_draw.proofs.PageLemmas.{begins-before, column-none, column-some, slot-next}
use Rattle.papergrid_draw.proofs.PenLemmas.{pieces-append}

-- ---- bytes

-- two texts more
added-two : (before between after a b : List ℕ) → between ≡ before ++ a → after ≡ between ++ b → after ≡ before ++ (a ++ b)
added-two before between after a b one two = two ∙ ap (λ line. line ++ b) one ∙ append_assoc before a b

-- the pieces of two lists more
pub added-pieces : (before between after : List ℕ) (a b : List Piece) → between ≡ before ++ pieces_bytes a → after ≡ between ++ pieces_bytes b →
    after ≡ before ++ pieces_bytes (a ++ b)
added-pieces before between after a b one two =
    added-two before between after (pieces_bytes a) (pieces_bytes b) one two ∙ ap (λ bytes. before ++ bytes) (sym (pieces-append a b))

-- what a number more adds
pub range-more : {X : Type 0} (f : ℕ → List X) (n : ℕ) → flat_map f (range_with_len 0 (n + 1)) ≡ flat_map f (range_with_len 0 n) ++ f n
range-more f n =
    ap (flat_map f) (range_with_len-append 0 n 1)
    ∙ flat_map-append f (range_with_len 0 n) (range_with_len (0 + n) 1)
    ∙ ap (λ more. flat_map f (range_with_len 0 n) ++ more) (append-nil (f (0 + n)) ∙ ap f (let e : 0 + n ≡ n = omega arith in e))

-- the pieces of a column more
pub column-more : (f : ℕ → List Piece) (n : ℕ) (before between after : List ℕ) → between ≡ before ++ pieces_bytes (flat_map f (range_with_len 0 n)) →
    after ≡ between ++ pieces_bytes (f n) → after ≡ before ++ pieces_bytes (flat_map f (range_with_len 0 (n + 1)))
column-more f n before between after so_far more =
    added-pieces before between after (flat_map f (range_with_len 0 n)) (f n) so_far more
    ∙ ap (λ pieces. before ++ pieces_bytes pieces) (sym (range-more f n))

module _ (d : Drawing) where
  -- no vertical line adds nothing
  pub vertical-none : (r j k : ℕ) (bytes : List ℕ) → draws_vertical d j ≡ false → bytes ≡ bytes ++ pieces_bytes (vertical_pieces d r j k)
  vertical-none r j k bytes none =
      sym (ap (λ b. bytes ++ pieces_bytes (if b then vertical d.config d.shape (position_of (r, j)) (d.heights r) k ∷ [] else [])) none ∙ append-nil bytes)

  -- one adds its character
  pub vertical-some : (r j k : ℕ) → draws_vertical d j ≡ true →
      piece_bytes (vertical d.config d.shape (position_of (r, j)) (d.heights r) k) ≡ pieces_bytes (vertical_pieces d r j k)
  vertical-some r j k some =
      sym (ap (λ b. pieces_bytes (if b then vertical d.config d.shape (position_of (r, j)) (d.heights r) k ∷ [] else [])) some
      ∙ append-nil (piece_bytes (vertical d.config d.shape (position_of (r, j)) (d.heights r) k)))

  -- the line is done with the vertical line after the last column
  pub line-done : (r k col last : ℕ) (before between after : List ℕ) → col ≡ d.shape.1 → last ≡ d.shape.1 →
      between ≡ before ++ pieces_bytes (flat_map (column_pieces d r k) (range_with_len 0 col)) →
      after ≡ between ++ pieces_bytes (vertical_pieces d r last k) → after ≡ before ++ pieces_bytes (text_line d r k)
  line-done r k col last before between after all end columns line =
      added-pieces before between after (flat_map (column_pieces d r k) (range_with_len 0 col)) (vertical_pieces d r last k) columns line
      ∙ (λ i. before ++ pieces_bytes (flat_map (column_pieces d r k) (range_with_len 0 (all i)) ++ vertical_pieces d r (end i) k))

  -- a row ends within the table
  text-within : (r : ℕ) → r < d.shape.0 → text_start d r + d.heights r ≤ total_along (layout_of d) Rows
  text-within r inside =
      let next = offset-next (track_size (layout_of d) Rows) (track_line (layout_of d) Rows) r in
      let rises = offset-rises (track_size (layout_of d) Rows) (track_line (layout_of d) Rows) (r + 1) d.shape.0 (omega (arith, inside)) in
      omega (arith, next, rises)

  -- ---- what is kept in a column

  module _ {T : Type 0} (r c k : ℕ) (slot : Slot T) (is : IsSlot d r c (text_start d r + k) slot) where
    -- one line more is drawn
    pub slot-drawn : IsSlot d {T = T} r c (text_start d r + (k + 1)) (record { owner = slot.owner; block = slot.block; drawn = slot.drawn + 1 })
    slot-drawn =
        let y : text_start d r + k + 1 ≡ text_start d r + (k + 1) = omega arith in
        let begun : begin_along (layout_of d) Rows is.0 ≤ text_start d r + k = (let le = begins-before d r c is.0 is.1 in omega (arith, le)) in (
          is.0,
          is.1,
          ap (λ (s : Slot T). record { owner = s.owner; block = s.block; drawn = s.drawn + 1 }) is.2
              ∙ sym (slot-next d is.0 c (text_start d r + k) begun) ∙ ap (slot_at d {T = T} is.0 c) y,
        )

    -- fewer are drawn than the table has
    pub drawn-within : r < d.shape.0 → k < d.heights r → slot.drawn < total_along (layout_of d) Rows
    drawn-within inside few =
        let drawn : slot.drawn ≡ text_start d r + k - begin_along (layout_of d) Rows is.0 = ap (λ (s : Slot T). s.drawn) is.2 in
        let ends = text-within r inside in
        omega (arith, drawn, ends, few)

    -- nothing is added where nothing is kept to draw
    pub column-skipped : (before after : List ℕ) → slot.block ≡ None → after ≡ before → after ≡ before ++ pieces_bytes (column_pieces d r k c)
    column-skipped before after none same =
        let empty = column-none d T r k c is.0 is.1 (ap (λ (s : Slot T). s.block) (sym is.2) ∙ none) in
        same ∙ sym (append-nil before) ∙ ap (λ pieces. before ++ pieces_bytes pieces) (sym empty)

    -- else the line before it, and its line
    pub column-added : (before between after : List ℕ) (b : contents.Block) → slot.block ≡ Some b →
        between ≡ before ++ pieces_bytes (vertical_pieces d r c k) → after ≡ between ++ pieces_bytes (content b slot.drawn) →
        after ≡ before ++ pieces_bytes (column_pieces d r k c)
    column-added before between after b some line cell =
        let held = column-some d T r k c is.0 b is.1 (ap (λ (s : Slot T). s.block) (sym is.2) ∙ some) in
        added-pieces before between after (vertical_pieces d r c k) (content b slot.drawn) line cell
        ∙ ap (λ pieces. before ++ pieces_bytes pieces)
        (ap (λ (s : Slot T). vertical_pieces d r c k ++ content b s.drawn) is.2 ∙ sym held)

  -- the next column is still as before
  pub slot-waits : {T : Type 0} (r col before after : ℕ) (slots : List (Slot T)) (other : Slot T) → col < d.shape.1 →
      AreSlots d r (λ c. cond (nat_lt c col) after before) slots → IsSlot d r col before (get_or slots col other)
  slot-waits r col before after slots other inside are =
      subst (λ n. IsSlot d r col n (get_or slots col other)) (ap (λ b. cond {A = ℕ} b after before) (le-ltb col col (omega arith))) (are.kept col other inside)

-- ---- what is read of a table once

module _ (frame : Frame) where
  -- its columns
  pub frame-columns : frame.shape.1 ≡ length frame.table.now.widths
  frame-columns = ap (λ (s : ℕ × ℕ). s.1) frame.read.shape_is

  -- each has a slot
  pub slot-there : {T : Type 0} (texts : Texts) (r col : ℕ) (y : ℕ → ℕ) (slots : List (Slot T)) → AreSlots (drawing_of frame.table.now texts) r y slots →
      col < frame.shape.1 → col < length slots
  slot-there texts r col y slots are inside = let wide = frame-columns in omega (arith, inside, wide, are.each)

  -- whether a line is drawn before a column
  pub frame-line : (texts : Texts) (j : ℕ) (kept : Bool) → j ≤ frame.shape.1 → kept ≡ get_or frame.verticals.items j kept →
      draws_vertical (drawing_of frame.table.now texts) j ≡ kept
  frame-line texts j kept within is = sym (is ∙ frame.read.verticals_are.each texts j kept (let wide = frame-columns in omega (arith, within, wide)))
