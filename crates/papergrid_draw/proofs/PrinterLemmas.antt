-- What is known of a table while its lines are written.
use Rattle.std.proofs.Common.{◌⊎◌, ◌==◌, ◌||◌, inl, inr, take, replicate, ◌≡◌, ◌∙◌, ℕ, zero, suc, ◌+◌, ◌-◌, ◌<◌, ◌≤◌, ◌&&◌, Bool, true, false, cond, if◌then◌else◌, is_some, leb, List, [], ◌∷◌, ◌++◌, Option, Some, None, Result, Ok, Err, OnOk, length, map, refl, sym, ap, subst, arith, flat_map, append-nil, append_assoc, slice_index_or}
use Rattle.std.specs.List.{enumerate_from, join_with_byte, range_with_len}
use Rattle.std.proofs.Math.Seq.{take-append_seam}
use Rattle.std.proofs.lemmas.Bool.{false≢true, le-leb}
use Rattle.std.proofs.lemmas.Grind.{flat_map-append}
use Rattle.std.proofs.lemmas.List.{length-map, length-append, map-append}
use Rattle.std.proofs.lemmas.List.FromFn.{length-map-range_with_len, map-range_with_len_more}
use Rattle.papergrid_values.specs.declared.direction.Direction.TheVariants.{Rows}
use Rattle.papergrid_values.specs.declared.indent.Indent.{Indent}
use Rattle.papergrid_values.specs.declared.offset.Offset.{Offset}
use Rattle.papergrid_values.specs.declared.sides.Sides.{Sides}
use Rattle.papergrid_config.specs.declared.spanned.SpannedConfig.{SpannedConfig}
use Rattle.papergrid_tracks.proofs.LoopLemmas.{range_with_len-append}
use Rattle.papergrid_layout.specs.Places.{total_along, track_line, track_size}
use Rattle.papergrid_layout.specs.Tables.{TableParts, line_position, view_of}
use Rattle.papergrid_layout.proofs.PlaceSums.{line-before, offset-next, offset-rises}
use Rattle.papergrid_draw.specs.Bytes.{line_bytes}
use Rattle.papergrid_draw.specs.Drawings.{Drawing, layout_of}
use Rattle.papergrid_draw.specs.Drawn.{DrawnLine, RuleLine, TextLine, drawn_lines, draws_horizontal, row_lines, rule_line, rule_lines, text_line}
use Rattle.papergrid_draw.specs.Margins.{beside, margin_line, printed, printed_lines, whole_width, with_margins}
use Rattle.papergrid_draw.specs.ForProofs.Pages.{AreSlotsSet, AreSlots, IsSlot, Texts, drawing_of, row_start, text_start}
use Rattle.papergrid_draw.specs.ForProofs.Sheets.{AtRow, AtRule, AtText, IsCutShort, Writes, WritesLines, left_margin_at, lines_after, margined, right_margin_at, separator, first_text_lines}
use Rattle.papergrid_draw.specs.declared.page.Slot.{Slot}
use Rattle.papergrid_draw.specs.declared.sheet.Sheet.{Sheet}
use Rattle.papergrid_draw.proofs.SheetLemmas.{enumerate_from-append, lines-beside, lines-cut, lines-then, lines_after-all}
use Rattle.papergrid_draw.specs.declared.error.DrawError.{DrawError}

module _ (d : Drawing) where
  abbrev drawn : ℕ → ℕ
  drawn r = cond (draws_horizontal d r) 1 0

  -- ---- where rows begin

  pub text-after : (r : ℕ) → text_start d r ≡ row_start d r + drawn r
  text-after r = line-before (track_size (layout_of d) Rows) (track_line (layout_of d) Rows) r

  pub row-after : (r : ℕ) → row_start d (r + 1) ≡ text_start d r + d.heights r
  row-after r =
      let next : text_start d (r + 1) ≡ text_start d r + d.heights r + drawn (r + 1) = offset-next (track_size (layout_of d) Rows) (track_line (layout_of d) Rows) r in
      let line : text_start d (r + 1) ≡ row_start d (r + 1) + drawn (r + 1) = text-after (r + 1) in
      omega arith

  -- a line that is drawn is one of all
  pub rule-within : (r : ℕ) → r ≤ d.shape.0 → draws_horizontal d r ≡ true → row_start d r < total_along (layout_of d) Rows
  rule-within r le is =
      let at : text_start d r ≡ row_start d r + drawn r = text-after r in
      let one : drawn r ≡ 1 = ap (λ b. cond {A = ℕ} b 1 0) is in
      let rises : text_start d r ≤ total_along (layout_of d) Rows = offset-rises (track_size (layout_of d) Rows) (track_line (layout_of d) Rows) r d.shape.0 le in
      omega arith

  pub text-within : (r k : ℕ) → r < d.shape.0 → k < d.heights r → text_start d r + k < total_along (layout_of d) Rows
  text-within r k l below =
      let next : text_start d (r + 1) ≡ text_start d r + d.heights r + drawn (r + 1) = offset-next (track_size (layout_of d) Rows) (track_line (layout_of d) Rows) r in
      let rises : text_start d (r + 1) ≤ total_along (layout_of d) Rows =
      offset-rises (track_size (layout_of d) Rows) (track_line (layout_of d) Rows) (r + 1) d.shape.0 (omega arith) in
      omega arith

  -- ---- how many lines there are

  length-rule : (r : ℕ) (is : Bool) → draws_horizontal d r ≡ is → length (rule_lines d r) ≡ cond is 1 0
  length-rule r true e = rw e
  length-rule r false e = rw e

  pub length-rule_lines : (r : ℕ) → length (rule_lines d r) ≡ drawn r
  length-rule_lines r = length-rule r (draws_horizontal d r) refl

  pub length-text_lines : (r k : ℕ) → length (first_text_lines d r k) ≡ k
  length-text_lines r k = length-map-range_with_len _ 0 k

  pub text_lines-more : (r k : ℕ) → first_text_lines d r (k + 1) ≡ first_text_lines d r k ++ TextLine (text_line d r k) ∷ []
  text_lines-more r k = map-range_with_len_more (λ i. TextLine (text_line d r i)) 0 k k (omega arith)

  length-row_lines : (r : ℕ) → length (row_lines d r) ≡ drawn r + d.heights r
  length-row_lines r =
      let whole : length (row_lines d r) ≡ length (rule_lines d r) + length (first_text_lines d r (d.heights r)) = length-append (rule_lines d r) (first_text_lines d r (d.heights r)) in
      omega (arith, length-rule_lines r, length-text_lines r (d.heights r))

  -- the lines of the first rows
  abbrev pub first_rows : ℕ → List DrawnLine
  first_rows r = flat_map (row_lines d) (range_with_len 0 r)

  pub first_rows-more : (r : ℕ) → first_rows (r + 1) ≡ first_rows r ++ row_lines d r
  first_rows-more r =
      ap (flat_map (row_lines d)) (range_with_len-append 0 r 1)
      ∙ flat_map-append (row_lines d) (range_with_len 0 r) (range_with_len (0 + r) 1)
      ∙ ap (λ l. first_rows r ++ l) (append-nil (row_lines d (0 + r)) ∙ ap (row_lines d) (let e : 0 + r ≡ r = omega arith in e))

  pub length-first_rows : (r : ℕ) → length (first_rows r) ≡ row_start d r
  length-first_rows zero = refl
  length-first_rows (suc r) =
      let more : length (first_rows (suc r)) ≡ length (first_rows r ++ row_lines d r) =
      ap (λ k. length (first_rows k)) (let e : suc r ≡ r + 1 = omega arith in e) ∙ ap length (first_rows-more r) in
      let both : length (first_rows r ++ row_lines d r) ≡ length (first_rows r) + length (row_lines d r) = length-append (first_rows r) (row_lines d r) in
      let next : row_start d (suc r) ≡ row_start d (r + 1) = ap (row_start d) (let e : suc r ≡ r + 1 = omega arith in e) in
      omega (arith, length-first_rows r, length-row_lines r, text-after r, row-after r)

  -- ---- lines with their margins

  pub margined-append : (y : ℕ) (xs ys : List DrawnLine) → margined d y (xs ++ ys) ≡ margined d y xs ++ margined d (y + length xs) ys
  margined-append y xs ys =
      ap (λ l. map (with_margins d) l)
      (ap (enumerate_from y) (map-append line_bytes xs ys)
      ∙ enumerate_from-append y (map line_bytes xs) (map line_bytes ys)
      ∙ ap (λ k. enumerate_from y (map line_bytes xs) ++ enumerate_from (y + k) (map line_bytes ys)) (length-map xs line_bytes))
      ∙ map-append (with_margins d) (enumerate_from y (map line_bytes xs)) (enumerate_from (y + length xs) (map line_bytes ys))

  -- lines up to line z, and more from there on
  pub margined-then : (y z : ℕ) (xs ys : List DrawnLine) → z ≡ y + length xs → margined d y xs ++ margined d z ys ≡ margined d y (xs ++ ys)
  margined-then y z xs ys at = ap (λ k. margined d y xs ++ margined d k ys) at ∙ sym (margined-append y xs ys)

  -- all lines, by those of the first rows
  pub drawn-from : (r : ℕ) → r ≤ d.shape.0 →
      drawn_lines d ≡ first_rows r ++ (flat_map (row_lines d) (range_with_len (0 + r) (d.shape.0 - r)) ++ rule_lines d d.shape.0)
  drawn-from r le =
      ap (λ l. l ++ rule_lines d d.shape.0)
      (ap first_rows (let e : d.shape.0 ≡ r + (d.shape.0 - r) = omega arith in e)
      ∙ ap (flat_map (row_lines d)) (range_with_len-append 0 r (d.shape.0 - r))
      ∙ flat_map-append (row_lines d) (range_with_len 0 r) (range_with_len (0 + r) (d.shape.0 - r)))
      ∙ append_assoc (first_rows r) (flat_map (row_lines d) (range_with_len (0 + r) (d.shape.0 - r))) (rule_lines d d.shape.0)

  -- by the relations of texts that are taken and of one that breaks off
  module _ {W : Type 0} (takes breaks : W → List ℕ → W → Type 0) where
    -- a line between its margins
    pub one-margined : {A : Type 0} (a b : W) (begun after : Bool) (y z : ℕ) (line : DrawnLine) (first second : List ℕ) (r : Result A DrawError) → z ≡ y →
        first ≡ separator begun ++ left_margin_at d y → second ≡ first ++ line_bytes line → Writes takes breaks a b (second ++ right_margin_at d z) r → OnOk r (after ≡ true) →
        WritesLines takes breaks a b begun after (margined d y (line ∷ [])) r
    one-margined a b begun after y z line first second r same starts goes writes done =
        lines-beside takes breaks a b begun after (left_margin_at d y) (line_bytes line) (right_margin_at d y) first second r starts goes
        (subst (λ k. Writes takes breaks a b (second ++ right_margin_at d k) r) same writes) done

    -- the lines with their margins, where there are some before others
    pub margined-lines : {A B : Type 0} (a b c : W) (p q s : Bool) (y z : ℕ) (xs ys : List DrawnLine) (x : A) (r : Result B DrawError) → z ≡ y + length xs →
        WritesLines takes breaks a b p q (margined d y xs) (Ok x) → WritesLines takes breaks b c q s (margined d z ys) r → WritesLines takes breaks a c p s (margined d y (xs ++ ys)) r
    margined-lines a b c p q s y z xs ys x r at first second =
        subst (λ lines. WritesLines takes breaks a c p s lines r) (margined-then y z xs ys at)
        (lines-then takes breaks a b c p q s (margined d y xs) (margined d z ys) x r first second)

    -- or not all of them were written
    pub margined-cut : {A B : Type 0} (a b : W) (p q s : Bool) (y : ℕ) (xs ys : List DrawnLine) (error : DrawError) →
        WritesLines takes breaks {A = A} a b p q (margined d y xs) (Err error) → WritesLines takes breaks {A = B} a b p s (margined d y (xs ++ ys)) (Err error)
    margined-cut {B = B} a b p q s y xs ys error cut =
        subst (λ lines. WritesLines takes breaks {A = B} a b p s lines (Err error)) (sym (margined-append y xs ys))
        (lines-cut takes breaks a b p q s (margined d y xs) (margined d (y + length xs) ys) error cut)

    -- one more text line of a row
    pub text_lines-next : {A B : Type 0} (a b c : W) (p q s : Bool) (y z r k : ℕ) (x : A) (result : Result B DrawError) → z ≡ y + k →
        WritesLines takes breaks a b p q (margined d y (first_text_lines d r k)) (Ok x) → WritesLines takes breaks b c q s (margined d z (TextLine (text_line d r k) ∷ [])) result →
        WritesLines takes breaks a c p s (margined d y (first_text_lines d r (k + 1))) result
    text_lines-next {B = B} a b c p q s y z r k x result at first second =
        subst (λ lines. WritesLines takes breaks {A = B} a c p s (margined d y lines) result) (sym (text_lines-more r k))
        (margined-lines a b c p q s y z (first_text_lines d r k) (TextLine (text_line d r k) ∷ []) x result (at ∙ ap (λ n. y + n) (sym (length-text_lines r k))) first second)

    -- or not all of it was written
    pub text_lines-cut : {A B : Type 0} (a b c : W) (p q s t : Bool) (y z r k n : ℕ) (x : A) (error : DrawError) → z ≡ y + k → k < n →
        WritesLines takes breaks a b p q (margined d y (first_text_lines d r k)) (Ok x) → WritesLines takes breaks {A = B} b c q s (margined d z (TextLine (text_line d r k) ∷ [])) (Err error) →
        WritesLines takes breaks {A = B} a c p t (margined d y (first_text_lines d r n)) (Err error)
    text_lines-cut {B = B} a b c p q s t y z r k n x error at l first second =
        let later = map (λ i. TextLine (text_line d r i)) (range_with_len (0 + (k + 1)) (n - (k + 1))) in
        subst (λ lines. WritesLines takes breaks {A = B} a c p t (margined d y lines) (Err error))
        (sym (map-append (λ i. TextLine (text_line d r i)) (range_with_len 0 (k + 1)) (range_with_len (0 + (k + 1)) (n - (k + 1))))
        ∙ ap (map (λ i. TextLine (text_line d r i))) (sym (range_with_len-append 0 (k + 1) (n - (k + 1))))
        ∙ ap (first_text_lines d r) (let e : k + 1 + (n - (k + 1)) ≡ n = omega arith in e))
        (margined-cut {A = B} a c p s t y (first_text_lines d r (k + 1)) later error (text_lines-next a b c p q s y z r k x (Err error) at first second))

    -- one more row
    pub first_rows-next : {A B : Type 0} (a b c : W) (p q s : Bool) (z r : ℕ) (x : A) (result : Result B DrawError) → z ≡ row_start d r →
        WritesLines takes breaks a b p q (margined d 0 (first_rows r)) (Ok x) → WritesLines takes breaks b c q s (margined d z (row_lines d r)) result →
        WritesLines takes breaks a c p s (margined d 0 (first_rows (r + 1))) result
    first_rows-next {B = B} a b c p q s z r x result at first second =
        subst (λ lines. WritesLines takes breaks {A = B} a c p s (margined d 0 lines) result) (sym (first_rows-more r))
        (margined-lines a b c p q s 0 z (first_rows r) (row_lines d r) x result (omega (arith, at, length-first_rows r)) first second)

    -- or not all of it was written
    pub drawn-cut : {A B : Type 0} (a b c : W) (p q s t : Bool) (z r : ℕ) (x : A) (error : DrawError) → r < d.shape.0 → z ≡ row_start d r →
        WritesLines takes breaks a b p q (margined d 0 (first_rows r)) (Ok x) → WritesLines takes breaks {A = B} b c q s (margined d z (row_lines d r)) (Err error) →
        WritesLines takes breaks {A = B} a c p t (margined d 0 (drawn_lines d)) (Err error)
    drawn-cut {B = B} a b c p q s t z r x error l at first second =
        subst (λ lines. WritesLines takes breaks {A = B} a c p t (margined d 0 lines) (Err error)) (sym (drawn-from (r + 1) (let le : r + 1 ≤ d.shape.0 = omega arith in le)))
        (margined-cut {A = B} a c p s t 0 (first_rows (r + 1)) (flat_map (row_lines d) (range_with_len (0 + (r + 1)) (d.shape.0 - (r + 1))) ++ rule_lines d d.shape.0) error
        (first_rows-next a b c p q s z r x (Err error) at first second))

    -- all lines, after the last row
    pub drawn-all : {A B : Type 0} (a b c : W) (p q s : Bool) (z r : ℕ) (x : A) (result : Result B DrawError) → r ≡ d.shape.0 → z ≡ row_start d r →
        WritesLines takes breaks a b p q (margined d 0 (first_rows r)) (Ok x) → WritesLines takes breaks b c q s (margined d z (rule_lines d r)) result →
        WritesLines takes breaks a c p s (margined d 0 (drawn_lines d)) result
    drawn-all {B = B} a b c p q s z r x result end at first second =
        subst (λ n. WritesLines takes breaks {A = B} a c p s (margined d 0 (first_rows n ++ rule_lines d n)) result) end
        (margined-lines a b c p q s 0 z (first_rows r) (rule_lines d r) x result (omega (arith, at, length-first_rows r)) first second)

  -- ---- slots

  pub slots-none : {T : Type 0} (slots : List (Slot T)) → length slots ≡ d.shape.1 → AreSlotsSet d 0 0 slots
  slots-none slots each = record {
    each = each;
    taken = λ j other within l. absurd (omega (arith, l));
    above = λ j other within le l. absurd (omega (arith, l));
  }

  pub slots-set : {T : Type 0} (r c : ℕ) (slots : List (Slot T)) → c ≡ d.shape.1 → AreSlotsSet d r c slots → AreSlots d r (λ _. row_start d r) slots
  slots-set r c slots all are = record {
    each = are.each;
    kept = λ j other within. are.taken j other within (omega (arith, within));
  }

  -- where another line comes next
  pub slots-at : {T : Type 0} (r y z : ℕ) (slots : List (Slot T)) → y ≡ z → AreSlots d r (λ _. y) slots → AreSlots d r (λ _. z) slots
  slots-at r y z slots e are = subst (λ k. AreSlots d r (λ _. k) slots) e are

  -- those of a row are kept for the next one
  pub slots-next : {T : Type 0} (r : ℕ) (slots : List (Slot T)) → AreSlots d r (λ _. row_start d (r + 1)) slots → AreSlotsSet d (r + 1) 0 slots
  slots-next r slots are = record {
    each = are.each;
    taken = λ j other within l. absurd (omega (arith, l));
    above = λ j other within le l.
        subst (λ q. IsSlot d q j (row_start d (r + 1)) (slice_index_or slots j other)) (let e : r ≡ r + 1 - 1 = omega arith in e) (are.kept j other within);
  }

-- ---- steps

module _ (its : Drawing) where
  -- no line is drawn before a row
  pub text-unruled : {T : Type 0} (r : ℕ) (sheet : Sheet) (slots : List (Slot T)) → AtRule its r sheet slots → r < its.shape.0 →
      draws_horizontal its r ≡ false → AtText its r 0 sheet slots
  text-unruled r sheet slots at l none =
      let after : text_start its r ≡ row_start its r + cond (draws_horizontal its r) 1 0 = text-after its r in
      let zero_lines : cond {A = ℕ} (draws_horizontal its r) 1 0 ≡ 0 = ap (λ b. cond {A = ℕ} b 1 0) none in
      record {
        row_in = l;
        written = (let e : sheet.written ≡ text_start its r + 0 = omega (arith, at.written) in e);
        kept = slots-at its r (row_start its r) (text_start its r + 0) slots (omega arith) (at.kept l);
      }

  -- one is, and is written
  pub text-ruled : {T : Type 0} (r : ℕ) (sheet later : Sheet) (slots drawn_over : List (Slot T)) → AtRule its r sheet slots → r < its.shape.0 →
      draws_horizontal its r ≡ true → later.written ≡ sheet.written + 1 → AreSlots its r (λ _. text_start its r) drawn_over → AtText its r 0 later drawn_over
  text-ruled r sheet later slots drawn_over at l is more kept =
      let after : text_start its r ≡ row_start its r + cond (draws_horizontal its r) 1 0 = text-after its r in
      let one_line : cond {A = ℕ} (draws_horizontal its r) 1 0 ≡ 1 = ap (λ b. cond {A = ℕ} b 1 0) is in
      record {
        row_in = l;
        written = (let e : later.written ≡ text_start its r + 0 = omega (arith, at.written, more) in e);
        kept = slots-at its r (text_start its r) (text_start its r + 0) drawn_over (omega arith) kept;
      }

  -- after a text line comes the next
  pub text-next : {T : Type 0} (r k : ℕ) (sheet later : Sheet) (slots drawn_on : List (Slot T)) → AtText its r k sheet slots → later.written ≡ sheet.written + 1 →
      AreSlots its r (λ _. text_start its r + (k + 1)) drawn_on → AtText its r (k + 1) later drawn_on
  text-next r k sheet later slots drawn_on at more kept = record {
    row_in = at.row_in;
    written = (let e : later.written ≡ text_start its r + (k + 1) = omega (arith, at.written, more) in e);
    kept = kept;
  }

  -- after the last one the next row
  pub row-next : {T : Type 0} (r : ℕ) (sheet : Sheet) (slots : List (Slot T)) → AtText its r (its.heights r) sheet slots → AtRow its (r + 1) sheet slots
  row-next r sheet slots at = record {
    written = at.written ∙ sym (row-after its r);
    kept = slots-next its r slots (slots-at its r (text_start its r + its.heights r) (row_start its (r + 1)) slots (sym (row-after its r)) at.kept);
  }

  -- the cells of a row are taken
  pub rule-comes : {T : Type 0} (r : ℕ) (sheet : Sheet) (slots taken : List (Slot T)) → AtRow its r sheet slots → r < its.shape.0 →
      AreSlotsSet its r (its.shape.1) taken → AtRule its r sheet taken
  rule-comes r sheet slots taken at l are = record {
    row_in = (let le : r ≤ its.shape.0 = omega arith in le);
    written = at.written;
    each = are.each;
    kept = λ l'. slots-set its r (its.shape.1) taken refl are;
  }

  -- after the last row
  pub rule-ends : {T : Type 0} (r : ℕ) (sheet : Sheet) (slots : List (Slot T)) → AtRow its r sheet slots → r ≡ its.shape.0 → AtRule its r sheet slots
  rule-ends r sheet slots at end = record {
    row_in = (let le : r ≤ its.shape.0 = omega arith in le);
    written = at.written;
    each = at.kept.each;
    kept = λ l. absurd (omega arith);
  }

  -- told of the number of rows and of the slots otherwise
  pub rule-last : {T : Type 0} (r rows : ℕ) (sheet : Sheet) (slots lent : List (Slot T)) → AtRow its r sheet slots → r ≡ its.shape.0 →
      r ≡ rows → slots ≡ lent → AtRule its rows sheet lent
  rule-last r rows sheet slots lent at end last same =
      subst (λ n. AtRule its n sheet lent) last
      (subst (λ l. AtRule its r sheet l) same (rule-ends r sheet slots at end))

  pub row-first : {T : Type 0} (sheet : Sheet) (slots : List (Slot T)) → sheet.written ≡ 0 →
      length slots ≡ its.shape.1 → AtRow its 0 sheet slots
  row-first sheet slots none each = record {
    written = none;
    kept = slots-none its slots each;
  }

some-where : (x : Bool) (y : ℕ) → is_some (if x then Some y else None) ≡ x
some-where true y = refl
some-where false y = refl

-- whether there is a horizontal line
pub line-told : (parts : TableParts) (texts : Texts) (r : ℕ) (found : Option ℕ) (is : Bool) → r ≤ length parts.heights →
    found ≡ line_position (view_of parts) Rows r → is_some found ≡ is → draws_horizontal (drawing_of parts texts) r ≡ is
line-told parts texts r found is le at some =
    let has = track_line (view_of parts) Rows r in
    let within : leb r (length parts.heights) ≡ true = le-leb r (length parts.heights) le in
    ap (λ b. b && has) (sym within) ∙ sym (some-where (leb r (length parts.heights) && has) _) ∙ ap is_some (sym at) ∙ some

-- one that is there
pub rule_lines-one : (d : Drawing) (r : ℕ) → draws_horizontal d r ≡ true → RuleLine (rule_line d r) ∷ [] ≡ rule_lines d r
rule_lines-one d r is = ap (λ b. if b then RuleLine (rule_line d r) ∷ [] else []) (sym is)

pub rule_lines-none : (d : Drawing) (r : ℕ) → draws_horizontal d r ≡ false → [] ≡ rule_lines d r
rule_lines-none d r isnt = ap (λ b. if b then RuleLine (rule_line d r) ∷ [] else []) (sym isnt)

-- what a slice of a vector became is the vector
pub whole-back : {X : Type 0} (n : ℕ) (now rest : List X) → n ≡ length now → take n (now ++ rest) ≡ now
whole-back n now rest e = ap (λ k. take k (now ++ rest)) e ∙ take-append_seam now rest

-- what stands beside a line
pub same-beside : (i j : Indent) (c k : Option (List ℕ × List ℕ)) (o q : Offset) (n m y : ℕ) → i ≡ j → c ≡ k → o ≡ q → n ≡ m →
    beside i c o n y ≡ beside j k q m y
same-beside i j c k o q n m y ei ec eo en = cc

-- the lines of a margin
same-margin : (i j : Indent) (c k : Option (List ℕ × List ℕ)) (o q : Offset) (w v : ℕ) → i ≡ j → c ≡ k → o ≡ q → w ≡ v →
    replicate i.size (margin_line i c o w) ≡ replicate j.size (margin_line j k q v)
same-margin i j c k o q w v ei ec eo ew = cc

some-lines : (rows columns : Bool) (bytes : List ℕ) → rows ≡ false → columns ≡ false → (if rows || columns then [] else bytes) ≡ bytes
some-lines false columns bytes e f = ap (λ b. if b then [] else bytes) f
some-lines true columns bytes e f = absurd (false≢true (sym e))

no-lines : (rows columns : Bool) (bytes : List ℕ) → (rows ≡ true) ⊎ (columns ≡ true) → (if rows || columns then [] else bytes) ≡ []
no-lines true columns bytes is = refl
no-lines false columns bytes (inl e) = absurd (false≢true e)
no-lines false columns bytes (inr e) = ap (λ b. if b then [] else bytes) e

-- the picture of a table with rows and columns, and of another
pub printed-some : (d : Drawing) → (d.shape.0 == 0) ≡ false → (d.shape.1 == 0) ≡ false → printed d ≡ join_with_byte 10 (printed_lines d)
unfolding printed
printed-some d rows columns = some-lines (d.shape.0 == 0) (d.shape.1 == 0) (join_with_byte 10 (printed_lines d)) rows columns

pub printed-none : (d : Drawing) → ((d.shape.0 == 0) ≡ true) ⊎ ((d.shape.1 == 0) ≡ true) → printed d ≡ []
unfolding printed
printed-none d none = no-lines (d.shape.0 == 0) (d.shape.1 == 0) (join_with_byte 10 (printed_lines d)) none

-- ---- the picture

-- by the relations of texts that are taken and of one that breaks off
module _ {W : Type 0} (takes breaks : W → List ℕ → W → Type 0) where
  pub picture-of : {A : Type 0} (a b : W) (p s : Bool) (lines : List (List ℕ)) (r : Result A DrawError) → p ≡ false → WritesLines takes breaks a b p s lines r →
      Writes takes breaks a b (join_with_byte 10 lines) r
  picture-of a b p s lines r none writes =
      subst (λ l. Writes takes breaks a b l r) (ap (λ begun. lines_after begun lines) none ∙ lines_after-all lines) writes.bytes

  -- the lines of a margin, by a configuration that is read
  pub margin-read : {A : Type 0} (a b : W) (p s : Bool) (r : Result A DrawError) (config from : SpannedConfig) (margin : Sides Indent) (color : Option (List ℕ × List ℕ)) (offset : Sides Offset) (w v : ℕ)
      (indent_of : Sides Indent → Indent) (color_of : SpannedConfig → Option (List ℕ × List ℕ)) (offset_of : Sides Offset → Offset) →
      config ≡ from → margin ≡ config.margin → color ≡ color_of config → offset ≡ config.margin_offset → w ≡ v →
      WritesLines takes breaks a b p s (replicate (indent_of margin).size (margin_line (indent_of margin) color (offset_of offset) w)) r →
      WritesLines takes breaks a b p s (replicate (indent_of from.margin).size (margin_line (indent_of from.margin) (color_of from) (offset_of from.margin_offset) v)) r
  margin-read a b p s r config from margin color offset w v indent_of color_of offset_of same margin_is color_is offset_is width =
      subst (λ lines. WritesLines takes breaks a b p s lines r)
      (same-margin _ _ _ _ _ _ w v (ap indent_of (margin_is ∙ ap (λ (k : SpannedConfig). k.margin) same)) (color_is ∙ ap color_of same)
      (ap offset_of (offset_is ∙ ap (λ (k : SpannedConfig). k.margin_offset) same)) width)

-- the lines of the table between those of the margins
module _ (d : Drawing) where
  abbrev pub top_lines : List (List ℕ)
  top_lines = replicate d.config.margin.top.size (margin_line d.config.margin.top d.config.margin_color.top d.config.margin_offset.top (whole_width d))

  abbrev pub bottom_lines : List (List ℕ)
  bottom_lines = replicate d.config.margin.bottom.size (margin_line d.config.margin.bottom d.config.margin_color.bottom d.config.margin_offset.bottom (whole_width d))

  -- by the relations of texts that are taken and of one that breaks off
  module _ {W : Type 0} (takes breaks : W → List ℕ → W → Type 0) where
    pub picture-cut-above : {A : Type 0} (a b : W) (p s : Bool) (error : DrawError) → p ≡ false → WritesLines takes breaks {A = A} a b p s top_lines (Err error) →
        IsCutShort takes breaks a b (join_with_byte 10 (printed_lines d)) error
    picture-cut-above {A = A} a b p s error none cut =
        picture-of takes breaks {A = A} a b p s (printed_lines d) (Err error) none
        (lines-cut takes breaks {B = A} a b p s s (top_lines ++ margined d 0 (drawn_lines d)) bottom_lines error
        (lines-cut takes breaks {B = A} a b p s s top_lines (margined d 0 (drawn_lines d)) error cut))

    pub picture-cut : {A B : Type 0} (a b c : W) (p q s : Bool) (x : A) (error : DrawError) → p ≡ false → WritesLines takes breaks {A = A} a b p q top_lines (Ok x) →
        WritesLines takes breaks {A = B} b c q s (margined d 0 (drawn_lines d)) (Err error) → IsCutShort takes breaks a c (join_with_byte 10 (printed_lines d)) error
    picture-cut {B = B} a b c p q s x error none above lines =
        picture-of takes breaks {A = B} a c p s (printed_lines d) (Err error) none
        (lines-cut takes breaks {B = B} a c p s s (top_lines ++ margined d 0 (drawn_lines d)) bottom_lines error
        (lines-then takes breaks {B = B} a b c p q s top_lines (margined d 0 (drawn_lines d)) x (Err error) above lines))

    pub picture-whole : {A B C : Type 0} (a b c e : W) (p q s t : Bool) (x : A) (y : B) (r : Result C DrawError) → p ≡ false → WritesLines takes breaks a b p q top_lines (Ok x) →
        WritesLines takes breaks b c q s (margined d 0 (drawn_lines d)) (Ok y) → WritesLines takes breaks c e s t bottom_lines r → Writes takes breaks a e (join_with_byte 10 (printed_lines d)) r
    picture-whole a b c e p q s t x y r none above lines below =
        picture-of takes breaks a e p t (printed_lines d) r none
        (lines-then takes breaks a c e p s t (top_lines ++ margined d 0 (drawn_lines d)) bottom_lines y r
        (lines-then takes breaks a b c p q s top_lines (margined d 0 (drawn_lines d)) x (Ok y) above lines) below)
