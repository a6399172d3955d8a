-- What is kept in the columns of a row, step by step.
use Rattle.std.proofs.Common.{◌≡◌, ◌≢◌, ◌∙◌, ap, sym, subst, inl, inr, ℕ, ◌+◌, ◌-◌, ◌<◌, ◌≤◌, cond, List, Option, Some, None, get_or, set, arith}
use Rattle.std.specs.Prelude.{◌==◌, if◌then◌else◌, nat_lt}
use Rattle.std.proofs.lemmas.Bool.{cases_eq, cases_lt, eq-eqb, le-ltb, lt-ltb, ne_eqb}
use Rattle.std.proofs.lemmas.Grind.{get_or-set_at}
use Rattle.std.proofs.lemmas.List.{get_or-set_other, length-set}
use Rattle.std.proofs.lemmas.Option.{same_Some}
use Rattle.papergrid_values.specs.declared.position.Position.{Position}
use Rattle.papergrid_values.specs.Positions.{position_of}
use Rattle.papergrid_values.specs.declared.direction.Direction.TheVariants.{Columns, Rows}
use Rattle.papergrid_draw.specs.Drawings.{Drawing, layout_of}
use Rattle.papergrid_draw.specs.Tiles.{IsTablePosition, IsTiled}
use Rattle.papergrid_layout.specs.Places.{IsInsideTable, begin_along}
use Rattle.papergrid_draw.specs.Contents as contents
use Rattle.papergrid_draw.specs.Contents.{block_at}
use Rattle.papergrid_draw.proofs.PageLemmas.{owner-behind, text_start-after}
use Rattle.papergrid_draw.proofs.TileLemmas.{owner-above, owner-itself, owner-known, owner-left, owner-over}
use Rattle.papergrid_draw.specs.Drawn.{owner_at}
use Rattle.papergrid_draw.specs.ForProofs.Pages.{AreSlotsSet, AreSlots, IsSlot, row_start, text_start}
use Rattle.papergrid_draw.specs.declared.page.Slot.{Slot}

-- below the next number are those below a number, and that
below-next : (c col : ℕ) → c ≢ col → nat_lt c (col + 1) ≡ nat_lt c col
below-next c col other =
    elim (cases_lt c col) [
      | inl l ↦ lt-ltb c (col + 1) (omega arith) ∙ sym (lt-ltb c col l)
      | inr ge ↦ elim (cases_lt col c) [
        | inl past ↦ le-ltb c (col + 1) (omega arith) ∙ sym (le-ltb c col ge)
        | inr le ↦ absurd (other (omega arith))
      ]
    ]

module _ {T : Type 0} (d : Drawing) where
  -- the same where the same lines come next
  pub slots-same : (r : ℕ) (y z : ℕ → ℕ) (slots : List (Slot T)) → ((c : ℕ) → c < d.shape.1 → y c ≡ z c) → AreSlots d r y slots → AreSlots d r z slots
  slots-same r y z slots same are = record {
    each = are.each;
    kept = λ c other inside. subst (λ n. IsSlot d r c n (get_or slots c other)) (same c inside) (are.kept c other inside);
  }

  -- a column more has its next line
  pub slots-step : (r col before after : ℕ) (slots : List (Slot T)) (slot : Slot T) → col < d.shape.1 →
      AreSlots d r (λ c. cond (nat_lt c col) after before) slots → IsSlot d r col after slot →
      AreSlots d r (λ c. cond (nat_lt c (col + 1)) after before) (set slots col slot)
  slots-step r col before after slots slot inside are is = record {
    each = length-set slots col slot ∙ are.each;
    kept = λ c other within. elim (cases_eq c col) [
      | inl here ↦
          let found : get_or (set slots col slot) c other ≡ slot = get_or-set_at slots col c slot other here (omega (arith, inside, are.each)) in
          let next : cond {A = ℕ} (nat_lt c (col + 1)) after before ≡ after = ap (λ b. cond {A = ℕ} b after before) (lt-ltb c (col + 1) (omega arith)) in
          rw found (rw next (rw here is))
      | inr there ↦
          let found : get_or (set slots col slot) c other ≡ get_or slots c other = get_or-set_other slots col c slot other there in
          let same : cond {A = ℕ} (nat_lt c (col + 1)) after before ≡ cond (nat_lt c col) after before =
          ap (λ b. cond {A = ℕ} b after before) (below-next c col there) in
          rw found (rw same (are.kept c other within))
    ];
  }

  -- before the first column none has
  pub slots-start : (r before after : ℕ) (slots : List (Slot T)) → AreSlots d r (λ _. before) slots → AreSlots d r (λ c. cond (nat_lt c 0) after before) slots
  slots-start r before after slots are = slots-same r _ _ slots (λ c inside. ap (λ b. cond {A = ℕ} b after before) (sym (le-ltb c 0 (omega arith)))) are

  -- after the last one each has
  pub slots-end : (r before after col : ℕ) (slots : List (Slot T)) → d.shape.1 ≤ col → AreSlots d r (λ c. cond (nat_lt c col) after before) slots →
      AreSlots d r (λ _. after) slots
  slots-end r before after col slots past are =
      slots-same r _ _ slots (λ c inside. ap (λ b. cond {A = ℕ} b after before) (lt-ltb c col (omega (arith, past, inside)))) are

  -- a cell of the row is taken
  pub set-taken : (r col : ℕ) (slots : List (Slot T)) (slot : Slot T) → col < d.shape.1 → AreSlotsSet d r col slots → IsSlot d r col (row_start d r) slot →
      AreSlotsSet d r (col + 1) (set slots col slot)
  set-taken r col slots slot inside are is = record {
    each = length-set slots col slot ∙ are.each;
    taken = λ j other within before. elim (cases_eq j col) [
      | inl here ↦ rw (get_or-set_at slots col j slot other here (omega (arith, inside, are.each))) (rw here is)
      | inr there ↦ rw (get_or-set_other slots col j slot other there) (are.taken j other within (omega (arith, before, there)))
    ];
    above = λ j other within after begun. rw (get_or-set_other slots col j slot other (λ here. omega (arith, here, after)))
        (are.above j other within (omega (arith, after)) begun);
  }

  -- that of the row above still covers the column
  pub set-stays : (r col : ℕ) (slots : List (Slot T)) → AreSlotsSet d r col slots → ((other : Slot T) → IsSlot d r col (row_start d r) (get_or slots col other)) →
      AreSlotsSet d r (col + 1) slots
  set-stays r col slots are is = record {
    each = are.each;
    taken = λ j other within before. elim (cases_eq j col) [
      | inl here ↦ rw here (is other)
      | inr there ↦ are.taken j other within (omega (arith, before, there))
    ];
    above = λ j other within after begun. are.above j other within (omega (arith, after)) begun;
  }

  -- ---- the owner of a position, by what is kept

  -- what is kept in the column is the owner of the position above
  pub kept-above : (r c : ℕ) (slots : List (Slot T)) (other : Slot T) → c < d.shape.1 → AreSlotsSet d r c slots → 0 < r →
      owner_at d (r - 1) c ≡ Some (get_or slots c other).owner
  kept-above r c slots other inside are begun =
      let is = are.above c other inside (omega arith) begun in
      is.1 ∙ ap (λ (s : Slot T). Some s.owner) (sym is.2)

  -- and in the column before that of the position on the left
  pub kept-left : (r c : ℕ) (slots : List (Slot T)) (other : Slot T) → c < d.shape.1 → AreSlotsSet d r c slots → 0 < c →
      owner_at d r (c - 1) ≡ Some (get_or slots (c - 1) other).owner
  kept-left r c slots other inside are begun =
      let is = are.taken (c - 1) other (omega arith) (omega arith) in
      is.1 ∙ ap (λ (s : Slot T). Some s.owner) (sym is.2)

  module _ (tiled : IsTiled (layout_of d)) (r c : ℕ) (slots : List (Slot T)) (inside : IsTablePosition (layout_of d) (position_of (r, c))) (are : AreSlotsSet d r c slots) where
    -- where the cell above reaches the row
    pub found-above : (other : Slot T) → (get_or slots c other).owner.row < r →
        r - (get_or slots c other).owner.row < (layout_of d).grid.span Rows (get_or slots c other).owner →
        owner_at d r c ≡ Some (get_or slots c other).owner
    found-above other below reaches =
        let begun : 0 < r = omega arith in
        owner-above (layout_of d) tiled r c (get_or slots c other).owner begun inside (kept-above r c slots other inside.1 are begun) reaches

    -- where the cell on the left reaches the column
    pub found-left : (other : Slot T) → 0 < c → c - (get_or slots (c - 1) other).owner.col < (layout_of d).grid.span Columns (get_or slots (c - 1) other).owner →
        owner_at d r c ≡ Some (get_or slots (c - 1) other).owner
    found-left other begun reaches =
        owner-left (layout_of d) tiled r c (get_or slots (c - 1) other).owner begun inside (kept-left r c slots other inside.1 are begun) reaches

    -- where neither does
    pub found-itself : (above left : Slot T) →
        (((get_or slots c above).owner.row < r) × (r - (get_or slots c above).owner.row < (layout_of d).grid.span Rows (get_or slots c above).owner) → ⊥) →
        (0 < c → ((get_or slots (c - 1) left).owner.row ≡ r) × ((get_or slots (c - 1) left).owner.col < c)
        × (c - (get_or slots (c - 1) left).owner.col < (layout_of d).grid.span Columns (get_or slots (c - 1) left).owner) → ⊥) →
        owner_at d r c ≡ Some (position_of (r, c))
    found-itself above left none_above none_left =
        (owner-itself (layout_of d) tiled r c inside
        (λ a begun is reaches.
        let same : a ≡ (get_or slots c above).owner = same_Some a (get_or slots c above).owner (sym is ∙ kept-above r c slots above inside.1 are begun) in
        let behind = (owner-behind (layout_of d) (position_of (r - 1, c)) a is).0 in
        subst (λ (p : Position). (p.row < r) × (r - p.row < (layout_of d).grid.span Rows p) → ⊥) (sym same) none_above (omega (arith, behind, begun), reaches))
        (λ l begun is level reaches.
        let same : l ≡ (get_or slots (c - 1) left).owner = same_Some l (get_or slots (c - 1) left).owner (sym is ∙ kept-left r c slots left inside.1 are begun) in
        let behind = (owner-behind (layout_of d) (position_of (r, c - 1)) l is).1 in
        subst (λ (p : Position). (p.row ≡ r) × (p.col < c) × (c - p.col < (layout_of d).grid.span Columns p) → ⊥) (sym same) (none_left begun)
        (level, omega (arith, behind, begun), reaches))).is

    -- ---- what is kept once a cell is taken

    -- the cell that covers a position and begins above its row is kept there already
    pub kept-stays : (o : Position) → owner_at d r c ≡ Some o → o.row < r → AreSlotsSet d r (c + 1) slots
    kept-stays o is above =
        let begun : 0 < r = omega arith in
        let same = (owner-over (layout_of d) tiled r c o begun inside is).1 above in
        set-stays r c slots are (λ other.
        let kept = are.above c other inside.1 (omega arith) begun in
        (kept.0, sym same ∙ kept.1, kept.2))

    -- one that begins in the row is kept with its block where it begins
    pub kept-new : (o : Position) (block : Option contents.Block) → owner_at d r c ≡ Some o → (o.row < r → ⊥) →
        block ≡ (if o.col == c then Some (block_at d o) else None) →
        AreSlotsSet d r (c + 1) (set slots c (record { owner = o; block = block; drawn = 0 }))
    kept-new o block is not_above is_block =
        let behind = owner-behind (layout_of d) (position_of (r, c)) o is in
        let level : o.row ≡ r = elim (cases_lt o.row r) [ inl less ↦ absurd (not_above less) | inr past ↦ omega (arith, past, behind.0) ] in
        let begins : begin_along (layout_of d) Rows o ≡ text_start d r = ap (text_start d) level in
        let after = text_start-after d r in
        let drawn : 0 ≡ row_start d r - begin_along (layout_of d) Rows o = omega (arith, begins, after) in
        set-taken r c slots (record { owner = o; block = block; drawn = 0 }) inside.1 are
        (o, is, λ i. record { owner = o; block = is_block i; drawn = drawn i })

    -- that of the position itself, where it begins there
    pub block-here : (o : Position) (block : Option contents.Block) → owner_at d r c ≡ Some o → (o.row < r → ⊥) → o.col ≡ c →
        (IsInsideTable (layout_of d) (position_of (r, c)) → block ≡ Some (block_at d (position_of (r, c)))) →
        block ≡ (if o.col == c then Some (block_at d o) else None)
    block-here o block is not_above upright found =
        let behind = owner-behind (layout_of d) (position_of (r, c)) o is in
        let level : o.row ≡ r = elim (cases_lt o.row r) [ inl less ↦ absurd (not_above less) | inr past ↦ omega (arith, past, behind.0) ] in
        let here : o ≡ position_of (r, c) = λ i. record { row = level i; col = upright i } in
        let has = owner-known (layout_of d) tiled (position_of (r, c)) o inside is in
        let within : IsInsideTable (layout_of d) o = record { visible = has.owns.visible; across = has.across; down = has.down } in
        found (subst (IsInsideTable (layout_of d)) here within) ∙ ap (λ p. Some (block_at d p)) (sym here)
        ∙ sym (ap (λ b. if b then Some (block_at d o) else None) (eq-eqb o.col c upright))

    -- none where it begins further left
    pub block-left : (o : Position) (block : Option contents.Block) → (o.col ≡ c → ⊥) → block ≡ None →
        block ≡ (if o.col == c then Some (block_at d o) else None)
    block-left o block other none = none ∙ sym (ap (λ b. if b then Some (block_at d o) else None) (ne_eqb o.col c other))
