-- The search for the deciding call finds the one that decides by its index, and a map holds what it finds.
use Rattle.std.proofs.Common.{◌≡◌, ◌⊎◌, ◌<◌, ◌≤◌, ◌+◌, ◌&&◌, ◌∷◌, [], ℕ, zero, suc, List, Bool, true, false, cond, Option, Some, None, length, take, get_or, reverse, refl, sym, ap, ◌∙◌, subst, arith, inl, inr, nat_eq}
use Rattle.std.specs.Prelude.{find, slice_get, is_some, unwrap_or}
use Rattle.std.proofs.lemmas.Bool.{and_parts}
use Rattle.std.proofs.lemmas.List.{reverse-append, take_more, take_all}
use Rattle.std.proofs.lemmas.Option.{same_Some, none-some, slice_get_cases, slice_get_within, get_or_from_slice_get}
use borrow.Author.Tests.{eqb-true, eq-eqb}
use Rattle.papergrid_values.specs.declared.position.Position.{Position}
use Rattle.papergrid_values.specs.declared.entity.Entity.{Entity}
use Rattle.papergrid_values.specs.declared.entity.Entity.TheVariants.{Global, Column, Row, Cell}
use Rattle.papergrid_maps.specs.declared.entity_map.MapCall.{MapCall}
use Rattle.papergrid_maps.specs.declared.entity_map.MapCall.TheVariants.{Insert, Remove}
use Rattle.papergrid_maps.specs.Keys.{entity_eq}
use Rattle.papergrid_maps.specs.EffectiveCall.{concerns, sets_all, ends_overrides, EntityStands, IsCellOverride, IsEffective, IsFound, IsGlobal, IsLast, OrElse, OverrideStands}
use Rattle.papergrid_maps.proofs.MapSearch.{HasMapSearch, cell_override_value, effective_value, global_value, standing_value}
use Rattle.papergrid_maps.specs.StoredMap.{HasMapHistory, Stored}

-- nothing has P
abbrev NoneHas : {T : Type 0} → (T → Type 0) → Type 0
NoneHas {T} P = (w : T) → ¬ (P w)

-- the value that these calls decide, newest first
abbrev decided_by : {T : Type 0} → T → List (MapCall T) → Position → T
decided_by given newest p =
    unwrap_or (cell_override_value p.row p.col newest)
    (unwrap_or (standing_value (Column p.col) newest)
    (unwrap_or (standing_value (Row p.row) newest) (global_value given newest)))

pub chosen : {A : Type 0} (b : Bool) (x y z : A) → cond b x y ≡ z → ((b ≡ true) × (x ≡ z)) ⊎ ((b ≡ false) × (y ≡ z))
chosen true x y z h = inl (refl, h)
chosen false x y z h = inr (refl, h)

earlier : (j n : ℕ) → j < suc n → (j < n) ⊎ (j ≡ n)
earlier j n h = grind arith

-- ---- the values found, by the calls found

module _ {T : Type 0} where
  abbrev entity_set : Option (MapCall T) → Option T
  entity_set (Some (Insert Global v)) = None
  entity_set (Some (Insert entity v)) = Some v
  entity_set found = None

  abbrev table_set : T → Option (MapCall T) → T
  table_set given (Some (Insert Global v)) = v
  table_set given found = given

  set_entity : (b : Bool) (call : MapCall T) (o : Option (MapCall T)) → cond b (entity_set (Some call)) (entity_set o) ≡ entity_set (cond b (Some call) o)
  set_entity true call o = refl
  set_entity false call o = refl

  entity_found : (e : Entity) (newest : List (MapCall T)) → standing_value e newest ≡ entity_set (find (concerns e) newest)
  entity_found e [] = refl
  entity_found e (Insert Global v ∷ older) = refl
  entity_found e (Remove Global ∷ older) = refl
  entity_found e (Insert (Column k) v ∷ older) = ap (cond (entity_eq (Column k) e) (Some v)) (entity_found e older) ∙ set_entity (entity_eq (Column k) e) (Insert (Column k) v) (find (concerns e) older)
  entity_found e (Insert (Row k) v ∷ older) = ap (cond (entity_eq (Row k) e) (Some v)) (entity_found e older) ∙ set_entity (entity_eq (Row k) e) (Insert (Row k) v) (find (concerns e) older)
  entity_found e (Insert (Cell i j) v ∷ older) = ap (cond (entity_eq (Cell i j) e) (Some v)) (entity_found e older) ∙ set_entity (entity_eq (Cell i j) e) (Insert (Cell i j) v) (find (concerns e) older)
  entity_found e (Remove (Column k) ∷ older) = entity_found e older
  entity_found e (Remove (Row k) ∷ older) = entity_found e older
  entity_found e (Remove (Cell i j) ∷ older) = entity_found e older

  set_itself : (e : Entity) (v : T) → entity_eq Global e ≡ false → entity_set (Some (Insert e v)) ≡ Some v
  set_itself Global v not_all = cc
  set_itself (Column c) v not_all = refl
  set_itself (Row r) v not_all = refl
  set_itself (Cell r c) v not_all = refl

  concerns_itself : (e : Entity) (v : T) → concerns e (Insert e v) ≡ true
  concerns_itself Global v = refl
  concerns_itself (Column c) v = eq-eqb c c refl
  concerns_itself (Row r) v = eq-eqb r r refl
  concerns_itself (Cell r c) v = rw (eq-eqb r r refl, eq-eqb c c refl) refl

  table_found : (given : T) (newest : List (MapCall T)) → global_value given newest ≡ table_set given (find sets_all newest)
  table_found given [] = refl
  table_found given (Insert Global v ∷ older) = refl
  table_found given (Remove Global ∷ older) = table_found given older
  table_found given (Insert (Row k) v ∷ older) = table_found given older
  table_found given (Insert (Column k) v ∷ older) = table_found given older
  table_found given (Insert (Cell i j) v ∷ older) = table_found given older
  table_found given (Remove (Column k) ∷ older) = table_found given older
  table_found given (Remove (Row k) ∷ older) = table_found given older
  table_found given (Remove (Cell i j) ∷ older) = table_found given older

  -- the value to which a call overrides a cell, after these older calls
  abbrev cell_override_of : ℕ → ℕ → List (MapCall T) → MapCall T → Option T
  cell_override_of r c older (Insert (Cell i j) v) = cond (nat_eq i r && nat_eq j c) (Some v) None
  cell_override_of r c older (Insert (Row i) v) = cond (nat_eq i r && is_some (standing_value (Column c) older)) (Some v) None
  cell_override_of r c older (Insert (Column j) v) = cond (nat_eq j c && is_some (standing_value (Row r) older)) (Some v) None
  cell_override_of r c older call = None

  abbrev or_older : Option T → Option T → Option T
  or_older (Some v) o = Some v
  or_older None o = o

  pick : (b : Bool) (v : T) (o : Option T) → cond b (Some v) o ≡ or_older (cond b (Some v) None) o
  pick true v o = refl
  pick false v o = refl

  cell_override_step : (r c : ℕ) (call : MapCall T) (older : List (MapCall T))
      → cell_override_value r c (call ∷ older) ≡ cond (ends_overrides r c call) None (or_older (cell_override_of r c older call) (cell_override_value r c older))
  cell_override_step r c (Insert Global v) older = refl
  cell_override_step r c (Remove Global) older = refl
  cell_override_step r c (Insert (Cell i j) v) older = pick (nat_eq i r && nat_eq j c) v (cell_override_value r c older)
  cell_override_step r c (Insert (Row i) v) older = pick (nat_eq i r && is_some (standing_value (Column c) older)) v (cell_override_value r c older)
  cell_override_step r c (Insert (Column j) v) older = pick (nat_eq j c && is_some (standing_value (Row r) older)) v (cell_override_value r c older)
  cell_override_step r c (Remove (Cell i j)) older = refl
  cell_override_step r c (Remove (Row i)) older = refl
  cell_override_step r c (Remove (Column j)) older = refl

  -- what overrides a cell ends no overrides
  cell_override_ends_none : (r c : ℕ) (older : List (MapCall T)) (call : MapCall T) (v : T) → cell_override_of r c older call ≡ Some v → ends_overrides r c call ≡ false
  cell_override_ends_none r c older (Insert Global w) v h = cc
  cell_override_ends_none r c older (Remove Global) v h = cc
  cell_override_ends_none r c older (Insert (Cell i j) w) v h = refl
  cell_override_ends_none r c older (Insert (Row i) w) v h = refl
  cell_override_ends_none r c older (Insert (Column j) w) v h = refl
  cell_override_ends_none r c older (Remove (Cell i j)) v h = cc
  cell_override_ends_none r c older (Remove (Row i)) v h = cc
  cell_override_ends_none r c older (Remove (Column j)) v h = cc

same_entity : (d e : Entity) → entity_eq d e ≡ true → d ≡ e
same_entity Global Global h = refl
same_entity (Column i) (Column j) h = ap (λ k. Column k) (eqb-true i j h)
same_entity (Row i) (Row j) h = ap (λ k. Row k) (eqb-true i j h)
same_entity (Cell i j) (Cell k l) h = let both = and_parts (nat_eq i k) (nat_eq j l) h in λ t. Cell (eqb-true i k both.0 t) (eqb-true j l both.1 t)
same_entity d e h = cc

-- ---- indices in the list

module _ {T : Type 0} (calls : List (MapCall T)) where
  -- after the first n calls the whole table has a value: the last of them that sets it sets it so
  abbrev TableStands : ℕ → T → Type 0
  TableStands n v = (i : ℕ) × IsLast calls sets_all n i (Insert Global v)

  -- the value that the first n calls decide for the cell
  abbrev EffectiveOf : T → ℕ → ℕ → ℕ → T → Type 0
  EffectiveOf given r c n =
      OrElse (OverrideStands calls r c n) (OrElse (EntityStands calls (Column c) n) (OrElse (EntityStands calls (Row r) n)
      (OrElse (TableStands n) (λ v. v ≡ given))))

  -- the first n calls, newest first
  abbrev newest : ℕ → List (MapCall T)
  newest n = reverse (take n calls)

  call_at : (n : ℕ) → n < length calls → (call : MapCall T) × (slice_get calls n ≡ Some call)
  call_at n within = elim (slice_get_cases calls n).1 [ inl there ↦ (there.0, there.2) | inr past ↦ absurd (omega (arith, past.0)) ]

  newest-more : (n : ℕ) (call : MapCall T) → slice_get calls n ≡ Some call → newest (suc n) ≡ call ∷ newest n
  newest-more n call at =
      let within : n < length calls = slice_get_within calls n call at in
      let next : suc n ≡ n + 1 = omega arith in
      let same : get_or calls n call ≡ call = get_or_from_slice_get calls n call call at in
      ap newest next ∙ ap reverse (take_more calls n call within) ∙ rw same (reverse-append (take n calls) (call ∷ []))

  same_call : (i j : ℕ) (x y : MapCall T) → slice_get calls i ≡ Some x → slice_get calls j ≡ Some y → i ≡ j → x ≡ y
  same_call i j x y at_i at_j same = same_Some x y (sym at_i ∙ ap (slice_get calls) same ∙ at_j)

  -- the first found, newest first, is the last by its index
  find_last : (test : MapCall T → Bool) (n : ℕ) (x : MapCall T) → n ≤ length calls → find test (newest n) ≡ Some x → (i : ℕ) × IsLast calls test n i x × (test x ≡ true)
  find_last test zero x within h = cc
  find_last test (suc n) x within h =
      let here = call_at n (omega arith) in
      let found : cond (test here.0) (Some here.0) (find test (newest n)) ≡ Some x = sym (ap (find test) (newest-more n here.0 here.1)) ∙ h in
      elim (chosen (test here.0) (Some here.0) (find test (newest n)) (Some x) found) [
        | inl this ↦ grind (arith, same_Some)
        | inr later ↦
            let rest = find_last test n x (omega arith) later.1 in (
              rest.0,
              record {
                before = omega (arith, rest.1.before);
                at = rest.1.at;
                last = λ j other after before at. elim (earlier j n before) [
                  | inl less ↦ rest.1.last j other after less at
                  | inr same ↦ ap test (same_call j n other here.0 at here.1 same) ∙ later.0
                ];
              },
              rest.2,
            )
      ]

  last_find : (test : MapCall T → Bool) (n i : ℕ) (x : MapCall T) → n ≤ length calls → IsLast calls test n i x → test x ≡ true → find test (newest n) ≡ Some x
  last_find test zero i x within h passes = absurd (omega (arith, h.before))
  last_find test (suc n) i x within h passes =
      let here = call_at n (omega arith) in
      ap (find test) (newest-more n here.0 here.1) ∙ elim (earlier i n h.before) [
        | inl less ↦
            let rest = last_find test n i x (omega arith) (record { before = less; at = h.at; last = λ j other after before at. h.last j other after (omega arith) at }) passes in
            rw (h.last n here.0 less (omega arith) here.1) rest
        | inr same ↦ grind (arith, same_call)
      ]

  -- ---- values that stand

  entity_stands : (e : Entity) (n : ℕ) (v : T) → n ≤ length calls → standing_value e (newest n) ≡ Some v → EntityStands calls e n v
  entity_stands e n v within h = of_found (find (concerns e) (newest n)) refl (sym (entity_found e (newest n)) ∙ h)
    where
      placed : (d : Entity) (w : T) (i : ℕ) → IsLast calls (concerns e) n i (Insert d w) → entity_eq d e ≡ true → w ≡ v → EntityStands calls e n v
      placed d w i last same value = (i, subst (λ call. IsLast calls (concerns e) n i call) (λ t. Insert (same_entity d e same t) (value t)) last)

      of_found : (o : Option (MapCall T)) → find (concerns e) (newest n) ≡ o → entity_set o ≡ Some v → EntityStands calls e n v
      of_found None is set = cc
      of_found (Some (Insert Global w)) is set = cc
      of_found (Some (Insert (Column k) w)) is set = let last = find_last (concerns e) n _ within is in placed (Column k) w last.0 last.1 last.2 (same_Some w v set)
      of_found (Some (Insert (Row k) w)) is set = let last = find_last (concerns e) n _ within is in placed (Row k) w last.0 last.1 last.2 (same_Some w v set)
      of_found (Some (Insert (Cell i j) w)) is set = let last = find_last (concerns e) n _ within is in placed (Cell i j) w last.0 last.1 last.2 (same_Some w v set)
      of_found (Some (Remove entity)) is set = cc

  entity_is : (e : Entity) → entity_eq Global e ≡ false → (n : ℕ) (v : T) → n ≤ length calls → EntityStands calls e n v → standing_value e (newest n) ≡ Some v
  entity_is e not_all n v within h = grind (arith, entity_found, last_find, concerns_itself, set_itself)

  table_is : (given : T) (n : ℕ) (v : T) → n ≤ length calls → TableStands n v → global_value given (newest n) ≡ v
  table_is given n v within h = table_found given (newest n) ∙ ap (table_set given) (last_find sets_all n h.0 (Insert Global v) within h.1 refl)

  -- it stands, or none does and the value given at first is left
  table_stands : (given : T) (n : ℕ) → n ≤ length calls → TableStands n (global_value given (newest n)) ⊎ (NoneHas (TableStands n) × (global_value given (newest n) ≡ given))
  table_stands given n within = of_found (find sets_all (newest n)) refl
    where
      of_found : (o : Option (MapCall T)) → find sets_all (newest n) ≡ o → TableStands n (global_value given (newest n)) ⊎ (NoneHas (TableStands n) × (global_value given (newest n) ≡ given))
      of_found None e = inr (λ w h. none-some _ (sym e ∙ last_find sets_all n h.0 (Insert Global w) within h.1 refl), table_found given (newest n) ∙ ap (table_set given) e)
      of_found (Some (Insert Global v)) e =
          let last = find_last sets_all n (Insert Global v) within e in
          let value : v ≡ global_value given (newest n) = sym (table_found given (newest n) ∙ ap (table_set given) e) in
          inl (last.0, subst (λ w. IsLast calls sets_all n last.0 (Insert Global w)) value last.1)
      of_found (Some (Insert (Column k) v)) e = let last = find_last sets_all n (Insert (Column k) v) within e in cc
      of_found (Some (Insert (Row k) v)) e = let last = find_last sets_all n (Insert (Row k) v) within e in cc
      of_found (Some (Insert (Cell k j) v)) e = let last = find_last sets_all n (Insert (Cell k j) v) within e in cc
      of_found (Some (Remove Global)) e = let last = find_last sets_all n (Remove Global) within e in cc
      of_found (Some (Remove (Column k))) e = let last = find_last sets_all n (Remove (Column k)) within e in cc
      of_found (Some (Remove (Row k))) e = let last = find_last sets_all n (Remove (Row k)) within e in cc
      of_found (Some (Remove (Cell k j))) e = let last = find_last sets_all n (Remove (Cell k j)) within e in cc

  global_is : (given : T) (n : ℕ) (v : T) → n ≤ length calls → OrElse (TableStands n) (λ w. w ≡ given) v → global_value given (newest n) ≡ v
  global_is given n v within (inl table) = table_is given n v within table
  global_is given n v within (inr no_table) = elim (table_stands given n within) [ inl table ↦ absurd (no_table.0 _ table) | inr left ↦ left.1 ∙ sym no_table.1 ]

  -- ---- overrides

  some_value : {A : Type 0} (o : Option A) → is_some o ≡ true → (v : A) × (o ≡ Some v)
  some_value None h = cc
  some_value (Some v) h = (v, refl)

  -- an override by a test of two parts
  both_hold : (a b : Bool) (w v : T) → cond (a && b) (Some w) None ≡ Some v → (a ≡ true) × (b ≡ true) × (w ≡ v)
  both_hold true true w v h = (refl, refl, same_Some w v h)
  both_hold true false w v h = cc
  both_hold false b w v h = cc

  cell_override_is : (r c n : ℕ) (call : MapCall T) (v : T) → slice_get calls n ≡ Some call → n ≤ length calls → cell_override_of r c (newest n) call ≡ Some v → IsCellOverride calls r c n v
  cell_override_is r c n (Insert (Cell i j) w) v at within h = grind (arith, both_hold)
  cell_override_is r c n (Insert (Row i) w) v at within h =
      let p = both_hold (nat_eq i r) (is_some (standing_value (Column c) (newest n))) w v h in
      let column = some_value (standing_value (Column c) (newest n)) p.1 in
      inr (inl (at ∙ rw (eqb-true i r p.0, p.2) refl, (column.0, entity_stands (Column c) n column.0 within column.1)))
  cell_override_is r c n (Insert (Column j) w) v at within h =
      let p = both_hold (nat_eq j c) (is_some (standing_value (Row r) (newest n))) w v h in
      let row = some_value (standing_value (Row r) (newest n)) p.1 in
      inr (inr (at ∙ rw (eqb-true j c p.0, p.2) refl, (row.0, entity_stands (Row r) n row.0 within row.1)))
  cell_override_is r c n (Insert Global w) v at within h = cc
  cell_override_is r c n (Remove entity) v at within h = cc

  is_cell_override : (r c n : ℕ) (call : MapCall T) (v : T) → slice_get calls n ≡ Some call → n ≤ length calls → IsCellOverride calls r c n v → cell_override_of r c (newest n) call ≡ Some v
  is_cell_override r c n call v at within h = elim h [
    | inl cell ↦ grind (arith, same_call)
    | inr other ↦ elim other [
      | inl row ↦
          let same : Insert (Row r) v ≡ call = same_call n n _ _ row.0 at refl in
          subst (λ d. cell_override_of r c (newest n) d ≡ Some v) same (rw (eq-eqb r r refl, entity_is (Column c) refl n row.1.0 within row.1.1) refl)
      | inr column ↦
          let same : Insert (Column c) v ≡ call = same_call n n _ _ column.0 at refl in
          subst (λ d. cell_override_of r c (newest n) d ≡ Some v) same (rw (eq-eqb c c refl, entity_is (Row r) refl n column.1.0 within column.1.1) refl)
    ]
  ]

  cell_override_after : (r c n : ℕ) (call : MapCall T) (v : T) → slice_get calls n ≡ Some call → suc n ≤ length calls → ends_overrides r c call ≡ false
      → (cell_override_value r c (newest n) ≡ Some v → OverrideStands calls r c n v)
      → (o : Option T) → cell_override_of r c (newest n) call ≡ o → or_older o (cell_override_value r c (newest n)) ≡ Some v → OverrideStands calls r c (suc n) v
  cell_override_after r c n call v at within ends_none rest (Some w) e h = grind (arith, cell_override_is)
  cell_override_after r c n call v at within ends_none rest None e h =
      let older = rest h in
      record {
        index = older.index;
        before = omega (arith, older.before);
        overrides_cell = older.overrides_cell;
        last = λ j u after before cell_override. elim (earlier j n before) [
          | inl less ↦ older.last j u after less cell_override
          | inr same ↦ none-some u (sym e ∙ is_cell_override r c n call u at (omega arith) (subst (λ (m : ℕ). IsCellOverride calls r c m u) same cell_override))
        ];
        counts = λ j other after before at_j. elim (earlier j n before) [
          | inl less ↦ older.counts j other after less at_j
          | inr same ↦ ap (ends_overrides r c) (same_call j n other call at_j at same) ∙ ends_none
        ];
      }

  cell_override_stands : (r c n : ℕ) (v : T) → n ≤ length calls → cell_override_value r c (newest n) ≡ Some v → OverrideStands calls r c n v
  cell_override_stands r c zero v within h = cc
  cell_override_stands r c (suc n) v within h =
      let here = call_at n (omega arith) in
      let stepped = sym (ap (cell_override_value r c) (newest-more n here.0 here.1) ∙ cell_override_step r c here.0 (newest n)) ∙ h in
      elim (chosen (ends_overrides r c here.0) None (or_older (cell_override_of r c (newest n) here.0) (cell_override_value r c (newest n))) (Some v) stepped) [
        | inl ends ↦ absurd (none-some v ends.1)
        | inr goes_on ↦ cell_override_after r c n here.0 v here.1 within goes_on.0 (cell_override_stands r c n v (omega arith)) (cell_override_of r c (newest n) here.0) refl goes_on.1
      ]

  none_of : (o : Option T) → ((w : T) → o ≡ Some w → ⊥) → o ≡ None
  none_of None never = refl
  none_of (Some w) never = absurd (never w refl)

  cell_override_found : (r c n : ℕ) (v : T) → n ≤ length calls → OverrideStands calls r c n v → cell_override_value r c (newest n) ≡ Some v
  cell_override_found r c zero v within h = absurd (omega (arith, h.before))
  cell_override_found r c (suc n) v within h =
      let here = call_at n (omega arith) in
      ap (cell_override_value r c) (newest-more n here.0 here.1) ∙ cell_override_step r c here.0 (newest n) ∙ elim (earlier h.index n h.before) [
        | inl less ↦
            let none : cell_override_of r c (newest n) here.0 ≡ None =
            none_of (cell_override_of r c (newest n) here.0) (λ w e. h.last n w less (omega arith) (cell_override_is r c n here.0 w here.1 (omega arith) e)) in
            let rest = cell_override_found r c n v (omega arith) (record {
              index = h.index;
              before = less;
              overrides_cell = h.overrides_cell;
              last = λ j w after before cell_override. h.last j w after (omega arith) cell_override;
              counts = λ j other after before at. h.counts j other after (omega arith) at;
            }) in
            rw ((h.counts n here.0 less (omega arith) here.1), none) rest
        | inr same ↦
            let overrides_cell = is_cell_override r c n here.0 v here.1 (omega arith) (subst (λ (m : ℕ). IsCellOverride calls r c m v) same h.overrides_cell) in
            rw ((cell_override_ends_none r c (newest n) here.0 v overrides_cell), overrides_cell) refl
      ]

  -- ---- what is decided

  abbrev found_by : T → ℕ → ℕ → ℕ → T
  found_by given r c n = decided_by given (newest n) (record { row = r; col = c })

  is_effective : (given : T) (r c n : ℕ) → n ≤ length calls → EffectiveOf given r c n (found_by given r c n)
  is_effective given r c n within = by_cell_override (cell_override_value r c (newest n)) refl
    where
      by_table : NoneHas (OverrideStands calls r c n) → NoneHas (EntityStands calls (Column c) n) → NoneHas (EntityStands calls (Row r) n) → EffectiveOf given r c n (global_value given (newest n))
      by_table no_cell_override no_column no_row = grind (arith, table_stands)

      by_row : (o : Option T) → standing_value (Row r) (newest n) ≡ o → NoneHas (OverrideStands calls r c n) → NoneHas (EntityStands calls (Column c) n) → EffectiveOf given r c n (unwrap_or o (global_value given (newest n)))
      by_row (Some v) e no_cell_override no_column = inr (no_cell_override, inr (no_column, inl (entity_stands (Row r) n v within e)))
      by_row None e no_cell_override no_column = by_table no_cell_override no_column (λ w h. none-some w (sym e ∙ entity_is (Row r) refl n w within h))

      by_column : (o : Option T) → standing_value (Column c) (newest n) ≡ o → NoneHas (OverrideStands calls r c n)
          → EffectiveOf given r c n (unwrap_or o (unwrap_or (standing_value (Row r) (newest n)) (global_value given (newest n))))
      by_column (Some v) e no_cell_override = inr (no_cell_override, inl (entity_stands (Column c) n v within e))
      by_column None e no_cell_override = by_row (standing_value (Row r) (newest n)) refl no_cell_override (λ w h. none-some w (sym e ∙ entity_is (Column c) refl n w within h))

      by_cell_override : (o : Option T) → cell_override_value r c (newest n) ≡ o
          → EffectiveOf given r c n (unwrap_or o (unwrap_or (standing_value (Column c) (newest n)) (unwrap_or (standing_value (Row r) (newest n)) (global_value given (newest n)))))
      by_cell_override (Some v) e = inl (cell_override_stands r c n v within e)
      by_cell_override None e = by_column (standing_value (Column c) (newest n)) refl (λ w h. none-some w (sym e ∙ cell_override_found r c n w within h))

  no_override_value : (r c n : ℕ) → n ≤ length calls → NoneHas (OverrideStands calls r c n) → cell_override_value r c (newest n) ≡ None
  no_override_value r c n within none = none_of (cell_override_value r c (newest n)) (λ w e. none w (cell_override_stands r c n w within e))

  no_value : (e : Entity) (n : ℕ) → n ≤ length calls → NoneHas (EntityStands calls e n) → standing_value e (newest n) ≡ None
  no_value e n within none = none_of (standing_value e (newest n)) (λ w is. none w (entity_stands e n w within is))

  effective_is : (given : T) (r c n : ℕ) (v : T) → n ≤ length calls → EffectiveOf given r c n v → found_by given r c n ≡ v
  effective_is given r c n v within (inl cell_override) = let e = cell_override_found r c n v within cell_override in rw e refl
  effective_is given r c n v within (inr none) = let p = no_override_value r c n within none.0 in rw p (by_column none.1)
    where
      by_row : OrElse (EntityStands calls (Row r) n) (OrElse (TableStands n) (λ w. w ≡ given)) v
          → unwrap_or (standing_value (Row r) (newest n)) (global_value given (newest n)) ≡ v
      by_row (inl row) = let e = entity_is (Row r) refl n v within row in rw e refl
      by_row (inr no_row) = let e = no_value (Row r) n within no_row.0 in rw e (global_is given n v within no_row.1)

      by_column : OrElse (EntityStands calls (Column c) n) (OrElse (EntityStands calls (Row r) n) (OrElse (TableStands n) (λ w. w ≡ given))) v
          → unwrap_or (standing_value (Column c) (newest n)) (unwrap_or (standing_value (Row r) (newest n)) (global_value given (newest n))) ≡ v
      by_column (inl column) = let e = entity_is (Column c) refl n v within column in rw e refl
      by_column (inr no_column) = let e = no_value (Column c) n within no_column.0 in rw e (by_row no_column.1)

  -- ---- all the calls

  all_newest : newest (length calls) ≡ reverse calls
  all_newest = ap reverse (take_all (length calls) calls (omega arith))

  pub effective_value-IsEffective : (given : T) (p : Position) → IsEffective calls given p (effective_value given calls p)
  effective_value-IsEffective given p = grind (arith, all_newest, is_effective)

  pub IsEffective-only : (given : T) (p : Position) (v : T) → IsEffective calls given p v → v ≡ effective_value given calls p
  IsEffective-only given p v h = sym (effective_is given p.row p.col (length calls) v (omega arith) h) ∙ ap (λ ns. decided_by given ns p) all_newest

  -- ---- what a map holds

  is_found : (P : T → Type 0) (o : Option T) → ((v : T) → o ≡ Some v → P v) → ((v : T) → P v → o ≡ Some v) → IsFound P o
  is_found P None has found = λ v is. none-some v (found v is)
  is_found P (Some v) has found = has v refl

  found_only : (P : T → Type 0) (s o : Option T) → ((v : T) → s ≡ Some v → P v) → ((v : T) → P v → s ≡ Some v) → IsFound P o → o ≡ s
  found_only P s None has found none = sym (none_of s (λ w e. none w (has w e)))
  found_only P s (Some v) has found is = sym (found v is)

  entity_search : (e : Entity) (v : T) → standing_value e (reverse calls) ≡ Some v → EntityStands calls e (length calls) v
  entity_search e v h = entity_stands e (length calls) v (omega arith) (ap (standing_value e) all_newest ∙ h)

  search_entity : (e : Entity) → entity_eq Global e ≡ false → (v : T) → EntityStands calls e (length calls) v → standing_value e (reverse calls) ≡ Some v
  search_entity e not_all v h = sym (ap (standing_value e) all_newest) ∙ entity_is e not_all (length calls) v (omega arith) h

  cell_search : (p : Position) (v : T) → cell_override_value p.row p.col (reverse calls) ≡ Some v → OverrideStands calls p.row p.col (length calls) v
  cell_search p v h = cell_override_stands p.row p.col (length calls) v (omega arith) (ap (cell_override_value p.row p.col) all_newest ∙ h)

  search_cell : (p : Position) (v : T) → OverrideStands calls p.row p.col (length calls) v → cell_override_value p.row p.col (reverse calls) ≡ Some v
  search_cell p v h = sym (ap (cell_override_value p.row p.col) all_newest) ∙ cell_override_found p.row p.col (length calls) v (omega arith) h

  pub history_of_search : (given : T) (stored : Stored T) → HasMapSearch given calls stored → HasMapHistory given calls stored
  history_of_search given stored holds = record {
    global = subst (IsGlobal calls given) (ap (global_value given) all_newest ∙ sym holds.global) (table_stands given (length calls) (omega arith));
    columns = λ c. subst (IsFound (EntityStands calls (Column c) (length calls))) (sym (holds.columns c)) (is_found _ _ (entity_search (Column c)) (search_entity (Column c) refl));
    rows = λ r. subst (IsFound (EntityStands calls (Row r) (length calls))) (sym (holds.rows r)) (is_found _ _ (entity_search (Row r)) (search_entity (Row r) refl));
    cells = λ p. subst (IsFound (OverrideStands calls p.row p.col (length calls))) (sym (holds.cells p)) (is_found _ _ (cell_search p) (search_cell p));
  }

  pub search_of_history : (given : T) (stored : Stored T) → HasMapHistory given calls stored → HasMapSearch given calls stored
  search_of_history given stored told = record {
    global = sym (global_is given (length calls) stored.global (omega arith) told.global) ∙ ap (global_value given) all_newest;
    columns = λ c. found_only _ _ _ (entity_search (Column c)) (search_entity (Column c) refl) (told.columns c);
    rows = λ r. found_only _ _ _ (entity_search (Row r)) (search_entity (Row r) refl) (told.rows r);
    cells = λ p. found_only _ _ _ (cell_search p) (search_cell p) (told.cells p);
  }
