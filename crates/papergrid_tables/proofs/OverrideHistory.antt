-- Overrides, by the entries of their maps.
use Rattle.std.proofs.Common.{◌≡◌, ℕ, Bool, true, false, cond, ◌&&◌, List, [], ◌∷◌, length, eqb, ltb, Option, Some, None, refl, sym, ap, subst, ◌∙◌, arith}
use Rattle.std.specs.Prelude.{◌↔◌, IsTrue, IsSome, is_some, option_and_then, Result, Ok, Err, OnOk, OnErr}
use Rattle.std.specs.List.{AllZip}
use Rattle.std.specs.Option.{MatchOption, IsSomeAnd}
use Rattle.std.specs.Map.{lookup}
use Rattle.std.specs.Ordering.{nat_cmp}
use Rattle.std.specs.FinMap.{FinMap, get, from_entries}
use Rattle.std.specs.Cmp.{nat_eq_equiv}
use Rattle.std.proofs.lemmas.Bool.{false≢true}
use Rattle.std.proofs.lemmas.List.{reverse-append}
use Rattle.std.proofs.lemmas.Map.Entries.{lookup_clone}
use Rattle.papergrid_values.specs.declared.offset.Offset.{Offset}
use Rattle.papergrid_values.specs.declared.offset.Offset.TheVariants.{Start, End}
use Rattle.papergrid_values.specs.declared.position.Position.{Position}
use Rattle.papergrid_values.specs.MapKeys.{position_cmp, position_eq}
use Rattle.papergrid_values.specs.History.{AppendsHistory}
use Rattle.papergrid_tables.specs.Overrides.{StoredOffsets, OffsetCall, SetAt, RemoveAt, RemoveAll, IsOverridden, HasOverrideHistory, override_after_call, at_offset, is_same_offset, override_at}
use Rattle.papergrid_tables.specs.ForProofs.OverrideScan.{AfterSet, AreSet}
use Rattle.papergrid_values.proofs.KeyLemmas.{get_at_number, get_at_position, exact_position_eq, position_equiv}
use Rattle.papergrid_values.proofs.EntryLemmas.{none_of_nothing}

same_offset : (o : Offset) → is_same_offset o o ≡ true
same_offset (Start n) = nat_eq_equiv.refl n
same_offset (End n) = nat_eq_equiv.refl n

a_value : {X : Type 0} (o : Option X) → is_some o ≡ true → (x : X) × (o ≡ Some x)
a_value None h = absurd (false≢true h)
a_value (Some x) h = (x, refl)

module _ {T : Type 0} where
  abbrev pub offsets_of : List (ℕ × T) → List (ℕ × T) → StoredOffsets T
  offsets_of ss es = record { from_start = from_entries ss; from_end = from_entries es }

  pub no_offsets : (o : Offset) → at_offset (offsets_of [] []) o ≡ None
  no_offsets (Start n) = get_at_number [] n
  no_offsets (End n) = get_at_number [] n

  number_set : (n m : ℕ) (v : T) (es es' : List (ℕ × T)) → ((q : ℕ) → lookup (eqb q) es' ≡ cond (eqb n q) (Some v) (lookup (eqb q) es))
      → get (from_entries {R = nat_cmp} es') m ≡ cond (eqb n m) (Some v) (get (from_entries {R = nat_cmp} es) m)
  number_set n m v es es' updates = get_at_number es' m ∙ updates m ∙ ap (cond (eqb n m) (Some v)) (sym (get_at_number es m))

  pub set_start : (n : ℕ) (v : T) (ss ss' es : List (ℕ × T)) {offset : Offset} → offset ≡ Start n → ((q : ℕ) → lookup (eqb q) ss' ≡ cond (eqb n q) (Some v) (lookup (eqb q) ss))
      → (o : Offset) → at_offset (offsets_of ss' es) o ≡ cond (is_same_offset offset o) (Some v) (at_offset (offsets_of ss es) o)
  set_start n v ss ss' es is updates (Start m) = number_set n m v ss ss' updates ∙ ap (λ k. cond (is_same_offset k (Start m)) (Some v) (get (from_entries {R = nat_cmp} ss) m)) (sym is)
  set_start n v ss ss' es is updates (End m) = ap (λ k. cond (is_same_offset k (End m)) (Some v) (get (from_entries {R = nat_cmp} es) m)) (sym is)

  pub set_end : (n : ℕ) (v : T) (ss es es' : List (ℕ × T)) {offset : Offset} → offset ≡ End n → ((q : ℕ) → lookup (eqb q) es' ≡ cond (eqb n q) (Some v) (lookup (eqb q) es))
      → (o : Offset) → at_offset (offsets_of ss es') o ≡ cond (is_same_offset offset o) (Some v) (at_offset (offsets_of ss es) o)
  set_end n v ss es es' is updates (Start m) = ap (λ k. cond (is_same_offset k (Start m)) (Some v) (get (from_entries {R = nat_cmp} ss) m)) (sym is)
  set_end n v ss es es' is updates (End m) = number_set n m v es es' updates ∙ ap (λ k. cond (is_same_offset k (End m)) (Some v) (get (from_entries {R = nat_cmp} es) m)) (sym is)

  -- a clone of entries has values at the same keys
  same_key : (C : T → T → Type 0) (old copy : Option T) → MatchOption old (copy ≡ None) (λ v. IsSomeAnd copy (C v)) → is_some copy ≡ is_some old
  same_key C None copy h = ap is_some h
  same_key C (Some x) None h = absurd h
  same_key C (Some x) (Some y) h = refl

  keys_copied : (C : T → T → Type 0) (es fs : List (ℕ × T)) → AllZip (λ p q. (q.0 ≡ p.0) × C p.1 q.1) es fs → (n : ℕ) → is_some (get (from_entries {R = nat_cmp} fs) n) ≡ is_some (get (from_entries {R = nat_cmp} es) n)
  keys_copied C es fs zipped n =
      ap is_some (get_at_number fs n)
      ∙ same_key C _ _ (lookup_clone (λ x y. y ≡ x) C (eqb n) (λ x y h. ap (eqb n) h) es fs zipped)
      ∙ ap is_some (sym (get_at_number es n))

  pub offsets_copied : (C : T → T → Type 0) (ss es ss' es' : List (ℕ × T)) → AllZip (λ p q. (q.0 ≡ p.0) × C p.1 q.1) ss ss' → AllZip (λ p q. (q.0 ≡ p.0) × C p.1 q.1) es es'
      → (o : Offset) → is_some (at_offset (offsets_of ss' es') o) ≡ is_some (at_offset (offsets_of ss es) o)
  offsets_copied C ss es ss' es' first second (Start n) = keys_copied C ss ss' first n
  offsets_copied C ss es ss' es' first second (End n) = keys_copied C es es' second n

  -- ---- the table

  pub new_history : HasOverrideHistory [] (from_entries {K = Position} {X = StoredOffsets T} [])
  new_history p o = ap (λ h. option_and_then (λ offsets. at_offset offsets o) h) (get_at_position [] p)

  history_step : (old new : FinMap position_cmp (StoredOffsets T)) (call : OffsetCall T)
      → ((p : Position) (o : Offset) → override_at new p o ≡ override_after_call call (override_at old) p o) → AppendsHistory HasOverrideHistory old new (call ∷ [])
  history_step old new call step calls told p o = grind (arith, reverse-append)

  pub history_set : (es es' : List (Position × StoredOffsets T)) (position : Position) (offset : Offset) (v : T) → AfterSet position offset v (λ p. lookup (position_eq p) es) (λ p. lookup (position_eq p) es')
      → AppendsHistory HasOverrideHistory (from_entries es) (from_entries es') (SetAt position offset v ∷ [])
  history_set es es' position offset v set = history_step _ _ (SetAt position offset v) (λ p o.
      let same = is_same_offset offset o in
      let step : option_and_then (λ h. at_offset h o) (cond (position_eq position p) (Some set.offsets) (lookup (position_eq p) es))
      ≡ cond (position_eq position p && same) (Some v) (option_and_then (λ h. at_offset h o) (lookup (position_eq p) es)) =
      elim (position_eq position p) as (λ b. position_eq position p ≡ b → option_and_then (λ h. at_offset h o) (cond b (Some set.offsets) (lookup (position_eq p) es))
      ≡ cond (b && same) (Some v) (option_and_then (λ h. at_offset h o) (lookup (position_eq p) es))) [
        | true ↦ λ e. set.stored o ∙ ap (λ q. cond same (Some v) (option_and_then (λ h. at_offset h o) (lookup (position_eq q) es))) (exact_position_eq position p e)
        | false ↦ λ e. refl
      ] refl in
      ap (λ h. option_and_then (λ offsets. at_offset offsets o) h) (get_at_position es' p ∙ set.others p)
      ∙ step
      ∙ ap (λ h. cond (position_eq position p && same) (Some v) (option_and_then (λ offsets. at_offset offsets o) h)) (sym (get_at_position es p)))

  pub history_remove : (es es' : List (Position × StoredOffsets T)) (position : Position) → ((p : Position) → lookup (position_eq p) es' ≡ cond (position_eq position p) None (lookup (position_eq p) es))
      → AppendsHistory HasOverrideHistory (from_entries es) (from_entries es') (RemoveAt position ∷ [])
  history_remove es es' position removed = history_step _ _ (RemoveAt position) (λ p o.
      ap (λ h. option_and_then (λ offsets. at_offset offsets o) h) (get_at_position es' p ∙ removed p)
      ∙ elim (position_eq position p) as (λ b. option_and_then (λ h. at_offset h o) (cond b None (lookup (position_eq p) es)) ≡ cond b None (option_and_then (λ h. at_offset h o) (lookup (position_eq p) es))) [ true ↦ refl | false ↦ refl ]
      ∙ ap (λ h. cond (position_eq position p) None (option_and_then (λ offsets. at_offset offsets o) h)) (sym (get_at_position es p)))

  pub history_clear : (es : List (Position × StoredOffsets T)) → AppendsHistory HasOverrideHistory (from_entries es) (from_entries []) (RemoveAll ∷ [])
  history_clear es = history_step _ _ RemoveAll (λ p o. ap (λ h. option_and_then (λ offsets. at_offset offsets o) h) (get_at_position [] p))

  -- ---- no position is kept with nothing

  pub kept_unchanged : (es es' : List (Position × StoredOffsets T)) → AreSet es → ((p : Position) → lookup (position_eq p) es' ≡ lookup (position_eq p) es) → AreSet es'
  kept_unchanged es es' set same p h is = set p h (sym (same p) ∙ is)

  pub kept_removed : (es es' : List (Position × StoredOffsets T)) (position : Position) → AreSet es → ((p : Position) → lookup (position_eq p) es' ≡ cond (position_eq position p) None (lookup (position_eq p) es)) → AreSet es'
  kept_removed es es' position set removed p h is = grind (arith, false≢true)

  pub kept_set : (es es' : List (Position × StoredOffsets T)) (position : Position) (offset : Offset) (v : T) → AreSet es
      → AfterSet position offset v (λ p. lookup (position_eq p) es) (λ p. lookup (position_eq p) es') → AreSet es'
  kept_set es es' position offset v set after p h is =
      let here : is_some (at_offset after.offsets offset) ≡ true =
      ap is_some (after.stored offset) ∙ ap (λ b. is_some (cond b (Some v) (option_and_then (λ h. at_offset h offset) (lookup (position_eq position) es)))) (same_offset offset) in
      elim (position_eq position p) as (λ b. cond b (Some after.offsets) (lookup (position_eq p) es) ≡ Some h → (o : Offset) × IsSome (at_offset h o)) [
        | true ↦ λ e. (offset, subst (λ (g : Option (StoredOffsets T)). is_some (option_and_then (λ k. at_offset k offset) g) ≡ true) e here)
        | false ↦ set p h
      ] (sym (after.others p) ∙ is)

  pub kept_copied : (D : StoredOffsets T → StoredOffsets T → Type 0) → ((h k : StoredOffsets T) → D h k → (o : Offset) → is_some (at_offset k o) ≡ is_some (at_offset h o))
      → (es es' : List (Position × StoredOffsets T)) → AreSet es → AllZip (λ p q. (q.0 ≡ p.0) × D p.1 q.1) es es' → AreSet es'
  kept_copied D keeps es es' set zipped p k is =
      elim (lookup (position_eq p) es) as (λ found. lookup (position_eq p) es ≡ found → MatchOption found (lookup (position_eq p) es' ≡ None) (λ h. IsSomeAnd (lookup (position_eq p) es') (D h)) → (o : Offset) × IsSome (at_offset k o)) [
        | None ↦ λ _ gone. absurd (false≢true (ap is_some (sym gone ∙ is)))
        | Some h ↦ λ there tied.
            let stored = set p h there in
            (stored.0, keeps h k (subst (λ o. IsSomeAnd o (D h)) is tied) stored.0 ∙ stored.1)
      ] refl (lookup_clone (λ x y. y ≡ x) D (position_eq p) (λ x y h. ap (position_eq p) h) es es' zipped)

  -- ---- reads

  inner_some : (h : Option (StoredOffsets T)) (o : Offset) → is_some (option_and_then (λ k. at_offset k o) h) ≡ true → is_some h ≡ true
  inner_some None o e = e
  inner_some (Some h) o e = refl

  pub overridden : (es : List (Position × StoredOffsets T)) (p : Position) (b : Bool) → AreSet es → b ≡ is_some (lookup (position_eq p) es) → IsTrue b ↔ IsOverridden (from_entries es) p
  overridden es p b set is = grind (arith, a_value, get_at_position, inner_some)

  pub is_clear : (es : List (Position × StoredOffsets T)) (b : Bool) → AreSet es → (IsTrue b ↔ (length es ≡ 0)) → IsTrue b ↔ HasOverrideHistory [] (from_entries es)
  is_clear [] b set empty = ((λ h p o. ap (λ g. option_and_then (λ k. at_offset k o) g) (get_at_position [] p)), (λ h. empty.1 refl))
  is_clear (e ∷ es) b set empty = (
    (λ h p o. ap (λ g. option_and_then (λ k. at_offset k o) g) (get_at_position (e ∷ es) p ∙ none_of_nothing position_eq (e ∷ es) (empty.0 h) p)),
    (λ clear.
        let first : lookup (position_eq e.0) (e ∷ es) ≡ Some e.1 = ap (λ c. cond c (Some e.1) (lookup (position_eq e.0) es)) (position_equiv.refl e.0) in
        let stored = set e.0 e.1 first in
        absurd (false≢true (ap is_some (sym (clear e.0 stored.0)) ∙ ap (λ g. is_some (option_and_then (λ k. at_offset k stored.0) g)) (get_at_position (e ∷ es) e.0 ∙ first) ∙ stored.1))),
  )

  pub none_found : (offset limit : ℕ) → ◌≡◌ {A = Option T} None (cond (ltb offset limit) None None)
  none_found offset limit = elim (ltb offset limit) as (λ b. ◌≡◌ {A = Option T} None (cond b None None)) [ true ↦ refl | false ↦ refl ]

  -- ---- setting one value

  pub set_in_place : (es es' : List (Position × StoredOffsets T)) (position : Position) (offset : Offset) (v : T) (h k : StoredOffsets T) → lookup (position_eq position) es ≡ Some h
      → ((o : Offset) → at_offset k o ≡ cond (is_same_offset offset o) (Some v) (at_offset h o))
      → ((p : Position) → lookup (position_eq p) es' ≡ cond (position_eq position p) (Some k) (lookup (position_eq p) es))
      → AfterSet position offset v (λ p. lookup (position_eq p) es) (λ p. lookup (position_eq p) es')
  set_in_place es es' position offset v h k is stored others = record {
    offsets = k;
    stored = λ o. stored o ∙ ap (λ g. cond (is_same_offset offset o) (Some v) (option_and_then (λ h. at_offset h o) g)) (sym is);
    others = others;
  }

  pub set_anew : (es es' : List (Position × StoredOffsets T)) (position : Position) (offset : Offset) (v : T) (h k : StoredOffsets T) → lookup (position_eq position) es ≡ None
      → ((o : Offset) → at_offset h o ≡ None) → ((o : Offset) → at_offset k o ≡ cond (is_same_offset offset o) (Some v) (at_offset h o))
      → ((p : Position) → lookup (position_eq p) es' ≡ cond (position_eq position p) (Some k) (lookup (position_eq p) es))
      → AfterSet position offset v (λ p. lookup (position_eq p) es) (λ p. lookup (position_eq p) es')
  set_anew es es' position offset v h k is fresh stored others = record {
    offsets = k;
    stored = λ o. stored o ∙ ap (cond (is_same_offset offset o) (Some v)) (fresh o ∙ sym (ap (λ g. option_and_then (λ h. at_offset h o) g) is));
    others = others;
  }

  pub put_back : (es es' : List (Position × StoredOffsets T)) (position : Position) (h k : StoredOffsets T) → lookup (position_eq position) es ≡ Some h → k ≡ h
      → ((p : Position) → lookup (position_eq p) es' ≡ cond (position_eq position p) (Some k) (lookup (position_eq p) es))
      → (p : Position) → lookup (position_eq p) es' ≡ lookup (position_eq p) es
  put_back es es' position h k is same others p = grind (arith, exact_position_eq)

pub either_way : {A E P Q R : Type 0} (r : Result A E) → (P → R) → (Q → R) → OnOk r P → OnErr r Q → R
either_way (Ok x) f g p q = f p
either_way (Err e) f g p q = g q
