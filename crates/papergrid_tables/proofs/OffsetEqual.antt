-- Equality of tables of overrides is agreement of what they hold at each position and offset.
use Rattle.std.proofs.Common.{◌≡◌, ◌∙◌, ap, cond, sym, refl, inl, inr, ℕ, Bool, true, false, List, [], ◌∷◌, Option, Some, None, is_some, arith}
use Rattle.std.specs.Prelude.{◌↔◌, ◌||◌, IsSome, option_and_then, unwrap_or}
use Rattle.std.specs.Cmp.{eq_by_cmp_equiv, nat_cmp_total}
use Rattle.std.specs.FinMap.{FinMap, contains_key-keys, from_entries, get, get-retain_keys, keys}
use Rattle.std.specs.HashMap.{entries_eq}
use Rattle.std.specs.List.{list_any}
use Rattle.std.specs.Option.{option_eq}
use Rattle.std.specs.Ordering.{eq_by_cmp, nat_cmp}
use Rattle.std.proofs.lemmas.Bool.{and_from, and_parts, cases_Bool, false≢true, or_left}
use Rattle.papergrid_values.specs.declared.offset.Offset.{Offset}
use Rattle.papergrid_values.specs.declared.offset.Offset.TheVariants.{Start, End}
use Rattle.papergrid_values.specs.declared.position.Position.{Position}
use Rattle.papergrid_values.specs.MapKeys.{position_cmp, position_eq}
use Rattle.papergrid_tables.specs.ForProofs.OffsetEq.{has_number, has_override, no_offsets, offsets_eq, overrides_eq, with_overrides}
use Rattle.papergrid_tables.specs.Overrides.{StoredOffsets, HoldTheSame, at_offset, override_at}
use Rattle.papergrid_tables.specs.ForProofs.OverrideScan.{AreSet}
use Rattle.papergrid_values.proofs.EqualLemmas.{numbers_agree, positions_agree, positions_eq-from_entries, same_test}
use Rattle.papergrid_values.proofs.KeyLemmas.{exact_positions, get_at_position}

-- ---- maps that hold something

any_number : (n : ℕ) (ks : List ℕ) → list_any (eq_by_cmp nat_cmp n) ks ≡ true → list_any (λ _. true) ks ≡ true
any_number n [] h = h
any_number n (k ∷ ks) h = refl

first_number : (ks : List ℕ) → list_any (λ _. true) ks ≡ true → (n : ℕ) × (list_any (eq_by_cmp nat_cmp n) ks ≡ true)
first_number [] h = absurd (false≢true h)
first_number (k ∷ ks) h = (k, or_left _ _ ((eq_by_cmp_equiv nat_cmp_total).refl k))

none_set : {X : Type 0} (x : Option X) → (is_some x ≡ true → ⊥) → x ≡ None
none_set None h = refl
none_set (Some x) h = absurd (h refl)

neither : (a b : Bool) → (a || b) ≡ false → (a ≡ false) × (b ≡ false)
neither true b h = absurd (false≢true (sym h))
neither false b h = (refl, h)

module _ {T : Type 0} where
  stored_number : (m : FinMap nat_cmp T) → has_number m ≡ true → (n : ℕ) × IsSome (get m n)
  stored_number m h = let found = first_number (keys m) h in (found.0, contains_key-keys m found.0 ∙ found.1)

  no_number : (m : FinMap nat_cmp T) (n : ℕ) → has_number m ≡ false → get m n ≡ None
  no_number m n h = none_set (get m n) (λ there. false≢true (sym h ∙ any_number n (keys m) (sym (contains_key-keys m n) ∙ there)))

  stored_override : (h : StoredOffsets T) → has_override h ≡ true → (o : Offset) × IsSome (at_offset h o)
  stored_override h there = elim (cases_Bool (has_number h.from_start)) [
    | inl start ↦ let found = stored_number h.from_start start in (Start found.0, found.1)
    | inr none ↦ let found = stored_number h.from_end (sym (ap (λ b. b || has_number h.from_end) none) ∙ there) in (End found.0, found.1)
  ]

  no_override : (h : StoredOffsets T) (o : Offset) → has_override h ≡ false → at_offset h o ≡ None
  no_override h (Start n) none = no_number h.from_start n (neither _ _ none).0
  no_override h (End n) none = no_number h.from_end n (neither _ _ none).1

  -- ---- the entry of a position, if it has an override

  abbrev kept : Option (StoredOffsets T) → Option (StoredOffsets T)
  kept f = cond (has_override (unwrap_or f no_offsets)) f None

  IsSet : Option (StoredOffsets T) → Type 0
  IsSet f = (h : StoredOffsets T) → f ≡ Some h → (o : Offset) × IsSome (at_offset h o)

  abbrev stored_at : Option (StoredOffsets T) → Offset → Option T
  stored_at f o = option_and_then (λ h. at_offset h o) f

  kept_entry : (s : FinMap position_cmp (StoredOffsets T)) (p : Position) → get (with_overrides s) p ≡ kept (get s p)
  kept_entry s p = get-retain_keys s _ p (λ q tie. ap (λ q. has_override (unwrap_or (get s q) no_offsets)) (sym (exact_positions p q tie)))

  kept_set : (f : Option (StoredOffsets T)) → IsSet (kept f)
  unfolding IsSet
  kept_set None h is = grind (arith, false≢true)
  kept_set (Some k) h is = grind (arith, stored_override, false≢true)

  kept_same : (f : Option (StoredOffsets T)) (o : Offset) → stored_at (kept f) o ≡ stored_at f o
  kept_same None o = elim (has_override no_offsets) as (λ b. stored_at (cond b None None) o ≡ None) [ true ↦ refl | false ↦ refl ]
  kept_same (Some k) o = grind (arith, no_override)

-- ---- equality

module _ {T : Type 0} (eq : T → T → Bool) where
  offsets_agree : (h k : StoredOffsets T) → (offsets_eq eq h k ≡ true) ↔ ((o : Offset) → option_eq eq (at_offset h o) (at_offset k o) ≡ true)
  offsets_agree h k = (agree, λ each. and_from _ _ ((numbers_agree eq h.from_start k.from_start).1 (λ n. each (Start n))) ((numbers_agree eq h.from_end k.from_end).1 (λ n. each (End n))))
    where
      agree : offsets_eq eq h k ≡ true → (o : Offset) → option_eq eq (at_offset h o) (at_offset k o) ≡ true
      agree t (Start n) = (numbers_agree eq h.from_start k.from_start).0 (and_parts _ _ t).0 n
      agree t (End n) = (numbers_agree eq h.from_end k.from_end).0 (and_parts _ _ t).1 n

  unlike_none : (x : Option T) → option_eq eq None x ≡ true → is_some x ≡ true → ⊥
  unlike_none None same there = false≢true there
  unlike_none (Some x) same there = false≢true same

  none_unlike : (x : Option T) → option_eq eq x None ≡ true → is_some x ≡ true → ⊥
  none_unlike None same there = false≢true there
  none_unlike (Some x) same there = false≢true same

  -- where each that is set has an override
  same_entry : (f g : Option (StoredOffsets T)) → IsSet f → IsSet g → (option_eq (offsets_eq eq) f g ≡ true) ↔ ((o : Offset) → option_eq eq (stored_at f o) (stored_at g o) ≡ true)
  unfolding IsSet
  same_entry None None set_f set_g = (λ _ o. refl, λ _. refl)
  same_entry None (Some k) set_f set_g = (λ h. absurd (false≢true h), λ each. let there = set_g k refl in absurd (unlike_none (at_offset k there.0) (each there.0) there.1))
  same_entry (Some h) None set_f set_g = (λ h. absurd (false≢true h), λ each. let there = set_f h refl in absurd (none_unlike (at_offset h there.0) (each there.0) there.1))
  same_entry (Some h) (Some k) set_f set_g = offsets_agree h k

  pub overrides_agree : (s t : FinMap position_cmp (StoredOffsets T)) → (overrides_eq eq s t ≡ true) ↔ HoldTheSame eq s t
  overrides_agree s t =
      let positions = positions_agree (offsets_eq eq) (with_overrides s) (with_overrides t) in
      let entries : (p : Position) → option_eq (offsets_eq eq) (get (with_overrides s) p) (get (with_overrides t) p) ≡ option_eq (offsets_eq eq) (kept (get s p)) (kept (get t p))
      = λ p i. option_eq (offsets_eq eq) (kept_entry s p i) (kept_entry t p i) in
      let stored : (p : Position) (o : Offset) → option_eq eq (stored_at (kept (get s p)) o) (stored_at (kept (get t p)) o) ≡ option_eq eq (override_at s p o) (override_at t p o)
      = λ p o i. option_eq eq (kept_same (get s p) o i) (kept_same (get t p) o i) in
      let each : (p : Position) → (option_eq (offsets_eq eq) (kept (get s p)) (kept (get t p)) ≡ true) ↔ ((o : Offset) → option_eq eq (stored_at (kept (get s p)) o) (stored_at (kept (get t p)) o) ≡ true)
      = λ p. same_entry (kept (get s p)) (kept (get t p)) (kept_set (get s p)) (kept_set (get t p)) in (
        λ h p o. sym (stored p o) ∙ (each p).0 (sym (entries p) ∙ positions.0 h p) o,
        λ same. positions.1 (λ p. entries p ∙ (each p).1 (λ o. stored p o ∙ same p o)),
      )

  -- of tables that keep no position without an override
  pub overrides_eq-from_entries : (es fs : List (Position × StoredOffsets T)) → AreSet es → AreSet fs
      → entries_eq position_eq (λ p q. offsets_eq eq p.1 q.1) es fs ≡ overrides_eq eq (from_entries es) (from_entries fs)
  unfolding IsSet
  overrides_eq-from_entries es fs set_es set_fs =
      let s : FinMap position_cmp (StoredOffsets T) = from_entries es in
      let t : FinMap position_cmp (StoredOffsets T) = from_entries fs in
      let positions = positions_agree (offsets_eq eq) s t in
      let stored = overrides_agree s t in
      let each : (p : Position) → (option_eq (offsets_eq eq) (get s p) (get t p) ≡ true) ↔ ((o : Offset) → option_eq eq (override_at s p o) (override_at t p o) ≡ true)
      = λ p. same_entry (get s p) (get t p) (λ h is. set_es p h (sym (get_at_position es p) ∙ is)) (λ h is. set_fs p h (sym (get_at_position fs p) ∙ is)) in
      sym (positions_eq-from_entries (offsets_eq eq) es fs)
      ∙ same_test _ _ (λ h. stored.1 (λ p. (each p).0 (positions.0 h p))) (λ h. positions.1 (λ p. (each p).1 (stored.0 h p)))
