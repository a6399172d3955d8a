-- Counts of a map's keys, as the map changes.
use Rattle.std.proofs.Common.{◌≡◌, ℕ, ◌+◌, ◌<◌, ◌≤◌, Bool, true, ◌&&◌, cond, List, [], ◌∷◌, eqb, Option, Some, None, refl, sym, ap, ◌∙◌, arith}
use Rattle.std.specs.Prelude.{is_some, is_none, unwrap_or}
use Rattle.std.specs.Option.{option_map}
use Rattle.std.specs.List.{count_by, sum_by}
use Rattle.std.specs.List.Sorted.{IsPermutation}
use Rattle.std.specs.HashMap.{HashMap, PutsEntry, get, keys, values}
use Rattle.std.specs.Map.{keys_of, lookup, remove_entry, values_of}
use Rattle.std.proofs.lemmas.Bool.{eq-eqb}
use Rattle.std.proofs.lemmas.List.Sorted.{sum_by-IsPermutation}
use Rattle.std.proofs.lemmas.List.Sums.{sum_by-cons}
use Rattle.std.proofs.lemmas.Map.{keys-set_value}
use Rattle.std.proofs.lemmas.Map.Entries.{sum_by-remove_entry, sum_by_puts_entry, sum_by_values_permutation}
use Rattle.papergrid_tables.specs.ForProofs.CountedLines.{is_end_set}
use Rattle.papergrid_tables.specs.ForProofs.Counts.{one_if}

module _ {K X : Type 0} (test : K → Bool) where
  by_entries : (es : List (K × X)) → count_by test (keys_of es) ≡ sum_by (λ e. cond (test e.0) 1 0) es
  by_entries [] = refl
  by_entries (e ∷ es) =
      sum_by-cons (λ k. cond (test k) 1 0) e.0 (keys_of es) ∙ ap (λ n. cond (test e.0) 1 0 + n) (by_entries es) ∙ sym (sum_by-cons (λ (p : K × X). cond (test p.0) 1 0) e es)

  one_more : (e : K × X) (es : List (K × X)) → count_by test (keys_of (e ∷ es)) ≡ cond (test e.0) 1 0 + count_by test (keys_of es)
  one_more e es = sum_by-cons (λ k. cond (test k) 1 0) e.0 (keys_of es)

  pub count_reordered : (es fs : List (K × X)) → IsPermutation es fs → count_by test (keys_of fs) ≡ count_by test (keys_of es)
  count_reordered es fs same = by_entries fs ∙ sum_by-IsPermutation (λ (p : K × X). cond (test p.0) 1 0) es fs same ∙ sym (by_entries es)

  -- one more where the key is new
  pub count_put : {S : Type 0} (E : K → K → Bool) (m n : HashMap K X S) (k : K) (v : X) (old : Option X) (b : Bool) → PutsEntry E m n k v old → b ≡ is_none old
      → count_by test (keys n) ≡ count_by test (keys m) + cond (b && test k) 1 0
  count_put E m n k v None b puts is =
      count_reordered ((k, v) ∷ m.entries) n.entries puts ∙ one_more (k, v) m.entries ∙ rw is (omega arith)
  count_put E m n k v (Some x) b puts is =
      ap (λ es. count_by test (keys_of es)) puts ∙ ap (count_by test) (keys-set_value (E k) m.entries v) ∙ rw is (omega arith)

  removed : (is_key : K → Bool) (k : K) → ((q : K) → is_key q ≡ true → q ≡ k) → (es : List (K × X))
      → count_by test (keys_of (remove_entry is_key es)) + cond (is_some (lookup is_key es) && test k) 1 0 ≡ count_by test (keys_of es)
  removed is_key k exact [] = refl
  removed is_key k exact (e ∷ es) = grind (arith, one_more, removed is_key k exact es)

  -- one less where the key was stored
  pub count_removed : (is_key : K → Bool) (k : K) → ((q : K) → is_key q ≡ true → q ≡ k) → (es fs : List (K × X)) (b : Bool) → IsPermutation (remove_entry is_key es) fs → b ≡ is_some (lookup is_key es)
      → count_by test (keys_of fs) + cond (b && test k) 1 0 ≡ count_by test (keys_of es)
  count_removed is_key k exact es fs b same is = grind (arith, count_reordered, removed)

-- what stands on its own line is counted there
pub counted_here : (x new old count : ℕ) (b : Bool) → b ≡ true → new + cond (b && eqb x x) 1 0 ≡ old → count ≡ old → 0 < count
counted_here x new old count b is less counts = grind (arith, eq-eqb)

-- where one more is counted and one more stands, the count is right again
pub counted_one_more : (counted count new old : ℕ) (b on : Bool) → b ≡ true → counted ≡ count + cond on 1 0 → new ≡ old + cond (b && on) 1 0 → count ≡ old → counted ≡ new
counted_one_more counted count new old b on is adds more counts = grind arith

-- ---- lines with an end that is set

module _ {L : Type 0} (is_set : L → Bool) where
  weight_of : (line : Option L) → unwrap_or (option_map (λ l. one_if (is_set l)) line) 0 ≡ one_if (is_end_set is_set line)
  weight_of None = refl
  weight_of (Some l) = refl

  ends_put : {S : Type 0} (m n : HashMap ℕ L S) (k : ℕ) (line : L) (old : Option L) (had has : Bool) → old ≡ get eqb m k → PutsEntry eqb m n k line old → had ≡ is_end_set is_set old → has ≡ is_set line
      → count_by is_set (values n) + cond had 1 0 ≡ count_by is_set (values m) + cond has 1 0
  ends_put m n k line old had has stored puts was now =
      let old_weight = weight_of old ∙ ap one_if (sym was) in
      omega (arith, sum_by_puts_entry (λ l. one_if (is_set l)) eqb m n k line old stored puts, old_weight, ap one_if now)

  ends_taken : (is_key : ℕ → Bool) (es fs : List (ℕ × L)) (old : Option L) (had : Bool) → IsPermutation (remove_entry is_key es) fs → old ≡ lookup is_key es → had ≡ is_end_set is_set old
      → count_by is_set (values_of fs) + cond had 1 0 ≡ count_by is_set (values_of es)
  ends_taken is_key es fs old had same stored was =
      let sums = sum_by-remove_entry (λ l. one_if (is_set l)) is_key es in
      let weight = ap (λ o. unwrap_or (option_map (λ l. one_if (is_set l)) o) 0) (sym stored) ∙ weight_of old ∙ ap one_if (sym was) in
      omega (arith, sum_by_values_permutation (λ l. one_if (is_set l)) (remove_entry is_key es) fs same, sums, weight)

  -- the end of the line that was there is counted, and the count that changes by both ends is right again
  pub put_counted : {S : Type 0} (m n : HashMap ℕ L S) (k : ℕ) (line : L) (old : Option L) (had has : Bool) (count : ℕ) → old ≡ get eqb m k → PutsEntry eqb m n k line old → had ≡ is_end_set is_set old → has ≡ is_set line → count ≡ count_by is_set (values m)
      → (cond had 1 0 ≤ count + cond has 1 0) × ((new : ℕ) → new + cond had 1 0 ≡ count + cond has 1 0 → new ≡ count_by is_set (values n))
  put_counted m n k line old had has count stored puts was now counted =
      let sums = ends_put m n k line old had has stored puts was now in
      (omega (arith, sums, counted), λ new changed. omega (arith, sums, counted, changed))

  -- the same where none comes in its place
  pub taken_counted : (is_key : ℕ → Bool) (es fs : List (ℕ × L)) (old : Option L) (had : Bool) (count : ℕ) → IsPermutation (remove_entry is_key es) fs → old ≡ lookup is_key es → had ≡ is_end_set is_set old → count ≡ count_by is_set (values_of es)
      → (cond had 1 0 ≤ count + 0) × ((new : ℕ) → new + cond had 1 0 ≡ count + 0 → new ≡ count_by is_set (values_of fs))
  taken_counted is_key es fs old had count same stored was counted =
      let sums = ends_taken is_key es fs old had same stored was in
      (omega (arith, sums, counted), λ new changed. omega (arith, sums, counted, changed))
