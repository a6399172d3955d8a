-- What the counts of a border table tell of its lines.
use Rattle.std.proofs.Common.{◌≡◌, ℕ, ◌+◌, Bool, true, false, ◌&&◌, cond, List, [], ◌∷◌, eqb, Option, Some, refl, sym, ap, ◌∙◌, arith}
use Rattle.std.specs.Prelude.{◌||◌, ◌⊎◌, ◌↔◌, IsTrue, IsSome, is_some, nat_lt}
use Rattle.std.specs.Ordering.{nat_cmp}
use Rattle.std.specs.FinMap.{get, from_entries}
use Rattle.std.specs.HashMap.{HashMap, keys}
use Rattle.std.specs.List.{count_by, list_any}
use Rattle.std.specs.Map.{keys_of, values_of}
use Rattle.std.proofs.lemmas.Bool.{eqb-true, eq-eqb}
use Rattle.std.proofs.lemmas.Grind.{common_steps}
use Rattle.std.proofs.lemmas.List.Sums.{sum_by-cons}
use Rattle.papergrid_values.specs.Positions.{along}
use Rattle.papergrid_values.specs.declared.direction.Direction.{Direction}
use Rattle.papergrid_values.specs.declared.position.Position.{Position}
use Rattle.papergrid_tables.specs.BorderScan.{has_end}
use Rattle.papergrid_tables.specs.ForProofs.CountedLines.{AreEndsCounted, is_stored, reaches}
use Rattle.papergrid_tables.specs.ForProofs.Counts.{AreCounts, line_count_of}
use Rattle.papergrid_values.specs.MapKeys.{position_cmp}
use Rattle.papergrid_tables.specs.BorderParts.{EndsThere, HasEnd, StandsOn}
use Rattle.papergrid_tables.specs.declared.counted_lines.Lines.{Lines}
use Rattle.papergrid_tables.specs.declared.line_counts.LineCounts.{LineCounts}
use Rattle.papergrid_values.proofs.AnyLemmas.{any_from_found, some_key}
use Rattle.papergrid_tables.proofs.BorderFound.{ends_scan, key_scan}
use Rattle.papergrid_tables.specs.ForProofs.LineTested.{either, some_value}
use Rattle.papergrid_values.proofs.KeyLemmas.{exact_position_eq, get_at_position, position_equiv}

-- a count is above 0 where something is counted
one_first : (b : Bool) (n : ℕ) (rest : Bool) → nat_lt 0 n ≡ rest → nat_lt 0 (cond b 1 0 + n) ≡ (b || rest)
one_first true n rest h = grind (arith, common_steps)
one_first false n rest h = let same : 0 + n ≡ n = omega arith in ap (nat_lt 0) same ∙ h

any_counted : {A : Type 0} (test : A → Bool) (xs : List A) → nat_lt 0 (count_by test xs) ≡ list_any test xs
any_counted test [] = refl
any_counted test (x ∷ xs) =
    ap (nat_lt 0) (sum_by-cons (λ y. cond (test y) 1 0) x xs) ∙ one_first (test x) (count_by test xs) (list_any test xs) (any_counted test xs)

module _ {K X : Type 0} where
  by_key : (test : K → Bool) (es : List (K × X)) → list_any test (keys_of es) ≡ list_any (λ e. test e.0) es
  by_key test [] = refl
  by_key test (e ∷ es) = ap (λ b. test e.0 || b) (by_key test es)

  by_value : (test : X → Bool) (es : List (K × X)) → list_any test (values_of es) ≡ list_any (λ e. test e.1) es
  by_value test [] = refl
  by_value test (e ∷ es) = ap (λ b. test e.1 || b) (by_value test es)

-- some line's end here or there
ends_apart : (x y a b u v : Bool) → (((x && a) || (y && b)) || ((x && u) || (y && v))) ≡ ((x && (a || u)) || (y && (b || v)))
ends_apart x y a b u v = grind arith

any_end : {L T : Type 0} (first end : L → Option T) (index count : ℕ) (es : List (ℕ × L))
    → list_any (λ e. has_end index count (first e.1) (end e.1)) es ≡ ((eqb index 0 && list_any (λ e. is_some (first e.1)) es) || (eqb index count && list_any (λ e. is_some (end e.1)) es))
any_end first end index count [] = grind arith
any_end first end index count (e ∷ es) = grind (arith, ends_apart, any_end first end index count es)

-- an end of a line
pub ends_counted : {L T : Type 0} (first end : L → Option T) (index count : ℕ) (lines : Lines L) (b : Bool) → AreEndsCounted (λ line. is_some (first line)) (λ line. is_some (end line)) lines
    → b ≡ ((eqb index 0 && nat_lt 0 lines.first_ends) || (eqb index count && nat_lt 0 lines.last_ends))
    → IsTrue b ↔ ((n : ℕ) × (line : L) × (get (from_entries {R = nat_cmp} lines.values.entries) n ≡ Some line) × HasEnd index count (first line) (end line))
ends_counted first end index count lines b counted is =
    let es = lines.values.entries in
    let firsts = ap (nat_lt 0) counted.first ∙ any_counted _ (values_of es) ∙ by_value (λ line. is_some (first line)) es in
    let lasts = ap (nat_lt 0) counted.last ∙ any_counted _ (values_of es) ∙ by_value (λ line. is_some (end line)) es in
    ends_scan first end index count es b (is ∙ (λ i. (eqb index 0 && firsts i) || (eqb index count && lasts i)) ∙ sym (any_end first end index count es)) counted.unique

-- a position in a row or a column
pub parts_counted : {T R S : Type 0} (direction : Direction) (n : ℕ) (positions : HashMap Position T R) (counts : HashMap ℕ ℕ S) (b : Bool)
    → AreCounts direction counts (keys positions) → b ≡ nat_lt 0 (line_count_of counts n)
    → IsTrue b ↔ ((p : Position) × (along direction p ≡ n) × IsSome (get (from_entries {R = position_cmp} positions.entries) p))
parts_counted direction n positions counts b counted is =
    let test = λ (p : Position). eqb (along direction p) n in
    let any = is ∙ ap (nat_lt 0) (counted n) ∙ any_counted test (keys positions) in (
      (λ h. let found = some_key position_equiv test positions.entries (sym any ∙ h) in (found.0, eqb-true _ _ found.1, ap is_some (get_at_position positions.entries found.0) ∙ found.2)),
      (λ h. let stored = some_value (get (from_entries {R = position_cmp} positions.entries) h.0) h.2 in
          any ∙ by_key test positions.entries
          ∙ any_from_found position_equiv (λ e. test e.0) positions.entries exact_position_eq h.0 stored.0 (sym (get_at_position positions.entries h.0) ∙ stored.1) (eq-eqb _ _ h.1)),
    )

-- an end of a line across, a line, an edge or a corner
pub set_counted : {A L T R U W : Type 0} (direction : Direction) (n count : ℕ) (first end : A → Option T) (across : Lines A) (lines : HashMap ℕ L W) (edges : HashMap Position T R) (edge_counts : LineCounts) (corners : HashMap Position T U) (corner_counts : LineCounts) (b : Bool)
    → AreEndsCounted (λ line. is_some (first line)) (λ line. is_some (end line)) across → AreCounts direction edge_counts.counts (keys edges) → AreCounts direction corner_counts.counts (keys corners)
    → b ≡ (reaches n count across || is_stored lines edge_counts corner_counts n)
    → IsTrue b ↔ (EndsThere (λ k. get (from_entries {R = nat_cmp} across.values.entries) k) first end n count
    ⊎ (IsSome (get (from_entries {R = nat_cmp} lines.entries) n)
    ⊎ (StandsOn direction n (λ p. get (from_entries {R = position_cmp} edges.entries) p)
    ⊎ StandsOn direction n (λ p. get (from_entries {R = position_cmp} corners.entries) p))))
set_counted direction n count first end across lines edges edge_counts corners corner_counts b ends edges_counted corners_counted is =
    rw is (either _ _ (ends_counted first end n count across _ ends refl) (either _ _ (key_scan lines.entries n _ refl)
    (either _ _ (parts_counted direction n edges edge_counts.counts _ edges_counted refl) (parts_counted direction n corners corner_counts.counts _ corners_counted refl))))
