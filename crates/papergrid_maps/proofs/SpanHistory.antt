-- One more call on spans.
use Rattle.std.proofs.Common.{◌≡◌, ℕ, suc, ◌≤◌, Bool, true, false, cond, ◌&&◌, List, [], ◌∷◌, ◌++◌, Option, Some, None, refl, sym, ap, subst, ◌∙◌, arith, leb}
use Rattle.std.specs.Prelude.{reverse, ◌↔◌, IsTrue, is_some, not, length, unwrap_or, Result, Ok, Err, OnOk, OnErr}
use Rattle.std.proofs.lemmas.List.{reverse-append}
use Rattle.std.proofs.lemmas.Bool.{false≢true, leb-true, le-leb}
use Rattle.std.specs.BTreeMap.{is_at}
use Rattle.std.specs.Cmp.{eq_by_cmp_equiv}
use Rattle.std.specs.Map.{lookup}
use Rattle.std.specs.Ordering.{eq_by_cmp}
use Rattle.std.specs.FinMap.{FinMap, empty, get, get-empty, get-insert, get-remove, insert, remove}
use Rattle.papergrid_values.specs.declared.position.Position.{Position}
use Rattle.papergrid_values.specs.MapKeys.{position_cmp, position_eq}
use Rattle.papergrid_values.specs.declared.direction.Direction.{Direction}
use Rattle.papergrid_values.specs.declared.direction.Direction.TheVariants.{Columns, Rows}
use Rattle.papergrid_values.specs.History.{AppendsHistory}
use Rattle.papergrid_maps.specs.Spans.{Spans, SpanCall, RemoveSpans, SetSpan, HasSpan, HasSpanHistory, spans_along, from_two}
use Rattle.papergrid_maps.proofs.SpanSearch.{span_from}
use Rattle.papergrid_maps.proofs.EffectiveSpanLemmas.{history_of_spans, spans_of_history}
use Rattle.papergrid_maps.specs.ForProofs.SpanIndex.{AreFromTwo, stored_along, key_of, span_set}
use Rattle.papergrid_values.proofs.EntryLemmas.{none_is_not_some}
use Rattle.papergrid_values.proofs.KeyLemmas.{position_equiv, position_ties, position_total}
use Rattle.papergrid_maps.proofs.IndexKeys.{stored_at, key_key}
use Rattle.papergrid_maps.specs.ForProofs.SpanVisible.{not_true}

newest : (calls : List SpanCall) (call : SpanCall) → reverse (calls ++ call ∷ []) ≡ call ∷ reverse calls
newest calls call = reverse-append calls (call ∷ [])

pub new_history : HasSpanHistory [] (record { columns = empty; rows = empty })
new_history = history_of_spans [] (record { columns = empty; rows = empty }) nothing
  where
    nothing : (d : Direction) (p : Position) → get (spans_along d (record { columns = empty; rows = empty })) p ≡ None
    nothing Columns p = get-empty position_cmp p
    nothing Rows p = get-empty position_cmp p

same_some : (m n : ℕ) → ◌≡◌ {A = Option ℕ} (Some m) (Some n) → m ≡ n
same_some m n e = ap (λ o. unwrap_or o m) e

-- what a call makes of the spans of each direction makes a step of the table
history_step : (old new : Spans) (call : SpanCall)
    → ((d : Direction) (p : Position) (older : List SpanCall) → get (spans_along d old) p ≡ from_two (span_from d p older) → get (spans_along d new) p ≡ from_two (span_from d p (call ∷ older)))
    → AppendsHistory HasSpanHistory old new (call ∷ [])
history_step old new call step calls told = grind (arith, history_of_spans, spans_of_history, span_from, newest)

module _ (q : Position) (n : ℕ) (old new : FinMap position_cmp ℕ) (changed : (p : Position) → get new p ≡ span_set q n p (get old p)) where
  -- no span below 2 comes to be stored
  pub kept_from_two : AreFromTwo old → AreFromTwo new
  kept_from_two big p m is = by_test (leb 1 n && position_eq q p) m (sym (changed p) ∙ is)
    where
      new_from_two : (b : Bool) (m : ℕ) → leb 2 n ≡ b → cond b (Some n) None ≡ Some m → 2 ≤ m
      new_from_two true m e h = omega (arith, leb-true 2 n e, same_some n m h)
      new_from_two false m e h = absurd (none_is_not_some h)

      by_test : (b : Bool) (m : ℕ) → cond b (from_two n) (get old p) ≡ Some m → 2 ≤ m
      by_test true m h = new_from_two (leb 2 n) m refl h
      by_test false m h = big p m h

-- whether or not memory was refused
pub kept_either_way : {A E : Type 0} (r : Result A E) (q : Position) (n : ℕ) (old new : FinMap position_cmp ℕ) → OnOk r ((p : Position) → get new p ≡ span_set q n p (get old p)) → OnErr r (new ≡ old)
    → AreFromTwo old → AreFromTwo new
kept_either_way (Ok x) q n old new changed same big = kept_from_two q n old new changed big
kept_either_way (Err e) q n old new changed same big = subst AreFromTwo (sym same) big

-- a position is tied to another in either order of the two
tied : (p q : Position) → eq_by_cmp position_cmp p q ≡ position_eq q p
tied p q = sym (position_ties p q) ∙ position_equiv.symm p q

-- a call with 1
pub removed_set : (old : FinMap position_cmp ℕ) (q p : Position) → get (remove old q) p ≡ span_set q 1 p (get old p)
removed_set old q p = get-remove position_total old q p ∙ ap (λ b. cond b None (get old p)) (tied p q)

-- a call with 2 or more
pub stored_set : (old : FinMap position_cmp ℕ) (q : Position) (n : ℕ) → 2 ≤ n → (p : Position) → get (insert old q n) p ≡ span_set q n p (get old p)
stored_set old q n big p =
    let one : leb 1 n ≡ true = le-leb 1 n (omega (arith, big)) in
    let two : leb 2 n ≡ true = le-leb 2 n big in
    get-insert position_total old q n p
    ∙ (λ i. cond ((tied p q ∙ ap (λ b. b && position_eq q p) (sym one)) i) (cond (sym two i) (Some n) None) (get old p))

either : (b : Bool) (m n : ℕ) → cond b (from_two m) (from_two n) ≡ from_two (cond b m n)
either true m n = refl
either false m n = refl

pub history_set_column : (old new rows : FinMap position_cmp ℕ) (q : Position) (n : ℕ) → ((p : Position) → get new p ≡ span_set q n p (get old p))
    → AppendsHistory HasSpanHistory (record { columns = old; rows = rows }) (record { columns = new; rows = rows }) (SetSpan Columns q n ∷ [])
history_set_column old new rows q n changed = history_step _ _ (SetSpan Columns q n) (λ d p older.
    elim d as (λ d. get (spans_along d (record { columns = old; rows = rows })) p ≡ from_two (span_from d p older) → get (spans_along d (record { columns = new; rows = rows })) p ≡ from_two (span_from d p (SetSpan Columns q n ∷ older))) [
      | Columns ↦ λ stored. changed p ∙ ap (span_set q n p) stored ∙ either (leb 1 n && position_eq q p) n (span_from Columns p older)
      | Rows ↦ λ stored. stored
    ])

pub history_set_row : (columns old new : FinMap position_cmp ℕ) (q : Position) (n : ℕ) → ((p : Position) → get new p ≡ span_set q n p (get old p))
    → AppendsHistory HasSpanHistory (record { columns = columns; rows = old }) (record { columns = columns; rows = new }) (SetSpan Rows q n ∷ [])
history_set_row columns old new q n changed = history_step _ _ (SetSpan Rows q n) (λ d p older.
    elim d as (λ d. get (spans_along d (record { columns = columns; rows = old })) p ≡ from_two (span_from d p older) → get (spans_along d (record { columns = columns; rows = new })) p ≡ from_two (span_from d p (SetSpan Rows q n ∷ older))) [
      | Columns ↦ λ stored. stored
      | Rows ↦ λ stored. changed p ∙ ap (span_set q n p) stored ∙ either (leb 1 n && position_eq q p) n (span_from Rows p older)
    ])

pub history_remove_columns : (columns rows : FinMap position_cmp ℕ) → AppendsHistory HasSpanHistory (record { columns = columns; rows = rows }) (record { columns = empty; rows = rows }) (RemoveSpans Columns ∷ [])
history_remove_columns columns rows = history_step _ _ (RemoveSpans Columns) (λ d p older.
    elim d as (λ d. get (spans_along d (record { columns = columns; rows = rows })) p ≡ from_two (span_from d p older) → get (spans_along d (record { columns = empty; rows = rows })) p ≡ from_two (span_from d p (RemoveSpans Columns ∷ older))) [
      | Columns ↦ λ stored. get-empty position_cmp p
      | Rows ↦ λ stored. stored
    ])

pub history_remove_rows : (columns rows : FinMap position_cmp ℕ) → AppendsHistory HasSpanHistory (record { columns = columns; rows = rows }) (record { columns = columns; rows = empty }) (RemoveSpans Rows ∷ [])
history_remove_rows columns rows = history_step _ _ (RemoveSpans Rows) (λ d p older.
    elim d as (λ d. get (spans_along d (record { columns = columns; rows = rows })) p ≡ from_two (span_from d p older) → get (spans_along d (record { columns = columns; rows = empty })) p ≡ from_two (span_from d p (RemoveSpans Rows ∷ older))) [
      | Columns ↦ λ stored. stored
      | Rows ↦ λ stored. get-empty position_cmp p
    ])

-- an empty map holds no span
pub none_from_two : AreFromTwo empty
none_from_two p n is = absurd (none_is_not_some (sym (get-empty position_cmp p) ∙ is))

no_length : {n : ℕ} → suc n ≡ 0 → ⊥
no_length h = omega (arith, h)

-- an index with entries has a span
pub has_span : (d : Direction) (es : List (Position × ℕ)) (b : Bool) → (IsTrue b ↔ (length es ≡ 0)) → IsTrue (not b) ↔ HasSpan (stored_along d es)
has_span d [] b empty = (
  (λ h. absurd (not_true b h (empty.1 refl))),
  (λ has. absurd (false≢true (subst (λ o. is_some o ≡ true) (stored_at d [] has.0) has.1))),
)
has_span d (e ∷ es) b empty = (
  (λ h.
      let found : lookup (is_at (position_cmp (key_of d (key_of d e.0)))) (e ∷ es) ≡ Some e.1
      = ap (λ q. lookup (is_at (position_cmp q)) (e ∷ es)) (key_key d e.0) ∙ ap (λ c. cond c (Some e.1) (lookup (is_at (position_cmp e.0)) es)) ((eq_by_cmp_equiv position_total).refl e.0) in
      (key_of d e.0, subst (λ o. is_some o ≡ true) (sym (stored_at d (e ∷ es) (key_of d e.0) ∙ found)) refl)),
  (λ has. elim b as (λ c. b ≡ c → not c ≡ true) [ true ↦ λ is. absurd (no_length (empty.0 is)) | false ↦ λ is. refl ] refl),
)
