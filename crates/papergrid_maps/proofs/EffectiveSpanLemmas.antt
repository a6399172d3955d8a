-- Which call decides the span of a position.
use Rattle.std.proofs.Common.{◌≡◌, ◌∙◌, ℕ, suc, ◌≤◌, Bool, true, false, cond, List, [], ◌∷◌, ◌++◌, refl, sym, ap, subst, append_assoc, append-nil, arith}
use Rattle.std.specs.Prelude.{reverse}
use Rattle.std.proofs.lemmas.Bool.{and_from, and_parts, false≢true, le-leb, leb-true}
use Rattle.std.proofs.lemmas.List.{reverse-append, reverse-reverse}
use Rattle.std.proofs.lemmas.List.Elements.{All-append, All-cons}
use Rattle.papergrid_values.specs.declared.direction.Direction.{Direction}
use Rattle.papergrid_values.specs.declared.direction.Direction.TheVariants.{Columns, Rows}
use Rattle.papergrid_values.specs.declared.position.Position.{Position}
use Rattle.papergrid_values.proofs.KeyLemmas.{exact_position_eq, position_equiv}
use Rattle.papergrid_maps.specs.Spans.{ByNone, ByRemoval, BySet, HasSpanHistory, IsEffectiveSpan, NoneDecides, RemoveSpans, SetSpan, SpanCall, Spans, decides_span, from_two, is_same_direction, spans_along}
use Rattle.papergrid_maps.proofs.SpanSearch.{effective_span, span_from}
use Rattle.std.specs.FinMap.{get}

same_itself : (d : Direction) → is_same_direction d d ≡ true
same_itself Columns = refl
same_itself Rows = refl

same_direction : (e d : Direction) → is_same_direction e d ≡ true → e ≡ d
same_direction Columns Columns h = refl
same_direction Columns Rows h = absurd (false≢true h)
same_direction Rows Columns h = absurd (false≢true h)
same_direction Rows Rows h = refl

module _ (d : Direction) (p : Position) where
  newest_last : (call : SpanCall) (older : List SpanCall) → reverse (call ∷ older) ≡ reverse older ++ call ∷ []
  newest_last call older = reverse-append (call ∷ []) older

  no_call : NoneDecides d p []
  no_call k e less = absurd (omega arith)

  -- ---- what the calls decide, from what is said by index

  step : (call : SpanCall) (older : List SpanCall) → decides_span d p call ≡ false → span_from d p (call ∷ older) ≡ span_from d p older
  step (SetSpan e q n) older none = ap (λ b. cond b n (span_from d p older)) none
  step (RemoveSpans e) older none = ap (λ b. cond b 1 (span_from d p older)) none

  skip : (after older : List SpanCall) → NoneDecides d p after → span_from d p (reverse after ++ older) ≡ span_from d p older
  skip [] older none = refl
  skip (call ∷ after) older none =
      ap (λ cs. span_from d p (cs ++ older)) (newest_last call after)
      ∙ ap (span_from d p) (append_assoc (reverse after) (call ∷ []) older)
      ∙ skip after (call ∷ older) (λ k e less. none (suc k) e (omega (arith, less)))
      ∙ step call older (none 0 call (omega arith))

  by_index : (calls before after : List SpanCall) (call : SpanCall) → calls ≡ before ++ call ∷ after → NoneDecides d p after
      → effective_span d p calls ≡ span_from d p (call ∷ reverse before)
  by_index calls before after call is none = grind (arith, span_from, reverse-append, newest_last, append_assoc, skip)

  itself : (n : ℕ) → 1 ≤ n → decides_span d p (SetSpan d p n) ≡ true
  itself n big = and_from _ _ (same_itself d) (and_from _ _ (le-leb 1 n big) (position_equiv.refl p))

  pub IsEffectiveSpan-only : (calls : List SpanCall) (n : ℕ) → IsEffectiveSpan d p calls n → n ≡ effective_span d p calls
  IsEffectiveSpan-only calls _ (BySet n before after big is none) =
      sym (by_index calls before after (SetSpan d p n) is none ∙ ap (λ b. cond b n (span_from d p (reverse before))) (itself n big))
  IsEffectiveSpan-only calls _ (ByRemoval before after is none) =
      sym (by_index calls before after (RemoveSpans d) is none ∙ ap (λ b. cond b 1 (span_from d p (reverse before))) (same_itself d))
  IsEffectiveSpan-only calls _ (ByNone none) =
      sym (ap (span_from d p) (sym (append-nil (reverse calls))) ∙ skip calls [] none)

  -- ---- what is said by index, from what the calls decide

  one_more : (after : List SpanCall) (call : SpanCall) → decides_span d p call ≡ false → NoneDecides d p after → NoneDecides d p (after ++ call ∷ [])
  one_more after call keeps none = All-append (λ other. decides_span d p other ≡ false) after (call ∷ []) none (All-cons (λ other. decides_span d p other ≡ false) call [] keeps no_call)

  more : (calls : List SpanCall) (call : SpanCall) (n : ℕ) → decides_span d p call ≡ false → IsEffectiveSpan d p calls n → IsEffectiveSpan d p (calls ++ call ∷ []) n
  more calls call _ keeps (BySet n before after big is none) =
      BySet n before (after ++ call ∷ []) big (ap (λ cs. cs ++ call ∷ []) is ∙ append_assoc before (SetSpan d p n ∷ after) (call ∷ [])) (one_more after call keeps none)
  more calls call _ keeps (ByRemoval before after is none) =
      ByRemoval before (after ++ call ∷ []) (ap (λ cs. cs ++ call ∷ []) is ∙ append_assoc before (RemoveSpans d ∷ after) (call ∷ [])) (one_more after call keeps none)
  more calls call _ keeps (ByNone none) = ByNone (one_more calls call keeps none)

  set_last : (e : Direction) (q : Position) (n : ℕ) (older : List SpanCall) → IsEffectiveSpan d p (reverse older) (span_from d p older)
      → (b : Bool) → decides_span d p (SetSpan e q n) ≡ b → IsEffectiveSpan d p (reverse older ++ SetSpan e q n ∷ []) (cond b n (span_from d p older))
  set_last e q n older rest true is =
      let first = and_parts _ _ is in
      let second = and_parts _ _ first.1 in
      let direction = same_direction e d first.0 in
      let position = exact_position_eq q p second.1 in
      BySet n (reverse older) [] (leb-true 1 n second.0) (λ i. reverse older ++ SetSpan (direction i) (position i) n ∷ []) no_call
  set_last e q n older rest false is = more (reverse older) (SetSpan e q n) _ is rest

  remove_last : (e : Direction) (older : List SpanCall) → IsEffectiveSpan d p (reverse older) (span_from d p older)
      → (b : Bool) → decides_span d p (RemoveSpans e) ≡ b → IsEffectiveSpan d p (reverse older ++ RemoveSpans e ∷ []) (cond b 1 (span_from d p older))
  remove_last e older rest true is =
      ByRemoval (reverse older) [] (λ i. reverse older ++ RemoveSpans ((same_direction e d is) i) ∷ []) no_call
  remove_last e older rest false is = more (reverse older) (RemoveSpans e) _ is rest

  of_newest : (newest_first : List SpanCall) → IsEffectiveSpan d p (reverse newest_first) (span_from d p newest_first)
  of_newest [] = ByNone no_call
  of_newest (SetSpan e q n ∷ older) = grind (arith, span_from, newest_last, set_last, of_newest older)
  of_newest (RemoveSpans e ∷ older) = grind (arith, span_from, newest_last, remove_last, of_newest older)

  pub effective_span-IsEffectiveSpan : (calls : List SpanCall) → IsEffectiveSpan d p calls (effective_span d p calls)
  effective_span-IsEffectiveSpan calls = subst (λ cs. IsEffectiveSpan d p cs (span_from d p (reverse calls))) (reverse-reverse calls) (of_newest (reverse calls))

-- ---- what is stored, by the search

pub spans_of_history : (calls : List SpanCall) (stored : Spans) → HasSpanHistory calls stored → (d : Direction) (p : Position) → get (spans_along d stored) p ≡ from_two (effective_span d p calls)
spans_of_history calls stored told d p = told d p (effective_span d p calls) (effective_span-IsEffectiveSpan d p calls)

pub history_of_spans : (calls : List SpanCall) (stored : Spans) → ((d : Direction) (p : Position) → get (spans_along d stored) p ≡ from_two (effective_span d p calls)) → HasSpanHistory calls stored
history_of_spans calls stored is d p n effective = is d p ∙ ap from_two (sym (IsEffectiveSpan-only d p calls n effective))
