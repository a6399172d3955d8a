-- The spans that calls make have them as their history, and no others do.
use Rattle.std.proofs.Common.{◌≡◌, Bool, true, false, cond, ◌&&◌, List, [], ◌∷◌, refl, sym, ap, ◌∙◌, leb, arith}
use Rattle.std.specs.Prelude.{◌||◌, flat_map, reverse, is_some}
use Rattle.std.specs.List.{list_any}
use Rattle.std.specs.Ordering.{eq_by_cmp}
use Rattle.std.specs.FinMap.{same_map}
use Rattle.std.proofs.lemmas.Bool.{false≢true, or_left, or_right}
use Rattle.papergrid_values.specs.declared.position.Position.{Position}
use Rattle.papergrid_values.specs.MapKeys.{position_cmp, position_eq}
use Rattle.papergrid_values.proofs.KeyLemmas.{exact_positions, position_equiv, position_ties, position_total, exact_position}
use Rattle.papergrid_values.proofs.TabulatedLemmas.{tabulates}
use Rattle.papergrid_maps.proofs.Made.{named_anchors, spans_made}
use Rattle.papergrid_maps.specs.Spans as spans
use Rattle.papergrid_values.specs.declared.direction.Direction.{Direction}
use Rattle.papergrid_values.specs.declared.direction.Direction.TheVariants.{Columns, Rows}
use Rattle.papergrid_maps.specs.Spans.{RemoveSpans, SetSpan, SpanCall, Spans, from_two, is_same_direction, spans_along}
use Rattle.papergrid_maps.proofs.SpanSearch.{effective_span, span_from}
use Rattle.papergrid_maps.proofs.EffectiveSpanLemmas.{history_of_spans, spans_of_history}
use Rattle.std.specs.FinMap.{get}

-- an anchor whose span is not 1 is named
anchor_named : (d : Direction) (q : Position) (older : List SpanCall) → is_some (from_two (span_from d q older)) ≡ true → list_any (eq_by_cmp position_cmp q) (flat_map named_anchors older) ≡ true
anchor_named d q [] h = absurd (false≢true h)
anchor_named d q (RemoveSpans e ∷ older) h = grind (arith, span_from, named_anchors, false≢true, anchor_named d q older)
anchor_named d q (SetSpan e p n ∷ older) h =
    elim (position_eq p q) as (λ b. position_eq p q ≡ b → is_some (from_two (cond (is_same_direction e d && (leb 1 n && b)) n (span_from d q older))) ≡ true
    → (eq_by_cmp position_cmp q p || list_any (eq_by_cmp position_cmp q) (flat_map named_anchors older)) ≡ true) [
      | true ↦ λ here _. or_left _ _ (sym (position_ties q p) ∙ position_equiv.symm q p ∙ here)
      | false ↦ λ apart set. or_right _ _ (anchor_named d q older (ap (λ b. is_some (from_two (cond b n (span_from d q older)))) (sym (never_both (is_same_direction e d) (leb 1 n))) ∙ set))
    ] refl h
  where
    never_both : (a b : Bool) → (a && (b && false)) ≡ false
    never_both true true = refl
    never_both true false = refl
    never_both false b = refl

made_spans : (calls : List SpanCall) (d : Direction) (p : Position) → get (spans_along d (spans_made calls)) p ≡ from_two (effective_span d p calls)
made_spans calls Columns p = tabulates position_total exact_position (λ p. from_two (effective_span Columns p calls)) (flat_map named_anchors (reverse calls)) (λ q. anchor_named Columns q (reverse calls)) p
made_spans calls Rows p = tabulates position_total exact_position (λ p. from_two (effective_span Rows p calls)) (flat_map named_anchors (reverse calls)) (λ q. anchor_named Rows q (reverse calls)) p

pub spans_made_history : (calls : List SpanCall) → spans.HasSpanHistory calls (spans_made calls)
spans_made_history calls = history_of_spans calls (spans_made calls) (made_spans calls)

pub span_history : (calls : List SpanCall) (stored : Spans) → spans.HasSpanHistory calls stored → stored ≡ spans_made calls
span_history calls stored told =
    let same : (d : Direction) (p : Position) → get (spans_along d stored) p ≡ get (spans_along d (spans_made calls)) p
    = λ d p. spans_of_history calls stored told d p ∙ sym (made_spans calls d p) in
    λ i. record {
      columns = same_map position_total exact_positions stored.columns (spans_made calls).columns (same Columns) i;
      rows = same_map position_total exact_positions stored.rows (spans_made calls).rows (same Rows) i;
    }
