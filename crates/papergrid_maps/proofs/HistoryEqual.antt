-- Maps and spans with the same history of calls are equal.
use Rattle.std.proofs.Common.{◌≡◌, ◌∙◌, sym, ap, Bool, true, List}
use Rattle.std.specs.Prelude.{nat_eq}
use Rattle.std.specs.Cmp.{nat_cmp_total, nat_eq_equiv}
use Rattle.std.specs.FinMap.{nat_cmp-IsAntisymmetric, same_map}
use Rattle.std.proofs.lemmas.Bool.{and_from}
use Rattle.papergrid_values.proofs.KeyLemmas.{exact_positions, position_total}
use Rattle.papergrid_values.proofs.EqualLemmas.{numbers_same, positions_same}
use Rattle.papergrid_maps.specs.MapEq.{stored_eq}
use Rattle.papergrid_maps.specs.StoredMap as maps
use Rattle.papergrid_maps.specs.StoredMap.{Stored}
use Rattle.papergrid_maps.specs.ForProofs.SpanEq.{spans_eq}
use Rattle.papergrid_maps.specs.Spans as spans
use Rattle.papergrid_maps.specs.Spans.{SpanCall, Spans}
use Rattle.papergrid_maps.specs.declared.entity_map.MapCall.{MapCall}
use Rattle.papergrid_maps.proofs.EffectiveCallLemmas.{search_of_history}
use Rattle.papergrid_maps.proofs.MadeTables.{span_history}

-- what a map holds is decided by the calls
pub history_same : {T : Type 0} (given : T) (calls : List (MapCall T)) (m n : Stored T) → maps.HasMapHistory given calls m → maps.HasMapHistory given calls n → m ≡ n
history_same given calls m n history_m history_n =
    let of_m = search_of_history calls given m history_m in
    let of_n = search_of_history calls given n history_n in λ i. record {
      global = (of_m.global ∙ sym of_n.global) i;
      columns = same_map nat_cmp_total nat_cmp-IsAntisymmetric m.columns n.columns (λ c. of_m.columns c ∙ sym (of_n.columns c)) i;
      rows = same_map nat_cmp_total nat_cmp-IsAntisymmetric m.rows n.rows (λ r. of_m.rows r ∙ sym (of_n.rows r)) i;
      cells = same_map position_total exact_positions m.cells n.cells (λ p. of_m.cells p ∙ sym (of_n.cells p)) i;
    }

pub map_histories_equal : {T : Type 0} (eq : T → T → Bool) → ((x : T) → eq x x ≡ true)
    → (given : T) (calls : List (MapCall T)) (m n : Stored T) → maps.HasMapHistory given calls m → maps.HasMapHistory given calls n → stored_eq eq m n ≡ true
map_histories_equal eq same given calls m n history_m history_n =
    ap (stored_eq eq m) (sym (history_same given calls m n history_m history_n))
    ∙ and_from _ _ (same m.global) (and_from _ _ (numbers_same eq same m.columns) (and_from _ _ (numbers_same eq same m.rows) (positions_same eq same m.cells)))

pub span_histories_equal : (calls : List SpanCall) (s t : Spans) → spans.HasSpanHistory calls s → spans.HasSpanHistory calls t → spans_eq s t ≡ true
span_histories_equal calls s t history_s history_t =
    ap (spans_eq s) (span_history calls t history_t ∙ sym (span_history calls s history_s))
    ∙ and_from _ _ (positions_same nat_eq nat_eq_equiv.refl s.columns) (positions_same nat_eq nat_eq_equiv.refl s.rows)
