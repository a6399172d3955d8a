-- Equality of maps, and of tables of spans, is agreement of what they hold.
use Rattle.std.proofs.Common.{◌≡◌, ℕ, Bool, true, Option, Some, None, refl, ap, subst}
use Rattle.std.specs.Prelude.{◌↔◌, nat_eq}
use Rattle.std.specs.Cmp.{nat_eq_equiv}
use Rattle.std.specs.FinMap.{get}
use Rattle.std.specs.Option.{option_eq}
use Rattle.std.proofs.lemmas.Bool.{and_from, and_parts, eqb-true, false≢true}
use Rattle.papergrid_values.specs.declared.direction.Direction.{Direction}
use Rattle.papergrid_values.specs.declared.direction.Direction.TheVariants.{Columns, Rows}
use Rattle.papergrid_values.specs.declared.entity.Entity.TheVariants.{Global, Column, Row, Cell}
use Rattle.papergrid_values.specs.declared.position.Position.{Position}
use Rattle.papergrid_values.specs.Equal.{numbers_eq, positions_eq}
use Rattle.papergrid_values.proofs.EqualLemmas.{numbers_agree, option_same, positions_agree}
use Rattle.papergrid_maps.specs.StoredSame.{HoldTheSameSpans, HoldTheSameValues}
use Rattle.papergrid_maps.specs.MapEq.{stored_eq}
use Rattle.papergrid_maps.specs.StoredMap.{Stored}
use Rattle.papergrid_maps.specs.ForProofs.SpanEq.{spans_eq}
use Rattle.papergrid_maps.specs.Spans.{Spans, spans_along}

module _ {T : Type 0} (eq : T → T → Bool) (m n : Stored T) where
  by_entity : eq m.global n.global ≡ true → numbers_eq eq m.columns n.columns ≡ true → numbers_eq eq m.rows n.rows ≡ true → positions_eq eq m.cells n.cells ≡ true
      → HoldTheSameValues eq m n
  by_entity global columns rows cells Global = global
  by_entity global columns rows cells (Column c) = (numbers_agree eq m.columns n.columns).0 columns c
  by_entity global columns rows cells (Row r) = (numbers_agree eq m.rows n.rows).0 rows r
  by_entity global columns rows cells (Cell r c) = (positions_agree eq m.cells n.cells).0 cells (record { row = r; col = c })

  pub maps_agree : (stored_eq eq m n ≡ true) ↔ HoldTheSameValues eq m n
  maps_agree = (
    λ h.
        let a = and_parts _ _ h in
        let b = and_parts _ _ a.1 in
        let c = and_parts _ _ b.1 in
        by_entity a.0 b.0 c.0 c.1,
    λ same.
        and_from _ _ (same Global)
        (and_from _ _ ((numbers_agree eq m.columns n.columns).1 (λ c. same (Column c)))
        (and_from _ _ ((numbers_agree eq m.rows n.rows).1 (λ r. same (Row r))) ((positions_agree eq m.cells n.cells).1 (λ p. same (Cell p.row p.col))))),
  )

-- spans of the same position
same_span : (a b : Option ℕ) → option_eq nat_eq a b ≡ true → a ≡ b
same_span None None h = refl
same_span None (Some n) h = absurd (false≢true h)
same_span (Some m) None h = absurd (false≢true h)
same_span (Some m) (Some n) h = ap Some (eqb-true m n h)

pub spans_agree : (s t : Spans) → (spans_eq s t ≡ true) ↔ HoldTheSameSpans s t
spans_agree s t = (there, back)
  where
    there : spans_eq s t ≡ true → HoldTheSameSpans s t
    there h Columns p = same_span (get s.columns p) (get t.columns p) ((positions_agree nat_eq s.columns t.columns).0 (and_parts _ _ h).0 p)
    there h Rows p = same_span (get s.rows p) (get t.rows p) ((positions_agree nat_eq s.rows t.rows).0 (and_parts _ _ h).1 p)

    equal : (d : Direction) → HoldTheSameSpans s t → (p : Position) → option_eq nat_eq (get (spans_along d s) p) (get (spans_along d t) p) ≡ true
    equal d same p = subst (λ o. option_eq nat_eq (get (spans_along d s) p) o ≡ true) (same d p) (option_same nat_eq nat_eq_equiv.refl (get (spans_along d s) p))

    back : HoldTheSameSpans s t → spans_eq s t ≡ true
    back same = and_from _ _ ((positions_agree nat_eq s.columns t.columns).1 (equal Columns same)) ((positions_agree nat_eq s.rows t.rows).1 (equal Rows same))
