use Rattle.std.proofs.Common.{◌∙◌, ap, map, subst, sym}
use Rattle.papergrid_values.specs.declared.position.Position.{Position}
use Rattle.papergrid_draw.specs.Tiles.{IsFirstPosition}
use Rattle.papergrid_csv.specs.Judging.{IsFieldHidden, first_missing}
use Rattle.papergrid_csv.specs.Requests.{first_row}
use Rattle.papergrid_csv.specs.Rows.{row_texts}
use Rattle.papergrid_csv.proofs.run.judged.Goals as goal

pub returns-then-request : goal.returns-then-request
returns-then-request c = record {
  named = ap (λ rows. first_missing (first_row (map row_texts rows)) c.args.request.now.columns.items) (sym c.deref.ensures.value)
      ∙ ap (first_missing (first_row (map row_texts c.deref.result.now))) (sym c.deref-2.ensures.value) ∙ sym c.first_missing.ensures ∙ c.in_default.is;
  seen = λ forbidden. absurd (let none : ⊥ = cc in none);
}

pub returns-in-Some-first_hidden : goal.returns-in-Some-first_hidden
returns-in-Some-first_hidden c = (
  ap (λ rows. first_missing (first_row (map row_texts rows)) c.args.request.now.columns.items) (sym c.deref.ensures.value)
      ∙ ap (first_missing (first_row (map row_texts c.deref.result.now))) (sym c.deref-2.ensures.value) ∙ sym c.first_missing.ensures ∙ c.in_default.is,
  c.if-request.false,
  subst (λ rows. IsFirstPosition (IsFieldHidden c.args.request.now.spans.items (map row_texts rows)) c.in-Some-first_hidden.position) c.deref-3.ensures.value
      (subst (λ spans. IsFirstPosition (IsFieldHidden spans (map row_texts c.deref-3.result.now)) c.in-Some-first_hidden.position) c.deref-4.ensures.value c.in-Some-first_hidden.ensures),
)

pub returns-in-None : goal.returns-in-None
returns-in-None c = record {
  named = ap (λ rows. first_missing (first_row (map row_texts rows)) c.args.request.now.columns.items) (sym c.deref.ensures.value)
      ∙ ap (first_missing (first_row (map row_texts c.deref.result.now))) (sym c.deref-2.ensures.value) ∙ sym c.first_missing.ensures ∙ c.in_default.is;
  seen = λ _.
      subst (λ rows. (p : Position) → IsFieldHidden c.args.request.now.spans.items (map row_texts rows) p → ⊥) c.deref-3.ensures.value
      (subst (λ spans. (p : Position) → IsFieldHidden spans (map row_texts c.deref-3.result.now) p → ⊥) c.deref-4.ensures.value c.in-None.ensures);
}
