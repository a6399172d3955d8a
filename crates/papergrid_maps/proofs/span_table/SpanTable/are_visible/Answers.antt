use Rattle.std.proofs.Common.{◌∙◌, inl, inr, refl, sym}
use Rattle.std.proofs.lemmas.Bool.{cases_Bool, false≢true, true≢false}
use Rattle.papergrid_maps.proofs.CoverLemmas.{all_visible, hidden_tall, hidden_wide}
use Rattle.papergrid_maps.proofs.span_table.SpanTable.are_visible.Goals as goal

pub returns-then-covers_one : goal.returns-then-covers_one
returns-then-covers_one c =
    rw (← c.self.view_is) (
      λ t. absurd (false≢true t),
      λ all. absurd (hidden_wide c.self.inside.columns c.self.inside.rows c.self.invariant.0 c.self.invariant.1 c.args.positions.now (c.covers_one.ensures.0 c.if-covers_one.true) all),
    )

pub returns : goal.returns
returns c =
    let columns = c.self.inside.columns in
    let rows = c.self.inside.rows in
    elim (cases_Bool c.covers_one-2.result) [
      | inl t ↦ rw (t, ← c.self.view_is) (
        λ e. absurd (false≢true e),
        λ all. absurd (hidden_tall columns rows c.self.invariant.0 c.self.invariant.1 c.args.positions.now (c.covers_one-2.ensures.0 t) all),
      )
      | inr f ↦ rw (f, ← c.self.view_is) (
        λ t. all_visible columns rows c.self.invariant.0 c.self.invariant.1 c.args.positions.now
            (λ h. true≢false (sym (c.covers_one.ensures.1 h) ∙ c.if-covers_one.false)) (λ h. true≢false (sym (c.covers_one-2.ensures.1 h) ∙ f)),
        λ all. refl,
      )
    ]
