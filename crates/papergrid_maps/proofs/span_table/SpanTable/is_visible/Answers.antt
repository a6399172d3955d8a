use Rattle.std.proofs.Common.{rules, refl, sym, ◌∙◌, arith}
use Rattle.std.proofs.lemmas.Bool.{true≢false}
use Rattle.papergrid_values.proofs.ResultLemmas.{same_answer}
use Rattle.papergrid_maps.proofs.SpanHidden.{hidden_right, hidden_below, not_visible}
use Rattle.papergrid_maps.specs.ForProofs.SpanVisible.{visible_test, visible_without_spans}
use Rattle.papergrid_maps.proofs.span_table.SpanTable.is_visible.Goals as goal

pub returns-then-not-has_rows-clause-visible : goal.returns-then-not-has_rows-clause-visible
returns-then-not-has_rows-clause-visible c = (
  (λ _. visible_without_spans c.args.self.now c.args.position
      (λ wide. true≢false (sym (c.has_columns.ensures.1 wide) ∙ c.if-not-has_columns.true))
      (λ tall. true≢false (sym (c.has_rows.ensures.1 tall) ∙ c.if-not-has_rows.true))),
  (λ _. refl),
)

pub returns-then-not-has_rows-clause-test : goal.returns-then-not-has_rows-clause-test
returns-then-not-has_rows-clause-test c = same_answer _ _ (returns-then-not-has_rows-clause-visible c) (visible_test c.args.self.now c.args.position).1

pub returns-then-covered_by_column-clause-visible : goal.returns-then-covered_by_column-clause-visible
returns-then-covered_by_column-clause-visible c = grind (arith, not_visible, hidden_right)

pub returns-then-covered_by_row-clause-visible : goal.returns-then-covered_by_row-clause-visible
returns-then-covered_by_row-clause-visible c = grind (arith, not_visible, hidden_below)

pub returns-clause-test : goal.returns-clause-test
returns-clause-test c = same_answer _ _ (search rules) (visible_test c.args.self.now c.args.position).1
