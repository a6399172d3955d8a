use Rattle.std.proofs.Common.{rules, of_calls, ◌≡◌, ℕ, ◌-◌, ◌<◌, get_or, length, ap, sym, ◌∙◌, arith, inl, inr, ltb}
use Rattle.std.proofs.lemmas.Bool.{cases_eq, cases_lt, ltb-true, ltb-false}
use Rattle.std.proofs.lemmas.List.{get_or_default}
use Rattle.std.proofs.lemmas.List.Folds.{list_any_none}
use Rattle.std.proofs.lemmas.List.Sorted.{IsPartitionPoint-from_clause, IsPartitionedBy-ltb}
use Rattle.papergrid_values.specs.declared.position.Position.{Position}
use Rattle.papergrid_values.specs.Positions.{along}
use Rattle.papergrid_maps.proofs.CoverLemmas.{never_falls, none_before, none_past}
use Rattle.papergrid_maps.proofs.covering.covers_one.Goals as goal

abbrev no_position : Position
no_position = record { row = 0; col = 0 }

pub loop-i-init : goal.loop-i-init
loop-i-init c =
    let number : Position → ℕ = along c.args.direction in
    let parted = IsPartitionedBy-ltb number c.args.positions.now c.number_of-start.result (never_falls c.args.direction c.args.positions.now c.requires) in
    let point = IsPartitionPoint-from_clause (λ p. ltb (number p) c.number_of-start.result) _ _ c.partition_point-first.ensures.partitioned parted (λ a r q k. search (rules, of_calls)) in (
      λ k p l. none_before c.args.anchor c.args.columns c.args.rows (get_or c.args.positions.now k p) c.args.direction
          (let before = ltb-true (number (get_or c.args.positions.now k p)) c.number_of-start.result (point.0 k p (omega arith) l) in
          let start = c.number_of-start.ensures in omega arith),
      λ k p le l.
          let past = ltb-false (number (get_or c.args.positions.now k p)) c.number_of-start.result (point.1 k p le l) in
          let start = c.number_of-start.ensures in omega arith,
    )

pub loop-i-preserved : goal.loop-i-preserved
loop-i-preserved c = grind (arith, cases_eq, get_or_default)

pub returns-then-number_of-start : goal.returns-then-number_of-start
returns-then-number_of-start c =
    let number : Position → ℕ = along c.args.direction in
    let span : c.number_of-span.result ≡ along c.args.direction (record { row = c.args.rows; col = c.args.columns }) = c.number_of-span.ensures ∙ ap (along c.args.direction) c.new.ensures in
    sym (list_any_none _ _ (λ k p (l : k < length c.args.positions.now). elim (cases_lt k c.loop-i.i) [
      | inl before ↦ c.loop-i.invariant.0 k p before
      | inr after ↦ none_past c.args.anchor c.args.columns c.args.rows (get_or c.args.positions.now k p) c.args.direction (elim (cases_eq k c.loop-i.i) [
        | inl e ↦ rw (e, get_or_default c.args.positions.now c.loop-i.i p no_position c.loop-i-test.true) (omega arith)
        | inr ne ↦
            let same : number (get_or c.args.positions.now c.loop-i.i p) ≡ number (get_or c.args.positions.now c.loop-i.i no_position) = ap number (get_or_default c.args.positions.now c.loop-i.i p no_position c.loop-i-test.true) in
            omega (arith, c.requires c.loop-i.i k p (omega arith) l)
      ])
    ]))

pub returns : goal.returns
returns c = sym (list_any_none _ _ (λ k p (l : k < length c.args.positions.now). c.loop-i.invariant.0 k p (omega (arith, c.loop-i-test.false))))
