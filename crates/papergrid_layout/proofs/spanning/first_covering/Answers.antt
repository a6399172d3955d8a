use Rattle.std.proofs.Common.{rules, of_calls, ◌≡◌, ℕ, ◌+◌, ◌<◌, ◌∙◌, arith, get_or, inl, inr, subst, ap, sym, leb}
use Rattle.std.proofs.lemmas.Bool.{cases_lt, false≢true, leb-true}
use Rattle.std.proofs.lemmas.List.Sorted.{IsPartitionPoint-from_clause, IsPartitionedBy-leb}
use Rattle.std.proofs.lemmas.List.{get_or_default}
use Rattle.papergrid_layout.specs.Places.{Covers}
use Rattle.papergrid_layout.specs.declared.spanning.SpanningCell.{SpanningCell}
use Rattle.papergrid_layout.proofs.SpanningLemmas.{first-found, none-ended, none-from}
use Rattle.papergrid_layout.proofs.spanning.first_covering.Goals as goal

abbrev reach_of : SpanningCell → ℕ
reach_of cell = cell.reach

pub loop-i-init : goal.loop-i-init
loop-i-init c = λ k d l.
    let cells = c.args.cells.now in
    let parted = IsPartitionedBy-leb reach_of cells c.args.row c.requires.1.rising in
    let point = IsPartitionPoint-from_clause (λ cell. leb (reach_of cell) c.args.row) _ _ c.partition_point-first.ensures.partitioned parted (λ a r q j. search (rules, of_calls)) in
    none-ended c.requires.0 c.args.row c.args.column c.args.line cells c.requires.1 c.requires.2 k d (omega (arith, l, c.partition_point-first.ensures.bound))
    (leb-true (get_or cells k d).reach c.args.row (point.0 k d (omega arith) l))

abbrev no_cell : SpanningCell
no_cell = record { position = record { row = 0; col = 0 }; place = record { left = 0; top = 0; width = 0; height = 0 }; reach = 0 }

pub returns-then-cell-row : goal.returns-then-cell-row
returns-then-cell-row c = λ k d l. elim (cases_lt k c.loop-i.i) [
  | inl before ↦ c.loop-i.invariant k d before
  | inr from ↦
      none-from c.requires.0 c.args.row c.args.column c.args.line c.args.cells.now c.requires.1 c.requires.2 c.loop-i.i k no_cell d from l c.if-cell-row.true
]

pub returns-then-covers : goal.returns-then-covers
returns-then-covers c =
    first-found c.requires.0 c.args.row c.args.column c.args.line c.args.cells.now c.requires.1 c.requires.2 c.loop-i.i no_cell c.loop-i-test.true
    c.loop-i.invariant (c.covers.ensures.0 c.if-covers.true)

pub loop-i-preserved : goal.loop-i-preserved
loop-i-preserved c = λ k d (l : k < c.loop-i.i + 1). elim (cases_lt k c.loop-i.i) [
  | inl before ↦ c.loop-i.invariant k d before
  | inr from ↦ λ covers.
      let cells = c.args.cells.now in
      let at : k ≡ c.loop-i.i = omega arith in
      let own : get_or cells k d ≡ get_or cells c.loop-i.i no_cell = ap (λ j. get_or cells j d) at ∙ get_or_default cells c.loop-i.i d no_cell c.loop-i-test.true in
      false≢true (sym c.if-covers.false ∙ c.covers.ensures.1 (subst (λ (a : SpanningCell). Covers a.place c.args.column c.args.line) own covers))
]
