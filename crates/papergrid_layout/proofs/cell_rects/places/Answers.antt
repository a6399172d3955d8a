use Rattle.std.proofs.Common.{inl, inr, refl, arith}
use Rattle.std.proofs.lemmas.Bool.{false≢true}
use Rattle.std.specs.Prelude.{All}
use Rattle.std.proofs.lemmas.Result.{IfErr-weaker, IfOk-weaker}
use Rattle.papergrid_layout.specs.Places.{EndsWithin, HaveAllPlaces, table_by}
use Rattle.papergrid_layout.proofs.PlacingLemmas.{all-end-within, first-shown, none-placed}
use Rattle.papergrid_layout.proofs.cell_rects.places.Goals.{then-rows-eq0-via-else-rows-eq0+then-columns-eq0, then-rows-eq0-via-then-rows-eq0}
use Rattle.papergrid_layout.proofs.cell_rects.places.Goals as goal

pub returns-then-rows-eq0-clause-ok : goal.returns-then-rows-eq0-clause-ok
returns-then-rows-eq0-clause-ok g c = grind (arith, none-placed, then-rows-eq0-via-then-rows-eq0, then-rows-eq0-via-else-rows-eq0+then-columns-eq0)

pub returns-then-rows-eq0-clause-within : goal.returns-then-rows-eq0-clause-within
returns-then-rows-eq0-clause-within g c = grind (arith, all-end-within, returns-then-rows-eq0-clause-ok)

pub unreachable-requires : goal.unreachable-requires
unreachable-requires g c = grind (arith, false≢true, first-shown)

pub visit_rows-requires : goal.visit_rows-requires
visit_rows-requires g c = grind arith

pub returns-clause-err : goal.returns-clause-err
returns-clause-err g c = grind (arith, IfErr-weaker)

pub returns-clause-ok : goal.returns-clause-ok
returns-clause-ok g c =
    let table = table_by c.args.config.now (g.D.Dimension.width_of c.args.dimension.now) (g.D.Dimension.height_of c.args.dimension.now) c.args.shape in
    IfOk-weaker c.visit_rows.result _ (λ places. HaveAllPlaces table places.items) (λ places have. have table refl c.in_ok-placing.ensures) c.visit_rows.ensures.ok

pub returns-clause-within : goal.returns-clause-within
returns-clause-within g c =
    let table = table_by c.args.config.now (g.D.Dimension.width_of c.args.dimension.now) (g.D.Dimension.height_of c.args.dimension.now) c.args.shape in
    IfOk-weaker c.visit_rows.result (λ places. HaveAllPlaces table places.items) (λ places. All (λ x. EndsWithin table x.1) places.items)
    (λ places have. all-end-within table places.items have) (returns-clause-ok g c)

pub returns-clause-empty : goal.returns-clause-empty
returns-clause-empty g c = λ empty. absurd (elim empty [ inl e ↦ c.if-rows-eq0.false e | inr e ↦ c.if-columns-eq0.false e ])
