use Rattle.std.proofs.Common.{◌∙◌, ◌≤◌, arith, inl, inr, subst, sym}
use Rattle.std.proofs.lemmas.Bool.{cases_lt, false≢true}
use Rattle.papergrid_maps.proofs.HiddenLemmas.{position-same}
use Rattle.papergrid_layout.specs.Places.{StandsOver, table_by}
use Rattle.papergrid_layout.proofs.point.Point.first_in_row.Goals as goal

pub loop-col-preserved : goal.loop-col-preserved
loop-col-preserved g c = λ q same below over.
    let point = c.args.self.now in
    elim (cases_lt q.col c.loop-col.col) [
      | inl left ↦ c.loop-col.invariant q same left over
      | inr from ↦ false≢true (sym c.if-is_under.false ∙ c.is_under.ensures.1
          (subst (StandsOver (table_by point.config.now (g.D.Dimension.width_of point.dimension.now) (g.D.Dimension.height_of point.dimension.now) point.shape) point.column point.line)
          (position-same q (record { row = c.args.row; col = c.loop-col.col }) same (omega arith)) over))
    ]

pub returns-else-is_under : goal.returns-else-is_under
returns-else-is_under g c = λ q same over.
    let point = c.args.self.now in
    let last : q.col ≤ point.within.col = (c.requires.reach q over).after_left in
    elim (cases_lt q.col c.loop-col.col) [
      | inl left ↦ c.loop-col.invariant q same left over
      | inr from ↦ false≢true (sym c.if-is_under.false ∙ c.is_under.ensures.1
          (subst (StandsOver (table_by point.config.now (g.D.Dimension.width_of point.dimension.now) (g.D.Dimension.height_of point.dimension.now) point.shape) point.column point.line)
          (position-same q (record { row = c.args.row; col = c.loop-col.col }) same (omega arith)) over))
    ]
