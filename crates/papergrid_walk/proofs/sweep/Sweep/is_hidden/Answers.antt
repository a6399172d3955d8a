use Rattle.std.proofs.Common.{sym, subst, ◌<◌}
use Rattle.papergrid_walk.proofs.HiddenLemmas.{hidden-at}
use Rattle.papergrid_walk.proofs.sweep.Sweep.is_hidden.Goals as goal

pub returns-clause-hidden : goal.returns-clause-hidden
returns-clause-hidden c =
    rw (← c.self.view_is)
    (hidden-at c.advance-self-inside.new.max_tree c.self.inside.columns c.as_slice.result.now _ c.advance-self-inside.result c.args.position _
    c.as_slice.ensures.value c.self.invariant.sorted c.advance-self-inside.ensures.holds c.advance-self-inside.ensures.before c.advance-self-inside.ensures.rest
    c.requires.row_in (subst (λ w. c.args.position.col < w.columns) (sym c.self.view_is) c.requires.col_in) c.end_at.ensures)
