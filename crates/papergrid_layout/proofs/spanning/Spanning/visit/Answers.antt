use Rattle.std.proofs.Common.{◌+◌, arith, inr, refl}
use Rattle.papergrid_layout.proofs.PlacingLemmas.{anchor-own, found-shown, unfound}
use Rattle.papergrid_layout.proofs.SpanningLemmas.{shows-later}
use Rattle.papergrid_layout.proofs.spanning.Spanning.visit.Goals.{else-self-end, then-self-end}
use Rattle.papergrid_layout.proofs.spanning.Spanning.visit.Goals as goal

pub returns-then-position-len-clause-step : goal.returns-then-position-len-clause-step
returns-then-position-len-clause-step c = grind arith

pub returns-then-position-len-clause-later : goal.returns-then-position-len-clause-later
returns-then-position-len-clause-later c = λ table shows.
    let p = c.args.position in
    shows-later table.grid _ p.row p.col p.row (p.col + 1) (inr (refl, omega arith)) shows

pub visible_anchor-requires : goal.visible_anchor-requires
visible_anchor-requires c = record { asked = (c.requires.0.grid, c.requires.3); row_in = omega arith; col_in = omega arith }

pub returns-in_default-clause-step : goal.returns-in_default-clause-step
returns-in_default-clause-step c = grind (arith, unfound)

pub returns-in_default-clause-later : goal.returns-in_default-clause-later
returns-in_default-clause-later c = λ table. c.in_ok-anchor.ensures.later table.grid

pub place_of-requires-clause-marked : goal.place_of-requires-clause-marked
place_of-requires-clause-marked c = (c.requires.0, c.requires.1)

pub returns-in_default-place_of-clause-step : goal.returns-in_default-place_of-clause-step
returns-in_default-place_of-clause-step c = grind (arith, found-shown, anchor-own)

pub returns-in_default-place_of-clause-later : goal.returns-in_default-place_of-clause-later
returns-in_default-place_of-clause-later c = λ table. c.in_ok-anchor.ensures.later table.grid

pub overflow_add-end : goal.overflow_add-end
overflow_add-end c = grind (arith, found-shown, anchor-own)

pub returns-clause-step : goal.returns-clause-step
returns-clause-step c = grind arith

pub returns-clause-later : goal.returns-clause-later
returns-clause-later c = grind (arith, then-self-end, else-self-end)
