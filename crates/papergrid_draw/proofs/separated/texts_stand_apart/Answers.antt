use Rattle.papergrid_draw.proofs.ApartLemmas.{or-first, or-second, tested-all}
use Rattle.papergrid_draw.proofs.separated.texts_stand_apart.Goals as goal

pub returns-then-apart : goal.returns-then-apart
returns-then-apart c = λ d same.
    or-first c.in_ok-apart.apart.before c.in_ok-apart.apart.after c.if-apart.true
    (tested-all d c.args.table.now c.in_ok-apart.apart same c.in_ok-apart.ensures)

pub returns-else-apart : goal.returns-else-apart
returns-else-apart c = λ d same.
    or-second c.in_ok-apart.apart.before c.in_ok-apart.apart.after c.if-apart.false
    (tested-all d c.args.table.now c.in_ok-apart.apart same c.in_ok-apart.ensures)
