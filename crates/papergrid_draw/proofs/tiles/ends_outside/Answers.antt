use Rattle.papergrid_draw.proofs.EndLemmas.{shows-skip}
use Rattle.papergrid_draw.proofs.tiles.ends_outside.Goals as goal

pub returns-then-not-overflows-clause-later : goal.returns-then-not-overflows-clause-later
returns-then-not-overflows-clause-later c = λ grid shows. shows-skip grid c.args.sweep.now c.args.anchor.position.row c.args.anchor.position.col shows
