use Rattle.std.proofs.Common.{◌∙◌, sym, arith}
use Rattle.papergrid_draw.proofs.CrossingLemmas.{fitted-turn, none-past, none-without}
use Rattle.papergrid_draw.proofs.crossings.Line.fit.Goals as goal

pub returns-then-not-has_horizontal : goal.returns-then-not-has_horizontal
returns-then-not-has_horizontal c =
    let line = c.args.self.now in
    fitted-turn line.config.now line.shape c.args.junctions.now line.row 0 c.args.settings.now.items
    (λ k _ seen. none-without line.config.now line.shape c.args.junctions.now line.row k (sym c.has_horizontal.ensures.test ∙ c.if-not-has_horizontal.true) seen)
    c.requires.fitted

pub returns : goal.returns
returns c =
    let line = c.args.self.now in
    fitted-turn line.config.now line.shape c.args.junctions.now line.row c.loop-column.column c.loop-column.settings.items
    (λ k past seen. none-past line.config.now line.shape c.args.junctions.now line.row k (omega (arith, past, c.loop-column-test.false)) seen) c.loop-column.invariant
