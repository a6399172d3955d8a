use Rattle.std.proofs.Common.{arith}
use Rattle.papergrid_layout.proofs.PlaceSums.{next-begin}
use Rattle.papergrid_layout.proofs.ruler.Ruler.number_at.Goals as goal

pub overflow_add-begin : goal.overflow_add-begin
overflow_add-begin g c =
    let next = next-begin _ _ c.args.self.now.count c.loop-i.i c.loop-i.begin c.size.result c.line.result (omega arith) c.loop-i.invariant.reached c.size.ensures c.line.ensures in
    omega (arith, next.1, c.requires.fits)

pub overflow_add-begin-in-loop-i : goal.overflow_add-begin-in-loop-i
overflow_add-begin-in-loop-i g c =
    let next = next-begin _ _ c.args.self.now.count c.loop-i.i c.loop-i.begin c.size.result c.line.result (omega arith) c.loop-i.invariant.reached c.size.ensures c.line.ensures in
    omega (arith, next.1, c.requires.fits)

pub returns-then-point-begin-2 : goal.returns-then-point-begin-2
returns-then-point-begin-2 g c = grind (arith, next-begin)

pub loop-i-preserved : goal.loop-i-preserved
loop-i-preserved g c = grind (arith, next-begin)
