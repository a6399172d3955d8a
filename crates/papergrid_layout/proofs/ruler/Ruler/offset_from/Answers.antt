use Rattle.std.proofs.Common.{◌≡◌, ◌+◌, arith, refl}
use Rattle.papergrid_layout.proofs.PlaceSums.{next-begin, none-of}
use Rattle.papergrid_layout.proofs.ruler.Ruler.offset_from.Goals as goal

pub returns-in_err-offset : goal.returns-in_err-offset
returns-in_err-offset g c =
    let next = next-begin _ _ c.args.end c.loop-i.i c.loop-i.offset c.size.result _ (omega arith) c.loop-i.invariant.reached c.size.ensures refl in
    none-of c.from_residual.result _ _ c.from_residual.ensures (λ fits. c.in_err-offset.ensures (omega (arith, fits, next.1)))

pub returns-in_err-offset-2 : goal.returns-in_err-offset-2
returns-in_err-offset-2 g c =
    let next = next-begin _ _ c.args.end c.loop-i.i c.loop-i.offset c.size.result c.line.result (omega arith) c.loop-i.invariant.reached c.size.ensures c.line.ensures in
    let sum : c.in_ok-offset.offset ≡ c.loop-i.offset + c.size.result = c.in_ok-offset.ensures.1 in
    none-of c.from_residual-in_err-offset-2.result _ _ c.from_residual-in_err-offset-2.ensures (λ fits. c.in_err-offset-2.ensures (omega (arith, fits, next.1, sum)))

pub loop-i-preserved : goal.loop-i-preserved
loop-i-preserved g c = grind (arith, next-begin)
