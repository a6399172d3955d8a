use Rattle.std.proofs.Common.{◌≡◌, ◌∙◌, ◌-◌, ap, ap₂, arith}
use Rattle.papergrid_layout.specs.Places.{extent, offset, size_along}
use Rattle.papergrid_layout.proofs.PlaceSums.{none-of, part-of, past-total}
use Rattle.papergrid_layout.proofs.ruler.Ruler.part.Goals as goal

pub returns-in_err-offset : goal.returns-in_err-offset
returns-in_err-offset g c = grind (arith, none-of, past-total)

pub returns-in_err-next : goal.returns-in_err-next
returns-in_err-next g c = grind (arith, none-of, past-total)

pub overflow_sub-result : goal.overflow_sub-result
overflow_sub-result g c =
    let part = part-of _ _ c.number_of-start.result c.span.result c.in_ok-offset.offset c.in_ok-next.next c.line-2.result c.span.ensures.positive c.in_ok-offset.ensures.1 c.in_ok-next.ensures.1 c.line-2.ensures in
    omega (arith, part)

pub overflow_sub-result-2 : goal.overflow_sub-result-2
overflow_sub-result-2 g c =
    let part = part-of _ _ c.number_of-start.result c.span.result c.in_ok-offset.offset c.in_ok-next.next c.line-2.result c.span.ensures.positive c.in_ok-offset.ensures.1 c.in_ok-next.ensures.1 c.line-2.ensures in
    omega (arith, part)

pub returns : goal.returns
returns g c =
    let size = size_along (g.D.Dimension.width_of c.args.self.now.dimension.now) (g.D.Dimension.height_of c.args.self.now.dimension.now) c.args.self.now.direction in
    let line = (g.S.ConfigView.grid c.args.self.now.settings.now).draws c.args.self.now.direction c.args.self.now.count in
    let part = part-of size line c.number_of-start.result c.span.result c.in_ok-offset.offset c.in_ok-next.next c.line-2.result c.span.ensures.positive c.in_ok-offset.ensures.1 c.in_ok-next.ensures.1 c.line-2.ensures in
    let first = c.in_ok-offset.ensures.1 ∙ ap (offset size line) c.number_of-start.ensures in
    let length : c.in_ok-next.next - c.line-2.result - c.in_ok-offset.offset ≡ extent size line c.number_of-start.result c.span.result = omega (arith, part) in
    let long = length ∙ ap₂ (extent size line) c.number_of-start.ensures c.span.ensures.value in
    (c.in_ok-_total.ensures.0, (λ k. (first k, long k)))
