use Rattle.std.proofs.Common.{◌≡◌, ◌+◌, ◌∙◌, ap, arith, length, refl}
use Rattle.std.proofs.lemmas.List.{length_push}
use Rattle.papergrid_layout.specs.Places.{offset, size_along}
use Rattle.papergrid_layout.proofs.MarkLemmas.{values-push}
use Rattle.papergrid_layout.proofs.PlaceSums.{next-begin}
use Rattle.papergrid_layout.proofs.ruler.Ruler.marks.Goals as goal

pub overflow_add-end : goal.overflow_add-end
overflow_add-end g c =
    let next = next-begin _ _ c.args.self.now.count c.loop-i.i c.loop-i.begin c.size.result _ (omega arith) c.loop-i.invariant.reached c.size.ensures refl in
    omega (arith, next.1, c.requires.fits)

pub overflow_add-begin : goal.overflow_add-begin
overflow_add-begin g c =
    let next = next-begin _ _ c.args.self.now.count c.loop-i.i c.loop-i.begin c.size.result c.line.result (omega arith) c.loop-i.invariant.reached c.size.ensures c.line.ensures in
    omega (arith, next.1, c.requires.fits)

pub loop-i-preserved : goal.loop-i-preserved
loop-i-preserved g c =
    let size = size_along (g.D.Dimension.width_of c.args.self.now.dimension.now) (g.D.Dimension.height_of c.args.self.now.dimension.now) c.args.self.now.direction in
    let line = (g.S.ConfigView.grid c.args.self.now.settings.now).draws c.args.self.now.direction c.args.self.now.count in
    let next = next-begin size line c.args.self.now.count c.loop-i.i c.loop-i.begin c.size.result c.line.result (omega arith) c.loop-i.invariant.reached c.size.ensures c.line.ensures in
    let here = c.loop-i.invariant.reached in
    let ended : c.loop-i.begin + c.size.result ≡ offset size line c.loop-i.i + size c.loop-i.i = omega (arith, here, c.size.ensures) in
    record {
      reached = next.0;
      each_begin = ap length c.in_ok-push.ensures.items ∙ length_push c.loop-i.begins.items c.loop-i.begin ∙ ap (λ n. n + 1) c.loop-i.invariant.each_begin;
      each_end = ap length c.in_ok-push-2.ensures.items ∙ length_push c.loop-i.ends.items (c.loop-i.begin + c.size.result) ∙ ap (λ n. n + 1) c.loop-i.invariant.each_end;
      begins = rw c.in_ok-push.ensures.items (values-push (offset size line) c.loop-i.begins.items c.loop-i.begin c.loop-i.i c.loop-i.invariant.each_begin here c.loop-i.invariant.begins);
      ends = rw c.in_ok-push-2.ensures.items (values-push (λ k. offset size line k + size k) c.loop-i.ends.items (c.loop-i.begin + c.size.result) c.loop-i.i c.loop-i.invariant.each_end ended c.loop-i.invariant.ends);
    }
