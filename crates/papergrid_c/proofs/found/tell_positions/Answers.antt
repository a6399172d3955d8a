use Rattle.std.proofs.Common.{◌∙◌, arith, slice_set}
use Rattle.std.proofs.lemmas.List.{length-set}
use Rattle.papergrid_values.specs.declared.position.Position.{Position}
use Rattle.papergrid_c.specs.Asked.{position_for_c}
use Rattle.papergrid_c.proofs.FrontLemmas.{set-more}
use Rattle.papergrid_c.proofs.found.tell_positions.Goals as goal

pub loop-i-preserved : goal.loop-i-preserved
loop-i-preserved c =
    let positions = c.args.positions.now in
    let old = c.args.cells.now in
    let none : Position = record { row = 0; col = 0 } in
    let counted = length-set c.loop-i.cells c.loop-i.i c.of.result in
    record {
      front = (λ k. slice_set (c.loop-i.invariant.front k) c.loop-i.i (c.of.ensures k))
          ∙ set-more position_for_c c.loop-i.i positions old none c.loop-i-test.true (omega (arith, c.loop-i-test.true, c.loop-i.invariant.fits, c.loop-i.invariant.counted));
      counted = counted ∙ c.loop-i.invariant.counted;
      fits = omega (arith, counted, c.loop-i.invariant.fits);
    }
