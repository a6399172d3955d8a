use Rattle.std.proofs.Common.{subst, arith}
use Rattle.papergrid_text.specs.ForProofs.Simple.{ReadsQuietly}
use Rattle.papergrid_text.proofs.SimpleLemmas.{cut_past, reads_past}
use Rattle.papergrid_text.proofs.width.simple.simple_width_past.Goals as goal

pub range_from-requires : goal.range_from-requires
range_from-requires c = grind (arith, cut_past)

pub returns-clause-value : goal.returns-clause-value
returns-clause-value c =
    let front = c.has_printable_front.ensures c.if-not-has_printable_front.false in
    reads_past c.args.text.now c.args.from _ front.within front.printable (subst (λ bs. ReadsQuietly bs c.in_ok-rest.rest) c.range_from.ensures.value c.in_ok-rest.ensures.value)
