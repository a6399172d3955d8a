use Rattle.std.proofs.Common.{◌∙◌, ap, sym, arith}
use Rattle.papergrid_tracks.specs.Ranges.{first_out}
use Rattle.papergrid_tracks.proofs.AnswerLemmas.{AreTooLargeBy-large}
use Rattle.papergrid_tracks.proofs.OutLemmas.{out_kept}
use Rattle.papergrid_tracks.proofs.settled.refusal.Goals as goal

pub returns-in-Some-clause-refused : goal.returns-in-Some-clause-refused
returns-in-Some-clause-refused c = grind (arith, out_kept)

pub returns-then-kept-clause-refused : goal.returns-then-kept-clause-refused
returns-then-kept-clause-refused c = λ sizing line demands kept. AreTooLargeBy-large sizing c.args.count c.args.kept.now demands kept line
    (ap (first_out c.args.count) (sym c.deref.ensures.value) ∙ sym c.find_out.ensures ∙ c.in_default.is) c.if-kept.true
