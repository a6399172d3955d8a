use Rattle.std.proofs.lemmas.Result.{IfOk-weaker}
use Rattle.papergrid_walk.proofs.FilterLemmas.{tells_own}
use Rattle.papergrid_walk.proofs.known.filter_of.Goals as goal

pub returns : goal.returns
returns g c =
    IfOk-weaker c.new.result _ _ (λ filter pass. tells_own (g.S.ConfigView.set_for c.args.settings.now) c.in_ok-padded.padded.items filter c.in_ok-padded.ensures (rw c.deref.ensures.value at pass)) c.new.ensures
