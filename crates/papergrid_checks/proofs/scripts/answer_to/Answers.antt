use Rattle.std.proofs.Common.{refl}
use Rattle.papergrid_tracks.specs.declared.sizing.Sizing.TheVariants.{ByShares}
use Rattle.papergrid_script.specs.Outputs.{IsAnswer}
use Rattle.papergrid_checks.proofs.WrittenLemmas.{beginning, written}
use Rattle.papergrid_checks.proofs.scripts.answer_to.Goals as goal

pub returns-clause-written : goal.returns-clause-written
returns-clause-written g c =
    let runs = rw c.new-source.ensures at c.run.ensures.run.1 in
    written (IsAnswer ByShares) c.args.script.now c.run.result runs refl

pub returns-clause-beginning : goal.returns-clause-beginning
returns-clause-beginning g c =
    let runs = rw c.new-source.ensures at c.run.ensures.run.1 in
    beginning (IsAnswer ByShares) c.args.script.now c.run.result runs refl
