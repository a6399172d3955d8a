use Rattle.papergrid_table.proofs.WitnessLemmas.{script-message}
use Rattle.papergrid_table.proofs.witness.witness_of_script.Goals as goal

pub returns : goal.returns
returns c = script-message c.args.sizing c.args.script.now _ _ c.deref.ensures.value c.in_ok-lines_of_script.ensures c.message_of.result c.message_of.ensures
