use Rattle.papergrid_table.proofs.WitnessLemmas.{message-by}
use Rattle.papergrid_table.proofs.witness.message_of.Goals as goal

pub returns : goal.returns
returns c = message-by c.args.lines.now c.without_last_end.result.now c.text_of.result.now c.without_last_end.ensures c.text_of.ensures c.from_str.result c.from_str.ensures.ok
