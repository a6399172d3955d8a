use Rattle.std.proofs.Common.{arith}
use Rattle.std.proofs.lemmas.Option.{same_Some}
use Rattle.papergrid_script.proofs.ScriptLemmas.{one-said}
use Rattle.papergrid_script.proofs.SpellLemmas.{entity_spelled}
use Rattle.papergrid_script.proofs.laws.one_meaning.Goals as goal

pub returns : goal.returns
returns c = grind (arith, same_Some, entity_spelled, one-said)
