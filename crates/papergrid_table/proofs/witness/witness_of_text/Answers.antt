use Rattle.papergrid_csv.specs.Certified.{HasNoSizes, IsCsvCertified}
use Rattle.papergrid_csv.specs.Pictures.{IsCsvRun}
use Rattle.papergrid_table.proofs.WitnessLemmas.{text-message}
use Rattle.papergrid_table.proofs.witness.witness_of_text.Goals as goal

pub returns : goal.returns
returns c = text-message (HasNoSizes (IsCsvRun c.args.request.now c.args.input.now)) (IsCsvCertified c.args.request.now c.args.input.now) _ _ c.deref.ensures.value c.in_ok-lines_of_text.ensures c.message_of.result c.message_of.ensures
