use Rattle.std.proofs.Common.{ap}
use Rattle.std.specs.Prelude.{Option, Some}
use Rattle.papergrid_script.specs.Outputs.{BadLine}
use Rattle.papergrid_script.specs.Reasons.{IsOutcomeReason}
use Rattle.papergrid_script.specs.Seen.{table_seen}
use Rattle.papergrid_script.specs.declared.explained.Reason.{Reason}
use Rattle.papergrid_script.specs.declared.explained.Reason.TheVariants as reason
use Rattle.papergrid_script.proofs.OutcomeLemmas.{of-estimate}
use Rattle.papergrid_script.proofs.explained.explain.Goals as goal

pub returns-in-Err-Bad : goal.returns-in-Err-Bad
returns-in-Err-Bad c =
    let is = rw (c.in-Err-Bad.is, c.in-Err-Bad.field-0-is) at c.read_script.ensures.script in
    (BadLine _, is, ap (λ n. Some (reason.BadLine n)) c.in-Err-Bad.number-is)

pub returns : goal.returns
returns c =
    let is = rw c.in-Ok.is at c.read_script.ensures.script in
    of-estimate c.args.sizing c.args.input.now (table_seen c.in-Ok.script) is (λ (why : Option Reason) outcome. IsOutcomeReason outcome why) c.table_reason.result c.table_reason.ensures
