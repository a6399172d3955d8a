use Rattle.std.proofs.Common.{◌-◌, ◌≡◌, ◌≤◌, drop, length}
use Rattle.papergrid_csv.specs.declared.quotes.Context.TheVariants.{Start}
use Rattle.papergrid_csv.specs.ForProofs.Contexts.{behind_record}
use Rattle.papergrid_csv.proofs.starts.past_record.Given as goal

abbrev pub invariant-loop-at : goal.invariant-loop-at
invariant-loop-at l = (l.at ≤ length l.text) × (behind_record l.format Start l.text ≡ behind_record l.format l.context (drop l.at l.text))

abbrev pub decreases-loop-at : goal.decreases-loop-at
decreases-loop-at l = length l.text - l.at
