use Rattle.std.proofs.Common.{◌≡◌, ◌<◌, ◌^◌, length}
use Rattle.papergrid_csv.specs.ForProofs.Contexts.{context_behind}
use Rattle.papergrid_csv.specs.declared.quotes.Context.TheVariants.{Start}
use Rattle.papergrid_csv.proofs.QuoteLemmas.{quote-at}
use Rattle.papergrid_csv.proofs.quotes.ends_quoted.Given as goal

abbrev pub invariant-loop-at : goal.invariant-loop-at
invariant-loop-at l = (context_behind l.delimiter Start l.text ≡ context_behind l.delimiter l.context l.rest) × (l.at ≡ quote-at l.rest) × (length l.rest < 2 ^ 64)

abbrev pub decreases-loop-at : goal.decreases-loop-at
decreases-loop-at l = length l.rest
