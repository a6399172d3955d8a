use Rattle.std.proofs.Common.{◌-◌, ◌≡◌, ◌<◌, ◌≤◌, ℕ, false, length, take, true}
use Rattle.papergrid_csv.specs.declared.quotes.Context.TheVariants.{Start}
use Rattle.papergrid_csv.specs.ForProofs.Contexts.{is_between, context_behind}
use Rattle.papergrid_csv.proofs.quotes.last_outside.Given as goal

abbrev pub invariant-loop-at : goal.invariant-loop-at
invariant-loop-at l =
    (l.context ≡ context_behind l.delimiter Start (take l.at l.text)) × (l.last ≤ l.at) × (l.at ≤ length l.text)
    × (is_between (context_behind l.delimiter Start (take l.last l.text)) ≡ false)
    × ((k : ℕ) → l.last < k → k < l.at → is_between (context_behind l.delimiter Start (take k l.text)) ≡ true)

abbrev pub decreases-loop-at : goal.decreases-loop-at
decreases-loop-at l = length l.text - l.at
