-- Why an input has no sizes.
use Rattle.std.specs.Prelude.{◌≡◌, ◌≢◌, ℕ, List, flat_map, length, Option, Some, None}
use Rattle.papergrid_values.specs.declared.direction.Direction.TheVariants.{Columns, Rows}
use Rattle.papergrid_maps.specs.Spans.{IsEffectiveSpan}
use Rattle.papergrid_config.specs.Parts.{span_calls}
use Rattle.papergrid_script.specs.declared.explained.Reason.{Reason}
use Rattle.papergrid_script.specs.declared.explained.Reason.TheVariants as reason
use Rattle.papergrid_script.specs.Estimates.{Estimate, OutOfTable, TooLarge, Sized}
use Rattle.papergrid_script.specs.Outputs.{BadLine, Estimated, Outcome, bad_line_text, estimate_text}
use Rattle.papergrid_script.specs.Scripts.{Table}

-- for the first visible cell out of the table, its spans and the shape of the table, rows first
abbrev pub IsEstimateReason : Table → Estimate → Option Reason → Type 0
IsEstimateReason table (OutOfTable position) why =
    let calls = flat_map span_calls table.settings in
    (rows : ℕ) × (columns : ℕ) × IsEffectiveSpan Rows position calls rows × IsEffectiveSpan Columns position calls columns
    × (why ≡ Some (reason.OutOfTable position (rows, columns) (length table.rows, table.columns)))
IsEstimateReason table TooLarge why = why ≡ Some reason.TooLarge
IsEstimateReason table (Sized found) why = why ≡ None

-- why there are no sizes: the first bad line, or why the table is refused; none where there are sizes
abbrev pub IsOutcomeReason : Outcome → Option Reason → Type 0
IsOutcomeReason (BadLine number) why = why ≡ Some (reason.BadLine number)
IsOutcomeReason (Estimated table estimate) why = IsEstimateReason table estimate why

-- the line that a run writes of a reason
abbrev pub reason_text : Reason → List ℕ
reason_text (reason.BadLine number) = bad_line_text number
reason_text (reason.OutOfTable position spans shape) = estimate_text (OutOfTable position)
reason_text reason.TooLarge = estimate_text TooLarge

-- a reason why a table is refused, and no bad line
abbrev pub IsTableReason : Reason → Type 0
IsTableReason why = (number : ℕ) → why ≢ reason.BadLine number
