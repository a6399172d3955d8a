-- Why an input has no sizes, beside how its run ends and what that writes.
use Rattle.std.proofs.Common.{◌≡◌, ℕ, ap, refl, sym}
use Rattle.std.specs.Prelude.{◌↔◌, None, Some, flat_map, length}
use Rattle.papergrid_values.specs.declared.direction.Direction.{Direction}
use Rattle.papergrid_values.specs.declared.direction.Direction.TheVariants.{Columns, Rows}
use Rattle.papergrid_values.specs.declared.position.Position.{Position}
use Rattle.papergrid_maps.specs.Spans.{IsEffectiveSpan}
use Rattle.papergrid_maps.proofs.SpanSearch.{effective_span}
use Rattle.papergrid_maps.proofs.EffectiveSpanLemmas.{effective_span-IsEffectiveSpan}
use Rattle.papergrid_config.specs.Parts.{span_calls}
use Rattle.papergrid_script.specs.declared.explained.Reason.{Reason}
use Rattle.papergrid_script.specs.declared.explained.Reason.TheVariants as reason
use Rattle.papergrid_script.specs.declared.answer.RunEnd.TheVariants.{BadScript, Done, Refused}
use Rattle.papergrid_script.specs.Outputs.{BadLine, Estimated, Outcome, estimate_end, estimate_text, outcome_end, outcome_text}
use Rattle.papergrid_script.specs.Reasons.{IsEstimateReason, IsOutcomeReason, IsTableReason, reason_text}
use Rattle.papergrid_script.specs.Estimates.{Estimate, OutOfTable, Sized, TooLarge}
use Rattle.papergrid_script.specs.Scripts.{Table}

-- one reason is written in one way
worded : (s r : Reason) → Some s ≡ Some r → reason_text s ≡ reason_text r
worded s r is = let same : s ≡ r = cc is in ap reason_text same

-- ---- of an estimate

module _ (table : Table) where
  abbrev span_of : Direction → Position → ℕ
  span_of direction position = effective_span direction position (flat_map span_calls table.settings)

  is_span : (direction : Direction) (position : Position) → IsEffectiveSpan direction position (flat_map span_calls table.settings) (span_of direction position)
  is_span direction position = effective_span-IsEffectiveSpan direction position (flat_map span_calls table.settings)

  estimated : (e : Estimate) → IsEstimateReason table e None ↔ (estimate_end e ≡ Done)
  estimated (OutOfTable position) = (λ is. cc is.4, λ is. cc is)
  estimated TooLarge = (λ is. cc is, λ is. cc is)
  estimated (Sized found) = (λ is. refl, λ is. refl)

  never_bad : (e : Estimate) → ((number : ℕ) × IsEstimateReason table e (Some (reason.BadLine number))) ↔ (estimate_end e ≡ BadScript)
  never_bad (OutOfTable position) = (λ is. cc is.1.4, λ is. cc is)
  never_bad TooLarge = (λ is. cc is.1, λ is. cc is)
  never_bad (Sized found) = (λ is. cc is.1, λ is. cc is)

  refusal : (e : Estimate) → ((r : Reason) × IsEstimateReason table e (Some r) × IsTableReason r) ↔ (estimate_end e ≡ Refused)
  refusal (OutOfTable position) = (
    (λ is. refl),
    (λ is. (
      reason.OutOfTable position (span_of Rows position, span_of Columns position) (length table.rows, table.columns),
      (span_of Rows position, span_of Columns position, is_span Rows position, is_span Columns position, refl),
      (λ number is. cc is),
    )),
  )
  refusal TooLarge = (λ is. refl, λ is. (reason.TooLarge, refl, λ number bad. cc bad))
  refusal (Sized found) = (λ is. cc is.1, λ is. cc is)

  written : (e : Estimate) (r : Reason) → IsEstimateReason table e (Some r) → estimate_text e ≡ reason_text r
  written (OutOfTable position) r is = worded _ r (sym is.4)
  written TooLarge r is = worded _ r (sym is)
  written (Sized found) r is = cc is

-- ---- of an outcome

pub none_where_done : (outcome : Outcome) → IsOutcomeReason outcome None ↔ (outcome_end outcome ≡ Done)
none_where_done (BadLine number) = (λ is. cc is, λ is. cc is)
none_where_done (Estimated table estimate) = estimated table estimate

pub bad_line_where_bad : (outcome : Outcome) → ((number : ℕ) × IsOutcomeReason outcome (Some (reason.BadLine number))) ↔ (outcome_end outcome ≡ BadScript)
bad_line_where_bad (BadLine number) = (λ is. refl, λ is. (number, refl))
bad_line_where_bad (Estimated table estimate) = never_bad table estimate

pub refusal_where_refused : (outcome : Outcome) → ((r : Reason) × IsOutcomeReason outcome (Some r) × IsTableReason r) ↔ (outcome_end outcome ≡ Refused)
refusal_where_refused (BadLine number) = (λ is. let same : is.0 ≡ reason.BadLine number = cc is.1 in absurd (is.2 number same), λ is. cc is)
refusal_where_refused (Estimated table estimate) = refusal table estimate

pub written_as : (outcome : Outcome) (r : Reason) → IsOutcomeReason outcome (Some r) → outcome_text outcome ≡ reason_text r
written_as (BadLine number) r is = worded _ r (sym is)
written_as (Estimated table estimate) r is = written table estimate r is
