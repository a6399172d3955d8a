-- What an input comes to: what is computed of what is read of it.
use Rattle.std.proofs.Common.{◌≡◌, ◌∙◌, ℕ, List, ap, refl}
use Rattle.std.specs.Prelude.{IfOk, Result, Ok, Err}
use Rattle.papergrid_tracks.specs.declared.sizing.Sizing.{Sizing}
use Rattle.papergrid_script.specs.Estimates.{Estimate, IsEstimate}
use Rattle.papergrid_script.specs.Outputs.{BadLine, Estimated, IsOutcome, OfOutcome, Outcome}
use Rattle.papergrid_script.specs.Scripts.{IsScript, Table}
use Rattle.papergrid_script.proofs.Estimated.{outcome_of}
use Rattle.papergrid_script.specs.ForProofs.Read.{table_of}
use Rattle.papergrid_script.proofs.LawLemmas.{estimate-computed, only-estimate}
use Rattle.papergrid_script.proofs.ScriptLemmas.{script-only, script-read}

outcome-of : (sizing : Sizing) (input : List ℕ) (script : Result Table ℕ) → IsScript input script → IsOutcome sizing input (outcome_of sizing script)
outcome-of sizing input (Err number) is = is
outcome-of sizing input (Ok table) is = (is, estimate-computed table sizing)

-- what is computed of what is read is the outcome
pub outcome-computed : (sizing : Sizing) (input : List ℕ) → IsOutcome sizing input (outcome_of sizing (table_of input))
outcome-computed sizing input = outcome-of sizing input (table_of input) (script-read input (table_of input) refl)

pub outcome-only : (sizing : Sizing) (input : List ℕ) (outcome : Outcome) → IsOutcome sizing input outcome → outcome ≡ outcome_of sizing (table_of input)
outcome-only sizing input (BadLine number) is = ap (outcome_of sizing) (script-only input (Err number) is)
outcome-only sizing input (Estimated table estimate) is =
    ap (Estimated table) (only-estimate table sizing estimate is.1) ∙ ap (outcome_of sizing) (script-only input (Ok table) is.0)

-- what holds by the estimate of a table holds by the outcome of an input that describes it
pub of-estimate : {A E : Type 0} (sizing : Sizing) (input : List ℕ) (table : Table) → IsScript input (Ok table) → (holds : A → Outcome → Type 0) (result : Result A E) →
    IfOk result (λ x. (estimate : Estimate) × IsEstimate sizing table estimate × holds x (Estimated table estimate)) → IfOk result (λ x. OfOutcome sizing input (holds x))
of-estimate sizing input table is holds (Ok x) so = (Estimated table so.0, (is, so.1), so.2)
of-estimate sizing input table is holds (Err e) so = tt
