-- What a run of a script leaves written, where the reader tells the script.
use Rattle.std.proofs.Common.{◌≡◌, ◌⊎◌, ℕ, Bool, List, Option, Some, Vec, Global, inl, inr, subst}
use Rattle.std.specs.Prelude.{Err, IfOk, Ok, OnErr, Result}
use Rattle.std.specs.Io.KnownBytes.{Appends}
use Rattle.papergrid_text.specs.Transfer.{HasBegun}
use Rattle.papergrid_script.specs.Inputs.{IsWholeInput}
use Rattle.papergrid_script.specs.Runs.{Runs}
use Rattle.papergrid_script.specs.declared.reading.RunFault.{RunFault}
use Rattle.papergrid_script.specs.declared.reading.RunFault.TheVariants.{Memory, Read, Write}

-- what was read is the script
whole : (unread left : Option (List ℕ)) (script items : List ℕ) → unread ≡ Some script → IsWholeInput unread left items → items ≡ script
whole unread left script items known is = rw known at is.all

module _ {R W E : Type 0} {remaining : R → Option (List ℕ)} {read_failed : R → Bool} {contents : W → Option (List ℕ)} {has_failed has_stalled : W → Bool}
    {reader_old reader_new : R} {writer_old writer_new : W} {input : Vec ℕ Global} (IsSo : List ℕ → E → List ℕ → Type 0) (script : List ℕ) where
  -- the output of the script
  pub written : (result : Result E RunFault)
      → Runs remaining read_failed contents has_failed has_stalled reader_old reader_new writer_old writer_new input input (IsSo input.items) result
      → remaining reader_old ≡ Some script → IfOk result (λ end. (output : List ℕ) × IsSo script end output × Appends (contents writer_old) (contents writer_new) output)
  written (Ok end) runs known = subst (λ items. (output : List ℕ) × IsSo items end output × Appends (contents writer_old) (contents writer_new) output) (whole (remaining reader_old) (remaining reader_new) script input.items known runs.ran.0.1) runs.written
  written (Err fault) runs known = tt

  -- or a beginning of it, whatever the fault
  pub beginning : (result : Result E RunFault)
      → Runs remaining read_failed contents has_failed has_stalled reader_old reader_new writer_old writer_new input input (IsSo input.items) result
      → remaining reader_old ≡ Some script → OnErr result ((writer_new ≡ writer_old)
      ⊎ ((output : List ℕ) × ((end : E) × IsSo script end output) × HasBegun contents has_failed has_stalled writer_old output writer_new))
  beginning (Ok end) runs known = tt
  beginning (Err Read) runs known = inl runs.fault.1.0
  beginning (Err Memory) runs known = elim runs.fault.1 [
    | inl left ↦ inl left.1.0
    | inr is ↦
        subst (λ items. (writer_new ≡ writer_old) ⊎ ((output : List ℕ) × ((end : E) × IsSo items end output) × HasBegun contents has_failed has_stalled writer_old output writer_new))
        (whole (remaining reader_old) (remaining reader_new) script input.items known is.1) runs.beginning
  ]
  beginning (Err Write) runs known =
      subst (λ items. (writer_new ≡ writer_old) ⊎ ((output : List ℕ) × ((end : E) × IsSo items end output) × HasBegun contents has_failed has_stalled writer_old output writer_new))
      (whole (remaining reader_old) (remaining reader_new) script input.items known runs.fault.0.1) runs.beginning
