-- What a run leaves, by what reading its input and writing its output leave.
use Rattle.std.proofs.Common.{◌≡◌, ◌≢◌, ◌⊎◌, ◌∙◌, ℕ, Bool, false, true, List, Option, Result, Ok, Err, Vec, Global, inl, refl, arith}
use Rattle.std.specs.Prelude.{⊤}
use Rattle.std.specs.Result.{IsErrOf, IsOkAnd, MatchResult}
use Rattle.papergrid_text.specs.Transfer.{HasEnded, IsSteady}
use Rattle.papergrid_script.specs.Inputs.{IsWholeInput}
use Rattle.papergrid_script.specs.Runs.{IsRunFault, Runs}
use Rattle.papergrid_script.specs.Writing.{WritesOutput}
use Rattle.papergrid_script.specs.declared.reading.RunFault.{RunFault}
use Rattle.papergrid_script.specs.declared.reading.RunFault.TheVariants.{Memory, Read, Write}

module _ {R W : Type 0} (remaining : R → Option (List ℕ)) (read_failed : R → Bool) (contents : W → Option (List ℕ)) (has_failed has_stalled : W → Bool)
    (reader_old reader_new : R) (reader_works : read_failed reader_old ≡ false) (writer_old : W) (writer_works : has_failed writer_old ≡ false) (input_old : Vec ℕ Global) where
  -- the input was not read
  pub fault-before : (fault : RunFault) → (fault ≡ Memory → read_failed reader_new ≡ read_failed reader_old) → (fault ≡ Read → read_failed reader_new ≡ true) → (fault ≡ Write → ⊥) →
      IsRunFault remaining read_failed contents has_failed has_stalled reader_old reader_new writer_old writer_old input_old input_old fault
  fault-before Read memory read never = (read refl, (refl, refl))
  fault-before Memory memory read never = ((writer_works, refl), inl (memory refl ∙ reader_works, (refl, refl)))
  fault-before Write memory read never = absurd (never refl)

  -- it was, and then the run broke off
  pub fault-after : (writer_new : W) (input_new : Vec ℕ Global) → read_failed reader_new ≡ read_failed reader_old → IsWholeInput (remaining reader_old) (remaining reader_new) input_new.items →
      (fault : RunFault) → fault ≢ Read → (fault ≡ Write → HasEnded contents has_failed has_stalled writer_old writer_new) →
      (fault ≡ Write) ⊎ IsSteady contents has_failed has_stalled writer_old writer_new →
      IsRunFault remaining read_failed contents has_failed has_stalled reader_old reader_new writer_old writer_new input_old input_new fault
  fault-after writer_new input_new works whole Read never write steady = absurd (never refl)
  fault-after writer_new input_new works whole Memory never write steady = grind arith
  fault-after writer_new input_new works whole Write never write steady = ((works ∙ reader_works, whole), write refl)

-- ---- a run that writes an output by how it ends

module _ {R W E : Type 0} {remaining : R → Option (List ℕ)} {read_failed : R → Bool} {contents : W → Option (List ℕ)} {has_failed has_stalled : W → Bool}
    {reader_old reader_new : R} (reader_works : read_failed reader_old ≡ false) {writer_old : W} (writer_works : has_failed writer_old ≡ false) {input_old : Vec ℕ Global}
    {IsOutput : E → List ℕ → Type 0} where
  -- its input was not read
  pub runs-unread : (fault : RunFault) → (IsErrOf {T = Vec ℕ Global} (Err fault) Memory → read_failed reader_new ≡ read_failed reader_old) →
      (IsErrOf {T = Vec ℕ Global} (Err fault) Read → read_failed reader_new ≡ true) → (IsErrOf {T = Vec ℕ Global} (Err fault) Write → ⊥) →
      Runs remaining read_failed contents has_failed has_stalled reader_old reader_new writer_old writer_old input_old input_old IsOutput (Err fault)
  runs-unread fault memory read never = grind (arith, fault-before)

  -- it was
  pub runs-read : (MayWrite : E → Type 0) → {writer_new : W} {input_new : Vec ℕ Global} →
      read_failed reader_new ≡ read_failed reader_old → IsWholeInput (remaining reader_old) (remaining reader_new) input_new.items →
      (result : Result E RunFault) → WritesOutput contents has_failed has_stalled MayWrite IsOutput writer_old writer_new result →
      Runs remaining read_failed contents has_failed has_stalled reader_old reader_new writer_old writer_new input_old input_new IsOutput result
  runs-read MayWrite {writer_new} {input_new} works whole (Ok end) so = grind arith
  runs-read MayWrite {writer_new} {input_new} works whole (Err fault) so = grind (arith, fault-after)

-- what is written, where another way to say it follows
pub runs-also : {W E : Type 0} (contents : W → Option (List ℕ)) (has_failed has_stalled : W → Bool) (MayWrite : E → Type 0) (IsSo IsAlso : E → List ℕ → Type 0) →
    ((end : E) (output : List ℕ) → IsSo end output → IsAlso end output) → (old new : W) (result : Result E RunFault) →
    WritesOutput contents has_failed has_stalled MayWrite IsSo old new result → WritesOutput contents has_failed has_stalled MayWrite IsAlso old new result
runs-also contents has_failed has_stalled MayWrite IsSo IsAlso follows old new (Ok end) so = (so.0, follows end so.0 so.1, so.2)
runs-also contents has_failed has_stalled MayWrite IsSo IsAlso follows old new (Err fault) so = grind arith

-- a run by other words for how it ends, of which the result is told in the first ones
pub writes-as : {W E F : Type 0} (contents : W → Option (List ℕ)) (has_failed has_stalled : W → Bool) (MayWrite : E → Type 0) {IsOutput : E → List ℕ → Type 0} (IsOther : F → List ℕ → Type 0) (old new : W)
    (seen : E → F) → ((end : E) (output : List ℕ) → IsOutput end output → IsOther (seen end) output) →
    (result : Result E RunFault) (other : Result F RunFault) → MatchResult result (λ end. IsOkAnd other (λ last. last ≡ seen end)) (λ fault. other ≡ Err fault) →
    WritesOutput contents has_failed has_stalled MayWrite IsOutput old new result → WritesOutput contents has_failed has_stalled (λ _. ⊤) IsOther old new other
writes-as contents has_failed has_stalled MayWrite IsOther old new seen follows (Ok end) (Ok last) is so = grind arith
writes-as contents has_failed has_stalled MayWrite IsOther old new seen follows (Ok end) (Err fault) is so = absurd is
writes-as contents has_failed has_stalled MayWrite IsOther old new seen follows (Err fault) other is so = grind arith
