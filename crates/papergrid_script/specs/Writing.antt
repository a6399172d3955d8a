-- What a run does to its writer, once its input is read.
use Rattle.std.specs.Prelude.{◌≡◌, ◌≢◌, ◌⊎◌, ℕ, Bool, List, Option, Result, Ok, Err}
use Rattle.papergrid_text.specs.Transfer.{HasBegun, HasEnded, IsSteady, IsTaken}
use Rattle.papergrid_script.specs.declared.reading.RunFault.{RunFault}
use Rattle.papergrid_script.specs.declared.reading.RunFault.TheVariants.{Read, Write}

-- a writer, by what it tells. Only a run that ends so may write
module _ {W E : Type 0} (contents : W → Option (List ℕ)) (has_failed has_stalled : W → Bool) (MayWrite : E → Type 0) where
  -- all of a text was taken; where nothing is written the writer is as it was
  pub record IsWrittenAs (end : E) (old new : W) (text : List ℕ) : Type 0 where
    pub taken : IsTaken contents has_failed has_stalled old text new
    pub silent : (MayWrite end → ⊥) → new ≡ old

  module _ (IsOutput : E → List ℕ → Type 0) where
    -- a run that broke off
    pub record IsBrokenOff (old new : W) (fault : RunFault) : Type 0 where
      pub not_read : fault ≢ Read
      pub beginning : (new ≡ old) ⊎ ((end : E) × MayWrite end × ((output : List ℕ) × IsOutput end output × HasBegun contents has_failed has_stalled old output new))
      pub write : fault ≡ Write → HasEnded contents has_failed has_stalled old new
      pub steady : (fault ≡ Write) ⊎ IsSteady contents has_failed has_stalled old new

    -- a run wrote an output, and ended accordingly, or it broke off
    abbrev pub WritesOutput : W → W → Result E RunFault → Type 0
    WritesOutput old new (Ok end) = (output : List ℕ) × IsOutput end output × IsWrittenAs end old new output
    WritesOutput old new (Err fault) = IsBrokenOff old new fault
