-- What a run leaves of its reader and its writer, and of the vector that keeps its input, apart from what it writes.
use Rattle.std.specs.Prelude.{◌≡◌, ◌⊎◌, ℕ, Bool, false, true, IfErr, IfOk, List, OnErr, OnOk, Option, Result, Vec}
use Rattle.std.specs.Io.KnownBytes.{Appends}
use Rattle.std.specs.declared.alloc.Global.{Global}
use Rattle.papergrid_text.specs.Transfer.{HasBegun, HasEnded}
use Rattle.papergrid_script.specs.Inputs.{IsWholeInput}
use Rattle.papergrid_script.specs.declared.reading.RunFault.{RunFault}
use Rattle.papergrid_script.specs.declared.reading.RunFault.TheVariants.{Memory, Read, Write}

-- a reader and a writer, by what they tell
module _ {R W : Type 0} (remaining : R → Option (List ℕ)) (read_failed : R → Bool) (contents : W → Option (List ℕ)) (has_failed has_stalled : W → Bool)
    (reader_old reader_new : R) (writer_old writer_new : W) (input_old input_new : Vec ℕ Global) where
  -- no read failed, and the whole input is kept
  abbrev pub HasKeptInput : Type 0
  HasKeptInput = (read_failed reader_new ≡ false) × IsWholeInput (remaining reader_old) (remaining reader_new) input_new.items

  -- nothing was written, and nothing is kept
  abbrev pub HasLeftBoth : Type 0
  HasLeftBoth = (writer_new ≡ writer_old) × (input_new ≡ input_old)

  -- no write failed, and whether one took nothing of a piece that isn't empty is as before
  abbrev pub HasWorkingWriter : Type 0
  HasWorkingWriter = (has_failed writer_new ≡ false) × (has_stalled writer_new ≡ has_stalled writer_old)

  -- the run broke off: the reader failed, an allocation did, or the writer did once the whole input was kept
  abbrev pub IsRunFault : RunFault → Type 0
  IsRunFault Read = (read_failed reader_new ≡ true) × HasLeftBoth
  IsRunFault Memory = HasWorkingWriter × (((read_failed reader_new ≡ false) × HasLeftBoth) ⊎ HasKeptInput)
  IsRunFault Write = HasKeptInput × HasEnded contents has_failed has_stalled writer_old writer_new

  -- a run that writes an output by how it ends. Where it breaks off, a beginning of such a one may be written
  pub record Runs {E : Type 0} (IsOutput : E → List ℕ → Type 0) (result : Result E RunFault) : Type 0 where
    pub written : IfOk result (λ end. (output : List ℕ) × IsOutput end output × Appends (contents writer_old) (contents writer_new) output)
    pub ran : OnOk result (HasKeptInput × HasWorkingWriter)
    pub fault : IfErr result IsRunFault
    pub beginning : OnErr result ((writer_new ≡ writer_old)
        ⊎ ((output : List ℕ) × ((end : E) × IsOutput end output) × HasBegun contents has_failed has_stalled writer_old output writer_new))
