-- Texts that are delivered to a writer, one after the other. `takes` relates the writer before a
-- text that it took, the text, and the writer after it. `breaks` relates the same of a text that it
-- did not take, or not all of it.
use Rattle.std.specs.Prelude.{◌≡◌, ◌≢◌, ◌⊎◌, ℕ, List, ◌++◌, Result, Ok, Err, IfErr, OnOk, String}
use Rattle.std.specs.declared.alloc.Global.{Global}
use Rattle.std.specs.declared.alloc.AllocError.{AllocError}
use Rattle.std.specs.Fmt.{WritesInCalls}
use Rattle.papergrid_draw.specs.Drawings.{Drawing}
use Rattle.papergrid_draw.specs.Faults.{IsDrawFault, IsDrawable}
use Rattle.papergrid_draw.specs.declared.error.DrawError.{DrawError}
use Rattle.papergrid_draw.specs.declared.error.DrawError.TheVariants.{Memory, NoRoom, NotTiled, OutOfTable, TooLarge, Write}

module _ {W : Type 0} where
  -- texts were taken that join to a beginning of the bytes
  pub record TakesBeginning (takes : W → List ℕ → W → Type 0) (old : W) (bytes : List ℕ) (new : W)
      : Type 0 where
    pub taken : List ℕ
    pub rest : List ℕ
    pub calls : WritesInCalls takes old taken new
    pub whole : taken ++ rest ≡ bytes

  -- the same, and then the next text, with which the bytes go on, was not
  pub record BreaksOff (takes breaks : W → List ℕ → W → Type 0) (old : W) (bytes : List ℕ) (new : W)
      : Type 0 where
    pub taken : List ℕ
    pub between : W
    pub text : List ℕ
    pub rest : List ℕ
    pub calls : WritesInCalls takes old taken between
    pub broke : breaks between text new
    pub whole : taken ++ text ++ rest ≡ bytes

  -- the writer after an error: an allocation failed after a beginning, or a text broke off, else it is as it was
  abbrev pub IsLeftOff : (takes breaks : W → List ℕ → W → Type 0) → W → List ℕ → W → DrawError →
      Type 0
  IsLeftOff takes breaks old bytes new (Memory e) = TakesBeginning takes old bytes new
  IsLeftOff takes breaks old bytes new Write = BreaksOff takes breaks old bytes new
  IsLeftOff takes breaks old bytes new (OutOfTable p) = new ≡ old
  IsLeftOff takes breaks old bytes new (NotTiled p) = new ≡ old
  IsLeftOff takes breaks old bytes new (NoRoom p) = new ≡ old
  IsLeftOff takes breaks old bytes new TooLarge = new ≡ old

  -- it was not begun: an error came before anything was written, and no write failed
  abbrev pub IsNotBegun : {A : Type 0} → W → W → Result A DrawError → Type 0
  IsNotBegun old new result = (e : DrawError) × (result ≡ Err e) × (e ≢ Write) × (new ≡ old)

  -- the bytes of a drawing are delivered, or why not all of them. It is begun only where it can be drawn
  pub record Draws (takes breaks : W → List ℕ → W → Type 0) (d : Drawing) (old new : W) (bytes : List ℕ)
      {A : Type 0} (result : Result A DrawError) : Type 0 where
    pub drawable : IsDrawable d ⊎ IsNotBegun old new result
    pub picture : OnOk result (WritesInCalls takes old bytes new)
    pub fault : IfErr result (IsDrawFault d)
    pub left : IfErr result (IsLeftOff takes breaks old bytes new)

-- a string that was drawn to, or why not all was drawn. A write to a string fails only where an allocation does
abbrev pub IsStringOf : {A : Type 0} → String Global → Result A DrawError → Result (String Global) DrawError → Type 0
IsStringOf text (Ok x) result = result ≡ Ok text
IsStringOf text (Err Write) result = (e : AllocError) × (result ≡ Err (Memory e))
IsStringOf text (Err e) result = result ≡ Err e
