-- What was written where a picture was, or was not.
use Rattle.std.proofs.Common.{◌≢◌, ◌⊎◌, inl, inr, ℕ, Global, List, [], Result, Ok, Err, IfErr, IfOk, OnOk, refl, subst, sym}
use Rattle.std.specs.Prelude.{MatchResult, String}
use Rattle.std.specs.declared.alloc.AllocError.{AllocError}
use Rattle.std.proofs.Output.{writes_in_calls_nil}
use Rattle.papergrid_draw.specs.Deliveries.{Draws, IsLeftOff, IsNotBegun, IsStringOf}
use Rattle.papergrid_draw.specs.Drawings.{Drawing}
use Rattle.papergrid_draw.specs.Faults.{IsDrawFault, IsDrawable}
use Rattle.papergrid_draw.specs.declared.error.DrawError.{DrawError}
use Rattle.papergrid_draw.specs.declared.error.DrawError.TheVariants.{Memory, NoRoom, NotTiled, OutOfTable, TooLarge, Write}
use Rattle.papergrid_draw.specs.ForProofs.Sheets.{IsCutShort, Writes}
use Rattle.papergrid_draw.proofs.RefusalLemmas.{IsDrawRefusal}

-- by the relations of texts that are taken and of one that breaks off
module _ {W : Type 0} (takes breaks : W → List ℕ → W → Type 0) where
  -- a picture that is cut off is left off
  left-cut : (a b : W) (bytes : List ℕ) (error : DrawError) → IsCutShort takes breaks a b bytes error → IsLeftOff takes breaks a bytes b error
  left-cut a b bytes (Memory e) cut = cut
  left-cut a b bytes Write cut = cut
  left-cut a b bytes (OutOfTable p) cut = absurd cut
  left-cut a b bytes (NotTiled p) cut = absurd cut
  left-cut a b bytes (NoRoom p) cut = absurd cut
  left-cut a b bytes TooLarge cut = absurd cut

  -- nothing is written where a table is refused
  left-none : (a : W) (d : Drawing) (bytes : List ℕ) (error : DrawError) → IsDrawRefusal d error → IsLeftOff takes breaks a bytes a error
  left-none a d bytes (Memory e) is = record { taken = []; rest = bytes; calls = writes_in_calls_nil takes a; whole = refl }
  left-none a d bytes Write is = absurd (is.1 refl)
  left-none a d bytes (OutOfTable p) is = refl
  left-none a d bytes (NotTiled p) is = refl
  left-none a d bytes (NoRoom p) is = refl
  left-none a d bytes TooLarge is = refl

  pub draws-refused : {A : Type 0} (a : W) (d : Drawing) (bytes : List ℕ) (error : DrawError) → IsDrawRefusal d error → Draws takes breaks d a a bytes {A = A} (Err error)
  draws-refused a d bytes error is = record { drawable = inr (error, refl, is.1, refl); picture = tt; fault = is.0; left = left-none a d bytes error is }

  -- a writer alone may fail in the midst
  cut-fault : (a b : W) (d : Drawing) (bytes : List ℕ) (error : DrawError) → IsCutShort takes breaks a b bytes error → IsDrawFault d error
  cut-fault a b d bytes (Memory e) cut = tt
  cut-fault a b d bytes Write cut = tt
  cut-fault a b d bytes (OutOfTable p) cut = absurd cut
  cut-fault a b d bytes (NotTiled p) cut = absurd cut
  cut-fault a b d bytes (NoRoom p) cut = absurd cut
  cut-fault a b d bytes TooLarge cut = absurd cut

  pub draws-written : {A : Type 0} (a b : W) (d : Drawing) (bytes : List ℕ) (r : Result A DrawError) → IsDrawable d → Writes takes breaks a b bytes r → Draws takes breaks d a b bytes r
  draws-written a b d bytes (Ok x) is writes = record { drawable = inl is; picture = writes; fault = tt; left = tt }
  draws-written a b d bytes (Err e) is writes = record { drawable = inl is; picture = tt; fault = cut-fault a b d bytes e writes; left = left-cut a b bytes e writes }

-- what was drawn can be
pub begun-drawable : {W A : Type 0} (d : Drawing) (old new : W) (result : Result A DrawError) → IsDrawable d ⊎ IsNotBegun old new result → OnOk result (IsDrawable d)
begun-drawable d old new (Ok x) is = elim is [ inl drawable ↦ drawable | inr none ↦ absurd (cc (none.1)) ]
begun-drawable d old new (Err e) is = tt

-- what holds of a string with the whole text, of why a table is not drawn, and of an allocation that fails
pub string-drawn : {A : Type 0} (text : String Global) (P : String Global → Type 0) (Q : DrawError → Type 0) (drawn : Result A DrawError) (result : Result (String Global) DrawError) →
    IsStringOf text drawn result → OnOk drawn (P text) → IfErr drawn (λ e. e ≢ Write → Q e) → ((e : AllocError) → Q (Memory e)) → MatchResult result P Q
string-drawn text P Q (Ok x) result is ok err memory = subst (λ r. MatchResult r P Q) (sym is) ok
string-drawn text P Q (Err Write) result is ok err memory = subst (λ r. MatchResult r P Q) (sym is.1) (memory is.0)
string-drawn text P Q (Err (Memory e)) result is ok err memory = subst (λ r. MatchResult r P Q) (sym is) (memory e)
string-drawn text P Q (Err (OutOfTable p)) result is ok err memory = subst (λ r. MatchResult r P Q) (sym is) (err (λ write. cc write))
string-drawn text P Q (Err (NotTiled p)) result is ok err memory = subst (λ r. MatchResult r P Q) (sym is) (err (λ write. cc write))
string-drawn text P Q (Err (NoRoom p)) result is ok err memory = subst (λ r. MatchResult r P Q) (sym is) (err (λ write. cc write))
string-drawn text P Q (Err TooLarge) result is ok err memory = subst (λ r. MatchResult r P Q) (sym is) (err (λ write. cc write))

-- what holds of the whole text holds of such a string
pub string-whole : {A : Type 0} (text : String Global) (P : String Global → Type 0) (drawn : Result A DrawError) (result : Result (String Global) DrawError) →
    IsStringOf text drawn result → OnOk drawn (P text) → IfOk result P
string-whole text P (Ok x) result is ok = subst (λ r. IfOk r P) (sym is) ok
string-whole text P (Err Write) result is ok = subst (λ r. IfOk r P) (sym is.1) tt
string-whole text P (Err (Memory e)) result is ok = subst (λ r. IfOk r P) (sym is) tt
string-whole text P (Err (OutOfTable p)) result is ok = subst (λ r. IfOk r P) (sym is) tt
string-whole text P (Err (NotTiled p)) result is ok = subst (λ r. IfOk r P) (sym is) tt
string-whole text P (Err (NoRoom p)) result is ok = subst (λ r. IfOk r P) (sym is) tt
string-whole text P (Err TooLarge) result is ok = subst (λ r. IfOk r P) (sym is) tt
