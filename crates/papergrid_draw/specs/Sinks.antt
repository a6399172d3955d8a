-- What a sink took of a text that was drawn to it, by what it tells of itself.
use Rattle.std.specs.Prelude.{◌≡◌, ◌≢◌, ◌⊎◌, ⊤, ℕ, Bool, List, Option, Result, Ok, Err}
use Rattle.papergrid_text.specs.Transfer.{HasBegun, HasEnded, IsSteady, IsTaken}
use Rattle.papergrid_draw.specs.Drawings.{Drawing}
use Rattle.papergrid_draw.specs.Faults.{IsDrawable}
use Rattle.papergrid_draw.specs.declared.error.DrawError.{DrawError}
use Rattle.papergrid_draw.specs.declared.error.DrawError.TheVariants.{Memory, Write}

-- a refusal of the table itself
abbrev pub IsRefusal : DrawError → Type 0
IsRefusal (Memory e) = ⊥
IsRefusal Write = ⊥
IsRefusal e = ⊤

module _ {W : Type 0} (contents : W → Option (List ℕ)) (has_failed has_stalled : W → Bool) where
  -- the sink after an error: as it was where the table is refused, else it took a beginning of the bytes
  pub record IsCutOff (old : W) (bytes : List ℕ) (new : W) (e : DrawError) : Type 0 where
    pub nothing : IsRefusal e → new ≡ old
    pub beginning : HasBegun contents has_failed has_stalled old bytes new
    pub write : e ≡ Write → HasEnded contents has_failed has_stalled old new
    pub steady : (e ≡ Write) ⊎ IsSteady contents has_failed has_stalled old new

  module _ (IsDrawn : Drawing → Type 0) (IsFault : DrawError → Type 0) (text_of : Drawing → List ℕ) where
    -- why there is no picture, and the sink after that: as it was, as always after a refusal, or with a beginning of the
    -- text of a drawing that can be drawn. A write fails only where there is one
    pub record IsUndrawn (old new : W) (e : DrawError) : Type 0 where
      pub fault : IsRefusal e → IsFault e
      pub nothing : IsRefusal e → new ≡ old
      pub left : ((e ≢ Write) × (new ≡ old)) ⊎ ((d : Drawing) × IsDrawn d × IsDrawable d × IsCutOff old (text_of d) new e)

    -- the text of such a drawing was taken, which can be drawn, or why it was not
    abbrev pub WritesPicture : {A : Type 0} → W → W → Result A DrawError → Type 0
    WritesPicture old new (Ok x) = (d : Drawing) × IsDrawn d × IsDrawable d × IsTaken contents has_failed has_stalled old (text_of d) new
    WritesPicture old new (Err e) = IsUndrawn old new e
