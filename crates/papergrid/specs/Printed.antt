-- What the printers of a table leave, by what is drawn of it.
use Rattle.std.specs.Prelude.{◌≡◌, ◌≢◌, ◌⊎◌, ℕ, List, MatchResult, Result, Ok, Err, String, string_bytes}
use Rattle.std.specs.Fmt.{WritesInCalls}
use Rattle.std.specs.declared.alloc.Global.{Global}
use Rattle.papergrid_layout.specs.Tables.{IsTotalTooLarge}
use Rattle.papergrid_draw.specs.Deliveries.{IsLeftOff}
use Rattle.papergrid_draw.specs.Drawings.{Drawing, layout_of}
use Rattle.papergrid_draw.specs.Faults.{IsDrawable}
use Rattle.papergrid_draw.specs.Margins.{printed}
use Rattle.papergrid_draw.specs.Sinks.{IsRefusal}
use Rattle.papergrid_draw.specs.declared.error.DrawError.{DrawError}
use Rattle.papergrid_draw.specs.declared.error.DrawError.TheVariants.{Write}
use Rattle.papergrid.specs.Sized.{IsGridFault}

module _ (IsDrawn : Drawing → Type 0) where
  -- why such a table is not drawn
  abbrev pub IsPrintFault : DrawError → Type 0
  IsPrintFault e = (d : Drawing) × IsDrawn d × IsGridFault d e

  -- such a drawing, of a table whose totals without margins are not too large
  abbrev pub IsPrinted : Drawing → Type 0
  IsPrinted d = IsDrawn d × (IsTotalTooLarge (layout_of d) → ⊥)

  -- the picture as a string, of a drawing that can be drawn, or why there is none; no write fails
  abbrev pub PrintsString : Result (String Global) DrawError → Type 0
  PrintsString result = MatchResult result
      (λ string. (d : Drawing) × IsPrinted d × IsDrawable d × (string_bytes string ≡ printed d))
      (λ e. (IsRefusal e → IsPrintFault e) × (e ≢ Write))

  -- by the relations of texts that a writer takes and of one that breaks off
  module _ {W : Type 0} (takes breaks : W → List ℕ → W → Type 0) where
    -- why a writer has no picture, and the writer after that: as it was, or with a beginning of the text of a drawing
    -- that can be drawn. A write fails only where there is one
    pub record IsUnprinted (old new : W) (e : DrawError) : Type 0 where
      pub fault : IsRefusal e → IsPrintFault e
      pub left : ((e ≢ Write) × (new ≡ old)) ⊎ ((d : Drawing) × IsPrinted d × IsDrawable d × IsLeftOff takes breaks old (printed d) new e)

    -- the picture of a drawing that can be drawn is delivered, or why none is
    abbrev pub Prints : {A : Type 0} → W → W → Result A DrawError → Type 0
    Prints old new (Ok x) = (d : Drawing) × IsPrinted d × IsDrawable d × WritesInCalls takes old (printed d) new
    Prints old new (Err e) = IsUnprinted old new e
