-- What a printer leaves, by what is drawn.
use Rattle.std.proofs.Common.{◌≡◌, ◌≢◌, ◌∙◌, ◌++◌, Bool, ℕ, [], Err, Global, List, Ok, Option, Result, ap, inl, inr, refl, string_bytes, arith}
use Rattle.std.specs.Prelude.{String}
use Rattle.std.proofs.lemmas.Fmt.{contents_after_writes}
use Rattle.papergrid_values.specs.declared.position.Position.{Position}
use Rattle.papergrid_layout.specs.Tables.{IsTable, IsTotalTooLarge, TableParts}
use Rattle.papergrid_tracks.specs.declared.error.LayoutError.{LayoutError}
use Rattle.papergrid_tracks.specs.declared.error.LayoutError.TheVariants as layout_errors
use Rattle.papergrid_text.specs.Transfer.{IsTaken}
use Rattle.papergrid_draw.specs.Deliveries.{Draws, IsStringOf}
use Rattle.papergrid_draw.specs.Drawings.{Drawing, drawn_of, layout_of}
use Rattle.papergrid_draw.specs.Errors.{draw_error_of}
use Rattle.papergrid_draw.specs.Faults.{IsDrawable}
use Rattle.papergrid_draw.specs.ForProofs.Sinks.{IsBroken}
use Rattle.papergrid_draw.specs.Margins.{printed}
use Rattle.papergrid_draw.specs.Sinks.{IsRefusal, WritesPicture}
use Rattle.papergrid_draw.specs.declared.error.DrawError.{DrawError}
use Rattle.papergrid_draw.specs.declared.error.DrawError.TheVariants.{Write}
use Rattle.papergrid_draw.proofs.DeliveryLemmas.{begun-drawable, string-drawn}
use Rattle.papergrid_draw.proofs.SinkLemmas.{sink-left, taken-calls}
use Rattle.papergrid.specs.Printed.{IsPrintFault, IsPrinted, IsUnprinted, Prints, PrintsString}

-- by the relations of texts that a writer takes and of one that breaks off
module _ {W : Type 0} (takes breaks : W → List ℕ → W → Type 0) where
  -- there is no drawing yet
  pub prints-none : (IsDrawn : Drawing → Type 0) (w : W) (e : DrawError) → e ≢ Write → (IsRefusal e → IsPrintFault IsDrawn e) → IsUnprinted IsDrawn takes breaks w w e
  prints-none IsDrawn w e works fault = record { fault = fault; left = inl (works, refl) }

  -- this one is drawn
  pub prints-so : (d : Drawing) → (IsTotalTooLarge (layout_of d) → ⊥) → {A : Type 0} (old new : W) (result : Result A DrawError) → Draws takes breaks d old new (printed d) result →
      Prints (λ other. other ≡ d) takes breaks old new result
  prints-so d fits old new (Ok x) draws = (d, (refl, fits), begun-drawable d old new (Ok x) draws.drawable, draws.picture)
  prints-so d fits old new (Err e) draws = record {
    fault = λ named. (d, refl, inr (fits, draws.fault));
    left = elim draws.drawable [
      | inl drawable ↦ inr (d, (refl, fits), drawable, draws.left)
      | inr none ↦ inl ((λ write. none.2 (cc (none.1, write))), none.3)
    ];
  }

  -- what follows of the drawing
  pub prints-also : (IsDrawn IsSo : Drawing → Type 0) → ((d : Drawing) → IsDrawn d → IsSo d) → {A : Type 0} (old new : W) (result : Result A DrawError) →
      Prints IsDrawn takes breaks old new result → Prints IsSo takes breaks old new result
  prints-also IsDrawn IsSo also old new (Ok x) p = (p.0, (also p.0 p.1.0, p.1.1), p.2, p.3)
  prints-also IsDrawn IsSo also old new (Err e) p = record {
    fault = λ named. let fault = p.fault named in (fault.0, also fault.0 fault.1, fault.2);
    left = elim p.left [ inl same ↦ inl same | inr so ↦ inr (so.0, (also so.0 so.1.0, so.1.1), so.2, so.3) ];
  }

-- the totals of a table are too large, so there is none
pub sizes-refused : {C : Type 0} (lines : C → Position → List (List ℕ × ℕ)) (color : C → Position → Option (List ℕ × List ℕ)) (parts : TableParts) (cells : C) (e : LayoutError) →
    IsTable parts (Err e) → IsRefusal (draw_error_of e) → IsPrintFault (λ d. d ≡ drawn_of lines color parts cells) (draw_error_of e)
sizes-refused lines color parts cells (layout_errors.OutOfTable p) is named = absurd (let never : layout_errors.OutOfTable p ≡ layout_errors.TooLarge = is.0 in cc never)
sizes-refused lines color parts cells layout_errors.TooLarge is named = (drawn_of lines color parts cells, refl, inl (refl, is.1))
sizes-refused lines color parts cells (layout_errors.Memory e) is named = absurd named

-- a sink, by what it tells of itself
pub sink-prints : (IsDrawn : Drawing → Type 0) {W : Type 0} (contents : W → Option (List ℕ)) (has_failed has_stalled : W → Bool) {A : Type 0} (old new : W) (result : Result A DrawError) →
    Prints IsDrawn (IsTaken contents has_failed has_stalled) (IsBroken contents has_failed has_stalled) old new result →
    WritesPicture contents has_failed has_stalled (IsPrinted IsDrawn) (IsPrintFault IsDrawn) printed old new result
sink-prints IsDrawn contents has_failed has_stalled old new (Ok x) p = (p.0, p.1, p.2, taken-calls contents has_failed has_stalled old (printed p.0) new p.3)
sink-prints IsDrawn contents has_failed has_stalled {A = A} old new (Err e) p = record {
  fault = p.fault;
  nothing = grind (arith, sink-left);
  left = elim p.left [
    | inl same ↦ inl same
    | inr so ↦ inr (so.0, so.1, so.2, sink-left contents has_failed has_stalled {A = A} old new (printed so.0) (Err e) so.3)
  ];
}

-- a string, which was empty
pub string-prints : (IsDrawn : Drawing → Type 0) (breaks : String Global → List ℕ → String Global → Type 0) {A : Type 0} (empty text : String Global) → string_bytes empty ≡ [] →
    (drawn : Result A DrawError) → Prints IsDrawn (λ before bytes after. string_bytes after ≡ string_bytes before ++ bytes) breaks empty text drawn →
    (result : Result (String Global) DrawError) → IsStringOf text drawn result → PrintsString IsDrawn result
string-prints IsDrawn breaks {A = A} empty text none (Ok x) p result is =
    string-drawn {A = A} text (λ string. (d : Drawing) × IsPrinted IsDrawn d × IsDrawable d × (string_bytes string ≡ printed d)) (λ e. (IsRefusal e → IsPrintFault IsDrawn e) × (e ≢ Write)) (Ok x) result is
    (p.0, p.1, p.2, contents_after_writes (λ before bytes after. string_bytes after ≡ string_bytes before ++ bytes) string_bytes (λ before bytes after so. so) empty (printed p.0) text p.3 ∙ ap (λ l. l ++ printed p.0) none)
    tt (λ error. (λ named. absurd named, λ write. cc write))
string-prints IsDrawn breaks {A = A} empty text none (Err e) p result is =
    string-drawn {A = A} text (λ string. (d : Drawing) × IsPrinted IsDrawn d × IsDrawable d × (string_bytes string ≡ printed d)) (λ e. (IsRefusal e → IsPrintFault IsDrawn e) × (e ≢ Write)) (Err e) result is
    tt (λ works. (p.fault, works)) (λ error. (λ named. absurd named, λ write. cc write))
