-- What a call leaves written that draws a document and makes another error of its own.
use Rattle.std.proofs.Common.{◌≡◌, ℕ, Bool, List, [], Option, inl, inr, refl, subst, sym}
use Rattle.std.specs.Prelude.{Err, Ok, OnErr, OnOk, Result}
use Rattle.std.specs.Io.KnownBytes.{Appends}
use Rattle.std.specs.Result.{is_ok}
use Rattle.std.proofs.KnownBytes.{Appends-nil}
use Rattle.papergrid_draw.specs.Drawings.{Drawing}
use Rattle.papergrid_draw.specs.Faults.{IsDrawable}
use Rattle.papergrid_text.specs.Transfer.{IsTaken}
use Rattle.papergrid_draw.specs.Sinks.{IsUndrawn, WritesPicture}
use Rattle.papergrid_draw.proofs.SinkLemmas.{undrawn-beginning}
use Rattle.papergrid_draw.specs.declared.error.DrawError.{DrawError}
use Rattle.papergrid_draw.specs.Lined.{lined}
use Rattle.papergrid_tracks.specs.declared.sizing.Sizing.TheVariants.{ByShares}
use Rattle.papergrid_json.specs.Documents.{IsDocumentRead}
use Rattle.papergrid_json.specs.Pictures.{IsDocumentDrawing, IsDocumentFault}
use Rattle.papergrid_json.specs.declared.document.Document.{Document}
use Rattle.papergrid_checks.specs.Documents.{IsOfDocument}
use Rattle.papergrid_checks.specs.Written.{AppendsBeginning}

module _ {W : Type 0} (contents : W → Option (List ℕ)) (has_failed has_stalled : W → Bool) (old new : W) (text : List ℕ) (document : Document) (read : IsDocumentRead text (Ok document)) where
  of-document : (d : Drawing) → IsDocumentDrawing document ByShares d → IsDrawable d → IsOfDocument text (lined d)
  of-document d is drawable = (document, read, (d, is, drawable, refl))

  -- a drawing was written
  abbrev pub IsPictured : Type 0
  IsPictured = (d : Drawing) × IsDocumentDrawing document ByShares d × IsDrawable d × IsTaken contents has_failed has_stalled old (lined d) new

  -- it was not
  abbrev pub IsNoPicture : DrawError → Type 0
  IsNoPicture = IsUndrawn contents has_failed has_stalled (IsDocumentDrawing document ByShares) (IsDocumentFault document ByShares) lined old new

  pictured : IsPictured → (output : List ℕ) × IsOfDocument text output × Appends (contents old) (contents new) output
  pictured is = (lined is.0, of-document is.0 is.1 is.2, is.3.bytes_are)

  begun : (e : DrawError) → IsNoPicture e → AppendsBeginning (IsOfDocument text) (contents old) (contents new)
  begun e is = elim (undrawn-beginning contents has_failed has_stalled (IsDocumentDrawing document ByShares) (IsDocumentFault document ByShares) lined old new e is) [
    | inl kept ↦ inl (subst (λ (w : W). Appends (contents old) (contents w) []) (sym kept) (Appends-nil (contents old)))
    | inr so ↦ inr (lined so.0, of-document so.0 so.1 so.2, so.3)
  ]

  -- what the clause of a drawn document says
  abbrev pub IsWritten : {T : Type 0} → Result T DrawError → Type 0
  IsWritten = WritesPicture contents has_failed has_stalled (IsDocumentDrawing document ByShares) (IsDocumentFault document ByShares) lined old new

  pub picture-of : {T D : Type 0} (drawn : Result T DrawError) (told : Result T D) → is_ok told ≡ is_ok drawn → IsWritten drawn
      → OnOk told ((output : List ℕ) × IsOfDocument text output × Appends (contents old) (contents new) output)
  picture-of (Ok x) (Ok y) same is = pictured is
  picture-of (Err e) (Ok y) same is = absurd (let none : ⊥ = cc in none)
  picture-of drawn (Err d) same is = tt

  pub begun-of : {T D : Type 0} (drawn : Result T DrawError) (told : Result T D) → is_ok told ≡ is_ok drawn → IsWritten drawn
      → OnErr told (AppendsBeginning (IsOfDocument text) (contents old) (contents new))
  begun-of (Err e) (Err d) same is = begun e is
  begun-of (Ok x) (Err d) same is = absurd (let none : ⊥ = cc in none)
  begun-of drawn (Ok y) same is = tt
