-- What runs write, and how they end.
use Rattle.std.proofs.Common.{◌≡◌, ◌≢◌, ◌∙◌, ℕ, Bool, List, Option, Result, Vec, Global, Ok, Err, ap, inl, inr, refl, subst, sym, arith}
use Rattle.std.specs.Prelude.{◌↔◌, ⊤}
use Rattle.papergrid_config.specs.declared.setting.Setting.{Setting}
use Rattle.papergrid_config.specs.declared.spanned.SpannedConfig.{SpannedConfig}
use Rattle.papergrid_tracks.specs.declared.sizing.Sizing.{Sizing}
use Rattle.papergrid_draw.specs.Drawings.{Drawing}
use Rattle.papergrid_draw.specs.Faults.{IsDrawable}
use Rattle.papergrid_draw.specs.declared.error.DrawError.{DrawError}
use Rattle.papergrid_draw.specs.declared.error.DrawError.TheVariants as draw_errors
use Rattle.papergrid_draw.specs.Lined.{lined}
use Rattle.papergrid_config.specs.History.{HasSettingHistory}
use Rattle.papergrid_script.specs.Runs.{IsRunFault, Runs}
use Rattle.papergrid_script.specs.Scripts.{IsScript, Table}
use Rattle.papergrid_script.specs.declared.answer.RunEnd.{RunEnd}
use Rattle.papergrid_script.specs.declared.answer.RunEnd.TheVariants.{BadScript, Done, Refused}
use Rattle.papergrid_script.specs.declared.reading.RunFault.{RunFault}
use Rattle.papergrid_script.specs.declared.reading.RunFault.TheVariants as run_faults
use Rattle.papergrid.specs.Pictures.{IsPictureOf, IsPictureRun, IsTablePicture, refusal_line}
use Rattle.papergrid_draw.specs.Pictures.{IsDrawingBy, IsDrawingWith, IsFaultWith, IsPictureFault}
use Rattle.papergrid_script.specs.Writing.{IsBrokenOff, WritesOutput}
use Rattle.papergrid_script.proofs.RunLemmas.{runs-also}
use Rattle.papergrid_text.specs.Transfer.{IsTaken}
use Rattle.papergrid_draw.specs.Sinks.{IsRefusal, IsUndrawn}

-- something is written at any end
abbrev Any : RunEnd → Type 0
Any end = ⊤

-- a picture broke off, or was not begun
pub picture-broken : {W E : Type 0} (contents : W → Option (List ℕ)) (has_failed has_stalled : W → Bool) (IsSo : Drawing → Type 0) (IsWhy : DrawError → Type 0) (IsOutput : E → List ℕ → Type 0)
    (end : E) → ((d : Drawing) → IsSo d → IsDrawable d → IsOutput end (lined d)) → (old new : W) (e : DrawError) (fault : RunFault) → fault ≢ run_faults.Read → (fault ≡ run_faults.Write) ↔ (e ≡ draw_errors.Write) →
    IsUndrawn contents has_failed has_stalled IsSo IsWhy lined old new e → IsBrokenOff contents has_failed has_stalled (λ _. ⊤) IsOutput old new fault
picture-broken contents has_failed has_stalled IsSo IsWhy IsOutput end is old new e fault not_read follows so = grind arith

module _ {W : Type 0} (contents : W → Option (List ℕ)) (has_failed has_stalled : W → Bool) where
  module _ (sizing : Sizing) (table : Table) (config : SpannedConfig) (told : HasSettingHistory table.settings config) where
    abbrev IsSo : Drawing → Type 0
    IsSo = IsDrawingWith table.columns table.rows sizing config

    abbrev IsWhy : DrawError → Type 0
    IsWhy = IsFaultWith table.columns table.rows sizing config

    abbrev IsSoUndrawn : W → W → DrawError → Type 0
    IsSoUndrawn old new e = IsUndrawn contents has_failed has_stalled IsSo IsWhy lined old new e

    -- the picture was written
    pub run-drawn : (old new : W) → ((d : Drawing) × IsSo d × IsDrawable d × IsTaken contents has_failed has_stalled old (lined d) new) →
        WritesOutput contents has_failed has_stalled Any (IsTablePicture sizing table) old new (Ok Done)
    run-drawn old new so = (lined so.0, (so.0, (config, told, so.1), so.2, refl), record { taken = so.3; silent = λ never. absurd (never tt) })

    -- it broke off
    pub run-broken : (old new : W) (e : DrawError) (fault : RunFault) → fault ≢ run_faults.Read → (fault ≡ run_faults.Write) ↔ (e ≡ draw_errors.Write) → IsSoUndrawn old new e →
        IsBrokenOff contents has_failed has_stalled Any (IsTablePicture sizing table) old new fault
    run-broken old new e fault not_read follows so =
        picture-broken contents has_failed has_stalled IsSo IsWhy (IsTablePicture sizing table) Done (λ d is drawable. (d, (config, told, is), drawable, refl)) old new e fault not_read follows so

    -- it was refused, and the line that says so was written
    pub run-refused : (old between new : W) (e : DrawError) (text : List ℕ) (result : Result RunEnd RunFault) → IsRefusal e → IsSoUndrawn old between e → text ≡ refusal_line e →
        WritesOutput contents has_failed has_stalled Any (λ end output. (end ≡ Refused) × (output ≡ text)) between new result → WritesOutput contents has_failed has_stalled Any (IsTablePicture sizing table) old new result
    run-refused old between new e text result named so is ran =
        subst (λ w. WritesOutput contents has_failed has_stalled Any (IsTablePicture sizing table) w new result) (so.nothing named)
        (runs-also contents has_failed has_stalled Any _ _ (λ end output p. subst (λ x. IsTablePicture sizing table x output) (sym p.0) (e, named, (config, told, so.fault named), p.1 ∙ is)) between new result ran)

-- a script has no two outputs, where settings and texts have no two pictures, no two reasons why they have none, and never both
module _ (sizing : Sizing)
    (pictures : (columns : ℕ) (texts : List (List (List ℕ))) (settings : List Setting) (d e : Drawing) → IsDrawingBy columns texts sizing settings d → IsDrawingBy columns texts sizing settings e → lined d ≡ lined e)
    (drawn : (columns : ℕ) (texts : List (List (List ℕ))) (settings : List Setting) (d : Drawing) (e : DrawError) → IsDrawingBy columns texts sizing settings d → IsDrawable d → IsRefusal e → IsPictureFault columns texts sizing settings e → ⊥)
    (refused : (columns : ℕ) (texts : List (List (List ℕ))) (settings : List Setting) (e f : DrawError) → IsRefusal e → IsRefusal f → IsPictureFault columns texts sizing settings e → IsPictureFault columns texts sizing settings f → e ≡ f) where
  one-table-output : (table : Table) (end other : RunEnd) (output bytes : List ℕ) → IsTablePicture sizing table end output → IsTablePicture sizing table other bytes → (end ≡ other) × (output ≡ bytes)
  one-table-output table Done Done output bytes a b = (refl, a.3 ∙ pictures table.columns table.rows table.settings a.0 b.0 a.1 b.1 ∙ sym b.3)
  one-table-output table Done Refused output bytes a b = absurd (drawn table.columns table.rows table.settings a.0 b.0 a.1 a.2 b.1 b.2)
  one-table-output table Refused Done output bytes a b = absurd (drawn table.columns table.rows table.settings b.0 a.0 b.1 b.2 a.1 a.2)
  one-table-output table Refused Refused output bytes a b = (refl, a.3 ∙ ap refusal_line (refused table.columns table.rows table.settings a.0 b.0 a.1 b.1 a.2 b.2) ∙ sym b.3)
  one-table-output table BadScript other output bytes a b = absurd a
  one-table-output table end BadScript output bytes a b = absurd b

  one-output-of : (told : Result Table ℕ) (end other : RunEnd) (output bytes : List ℕ) → IsPictureOf sizing told end output → IsPictureOf sizing told other bytes → (end ≡ other) × (output ≡ bytes)
  one-output-of (Ok table) end other output bytes a b = one-table-output table end other output bytes a b
  one-output-of (Err number) end other output bytes a b = (a.0 ∙ sym b.0, a.1 ∙ sym b.1)

  pub one-output : (input : List ℕ) → ((script also : Result Table ℕ) → IsScript input script → IsScript input also → script ≡ also) →
      (end other : RunEnd) (output bytes : List ℕ) → IsPictureRun sizing input end output → IsPictureRun sizing input other bytes → (end ≡ other) × (output ≡ bytes)
  one-output input one end other output bytes a b =
      one-output-of a.0 end other output bytes a.2 (subst (λ script. IsPictureOf sizing script other bytes) (sym (one a.0 b.0 a.1 b.1)) b.2)

-- a reader and a writer, by what they tell, and the input that a run kept in place of another one
module _ {R W : Type 0} (remaining : R → Option (List ℕ)) (read_failed : R → Bool) (contents : W → Option (List ℕ)) (has_failed has_stalled : W → Bool)
    (reader_old reader_new : R) (writer_old writer_new : W) (before input : Vec ℕ Global) where
  -- what a run leaves that broke off, where nobody sees what it kept
  broke-unseen : (fault : RunFault) → IsRunFault remaining read_failed contents has_failed has_stalled reader_old reader_new writer_old writer_new before input fault →
      IsRunFault remaining read_failed contents has_failed has_stalled reader_old reader_new writer_old writer_new input input fault
  broke-unseen run_faults.Read is = (is.0, (is.1.0, refl))
  broke-unseen run_faults.Memory is = (is.0, elim is.1 [ inl left ↦ inl (left.0, (left.1.0, refl)) | inr whole ↦ inr whole ])
  broke-unseen run_faults.Write is = is

  pub runs-unseen : {IsOutput : RunEnd → List ℕ → Type 0} (result : Result RunEnd RunFault) →
      Runs remaining read_failed contents has_failed has_stalled reader_old reader_new writer_old writer_new before input IsOutput result →
      Runs remaining read_failed contents has_failed has_stalled reader_old reader_new writer_old writer_new input input IsOutput result
  runs-unseen (Ok end) runs = grind arith
  runs-unseen (Err fault) runs = record { written = tt; ran = tt; fault = broke-unseen fault runs.fault; beginning = runs.beginning }
