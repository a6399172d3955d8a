-- How runs end whose table is not drawn.
use Rattle.std.proofs.Common.{◌≡◌, ◌≢◌, ℕ, Bool, List, [], Option, Ok, inl, inr, refl, subst, sym}
use Rattle.papergrid_draw.specs.declared.error.DrawError.{DrawError}
use Rattle.papergrid_draw.specs.declared.error.DrawError.TheVariants as draw_errors
use Rattle.papergrid_draw.specs.Sinks.{IsCutOff, IsRefusal}
use Rattle.papergrid_script.specs.Writing.{IsBrokenOff}
use Rattle.papergrid_script.specs.declared.reading.RunFault.TheVariants as run_faults
use Rattle.papergrid_draw.proofs.SinkLemmas.{taken-none}
use Rattle.papergrid_csv.specs.Pictures.{IsPictured, WritesCsv}
use Rattle.papergrid_csv.specs.ForProofs.Drawn.{end_refused}
use Rattle.papergrid_csv.specs.declared.run.CsvEnd.{CsvEnd}
use Rattle.papergrid_csv.specs.declared.run.CsvEnd.TheVariants.{Drawn, Refused}

module _ {W : Type 0} (contents : W → Option (List ℕ)) (has_failed has_stalled : W → Bool) where
  module _ (IsSo : CsvEnd → List ℕ → Type 0) where
    -- nothing was written, as it should be
    pub run-silent : (w : W) (end : CsvEnd) → IsSo end [] → WritesCsv contents has_failed has_stalled IsSo w w (Ok end)
    run-silent w end so = ([], so, record { taken = taken-none contents has_failed has_stalled w; silent = λ _. refl })

    -- memory was refused before
    pub run-no_memory : (w : W) → IsBrokenOff contents has_failed has_stalled IsPictured IsSo w w run_faults.Memory
    run-no_memory w = record {
      not_read = λ is. absurd (let none : ⊥ = cc in none);
      beginning = inl refl;
      write = λ is. absurd (let none : ⊥ = cc in none);
      steady = inr (refl, refl);
    }

    -- an error came before anything was written
    pub run-refused : (w : W) (e : DrawError) → e ≢ draw_errors.Write → (IsRefusal e → IsSo (Refused e) []) → WritesCsv contents has_failed has_stalled IsSo w w (end_refused e)
    run-refused w (draw_errors.OutOfTable p) works so = run-silent w (Refused (draw_errors.OutOfTable p)) (so tt)
    run-refused w (draw_errors.NotTiled p) works so = run-silent w (Refused (draw_errors.NotTiled p)) (so tt)
    run-refused w (draw_errors.NoRoom p) works so = run-silent w (Refused (draw_errors.NoRoom p)) (so tt)
    run-refused w draw_errors.TooLarge works so = run-silent w (Refused draw_errors.TooLarge) (so tt)
    run-refused w (draw_errors.Memory e) works so = run-no_memory w
    run-refused w draw_errors.Write works so = absurd (works refl)

    -- a picture broke off, or none of it was written
    module _ (old new : W) (output : List ℕ) (drawn : IsSo Drawn output) where
      refused : (e : DrawError) → new ≡ old → IsSo (Refused e) [] → WritesCsv contents has_failed has_stalled IsSo old new (Ok (Refused e))
      refused e same so = subst (λ w. WritesCsv contents has_failed has_stalled IsSo old w (Ok (Refused e))) (sym same) (run-silent old (Refused e) so)

      pub run-undrawn : (e : DrawError) → (IsRefusal e → IsSo (Refused e) []) → IsCutOff contents has_failed has_stalled old output new e →
          WritesCsv contents has_failed has_stalled IsSo old new (end_refused e)
      run-undrawn (draw_errors.OutOfTable p) so left = refused (draw_errors.OutOfTable p) (left.nothing tt) (so tt)
      run-undrawn (draw_errors.NotTiled p) so left = refused (draw_errors.NotTiled p) (left.nothing tt) (so tt)
      run-undrawn (draw_errors.NoRoom p) so left = refused (draw_errors.NoRoom p) (left.nothing tt) (so tt)
      run-undrawn draw_errors.TooLarge so left = refused draw_errors.TooLarge (left.nothing tt) (so tt)
      run-undrawn (draw_errors.Memory e) so left = record {
        not_read = λ is. absurd (let none : ⊥ = cc in none);
        beginning = inr (Drawn, refl, (output, drawn, left.beginning));
        write = λ is. absurd (let none : ⊥ = cc in none);
        steady = elim left.steady [ inl is ↦ absurd (let none : ⊥ = cc in none) | inr so ↦ inr so ];
      }
      run-undrawn draw_errors.Write so left = record {
        not_read = λ is. absurd (let none : ⊥ = cc in none);
        beginning = inr (Drawn, refl, (output, drawn, left.beginning));
        write = λ _. left.write refl;
        steady = inl refl;
      }
