-- What a caller knows of a CSV text that was read and drawn.
use Rattle.std.proofs.Common.{◌≡◌, ◌⊎◌, ℕ, Bool, true, false, List, [], Option, None, Some, inl, inr, subst, sym}
use Rattle.std.specs.Prelude.{Err, IfOk, IfSome, IsErrOf, Ok, OnErr, Result, take}
use Rattle.std.specs.Io.KnownBytes.{Appends}
use Rattle.std.proofs.KnownBytes.{Appends-nil}
use Rattle.papergrid_script.specs.declared.reading.RunFault.{RunFault}
use Rattle.papergrid_script.specs.declared.reading.RunFault.TheVariants.{Write}
use Rattle.papergrid_csv.specs.Pictures.{IsCsvRun, WritesCsv}
use Rattle.papergrid_csv.specs.declared.request.Request.{Request}
use Rattle.papergrid_csv.specs.declared.run.CsvEnd.{CsvEnd}
use Rattle.papergrid_csv.specs.declared.run.CsvEnd.TheVariants.{Drawn}
use Rattle.papergrid_checks.specs.Written.{AppendsBeginning}

-- what holds of the bytes that were read holds of those that a reader tells
told : (P : List ℕ → Type 0) {text : List ℕ} (known : Option (List ℕ)) → IfSome known (λ left. text ≡ left) → P text → IfSome known P
told P None same holds = tt
told P (Some left) same holds = subst P same holds

module _ {W : Type 0} (contents : W → Option (List ℕ)) (has_failed has_stalled : W → Bool) (request : Request) (known : Option (List ℕ)) (text : List ℕ) (same : IfSome known (λ left. text ≡ left)) (old new : W) where
  pub csv-written : (result : Result CsvEnd RunFault) → WritesCsv contents has_failed has_stalled (IsCsvRun request text) old new result →
      IfOk result (λ end. IfSome known (λ left. (output : List ℕ) × IsCsvRun request left end output × Appends (contents old) (contents new) output))
  csv-written (Ok end) so = told (λ left. (output : List ℕ) × IsCsvRun request left end output × Appends (contents old) (contents new) output) known same (so.0, so.1, so.2.taken.bytes_are)
  csv-written (Err fault) so = tt

  pub csv-begun : (result : Result CsvEnd RunFault) → WritesCsv contents has_failed has_stalled (IsCsvRun request text) old new result →
      OnErr result (IfSome known (λ left. AppendsBeginning (IsCsvRun request left Drawn) (contents old) (contents new)))
  csv-begun (Ok end) so = tt
  csv-begun (Err fault) so = told (λ left. AppendsBeginning (IsCsvRun request left Drawn) (contents old) (contents new)) known same (begun so.beginning)
    where
      begun : (new ≡ old) ⊎ ((end : CsvEnd) × (end ≡ Drawn) × ((output : List ℕ) × IsCsvRun request text end output × ((n : ℕ) × Appends (contents old) (contents new) (take n output)))) →
          AppendsBeginning (IsCsvRun request text Drawn) (contents old) (contents new)
      begun (inl kept) = inl (subst (λ (w : W). Appends (contents old) (contents w) []) (sym kept) (Appends-nil (contents old)))
      begun (inr (end, drawn, (output, is, some))) = inr (output, subst (λ e. IsCsvRun request text e output) drawn is, some)

  pub csv-ended : (result : Result CsvEnd RunFault) → WritesCsv contents has_failed has_stalled (IsCsvRun request text) old new result → IsErrOf result Write →
      (has_failed new ≡ true) ⊎ (has_stalled old ≡ false → has_stalled new ≡ true)
  csv-ended (Ok end) so is = absurd (let none : ⊥ = cc in none)
  csv-ended (Err fault) so is = so.write (cc is)
