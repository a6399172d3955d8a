-- Values are equal exactly where they are the same.
use Rattle.std.proofs.Common.{◌≡◌, ap, refl, subst, true, arith}
use Rattle.std.specs.Prelude.{◌↔◌}
use Rattle.std.specs.Cmp.{nat_eq_equiv}
use Rattle.std.proofs.lemmas.Bool.{and_from, and_parts, eqb-true}
use Rattle.papergrid_layout.proofs.EqualLemmas.{same-position}
use Rattle.papergrid_draw.specs.declared.error.DrawError.{DrawError}
use Rattle.papergrid_draw.specs.declared.error.DrawError.TheVariants as draw_errors
use Rattle.papergrid_draw.specs.contracts.error.DrawErrorPartialEq.TheImpl as draw_error
use Rattle.papergrid_tracks.specs.declared.sizing.Sizing.{Sizing}
use Rattle.papergrid_tracks.specs.declared.sizing.Sizing.TheVariants.{ByShares, Least}
use Rattle.papergrid_tracks.specs.contracts.sizing.SizingPartialEq.TheImpl as sizing
use Rattle.papergrid_script.specs.declared.explained.Reason.{Reason}
use Rattle.papergrid_script.specs.declared.explained.Reason.TheVariants.{BadLine, OutOfTable, TooLarge}
use Rattle.papergrid_script.specs.contracts.explained.ReasonPartialEq.TheImpl as reason
use Rattle.papergrid_script.specs.declared.answer.RunEnd.{RunEnd}
use Rattle.papergrid_script.specs.declared.answer.RunEnd.TheVariants.{BadScript, Done, Refused}
use Rattle.papergrid_script.specs.contracts.answer.RunEndPartialEq.TheImpl as run_end
use Rattle.papergrid_script.specs.declared.reading.RunFault.{RunFault}
use Rattle.papergrid_script.specs.declared.reading.RunFault.TheVariants.{Memory, Read, Write}
use Rattle.papergrid_script.specs.contracts.reading.RunFaultPartialEq.TheImpl as run_fault
use Rattle.papergrid_text.specs.declared.transfer.Failed.{Failed}
use Rattle.papergrid_text.specs.contracts.transfer.FailedPartialEq.TheImpl as failed

-- ---- how sizes are chosen

pub same-sizing : (x y : Sizing) → (sizing.ghosts.eq x y ≡ true) ↔ (x ≡ y)
same-sizing ByShares ByShares = (λ is. refl, λ is. refl)
same-sizing Least Least = (λ is. refl, λ is. refl)
same-sizing x y = (λ is. cc, λ is. cc)

-- ---- ends of runs

pub same-end : (x y : RunEnd) → (run_end.ghosts.eq x y ≡ true) ↔ (x ≡ y)
same-end Done Done = (λ is. refl, λ is. refl)
same-end Refused Refused = (λ is. refl, λ is. refl)
same-end BadScript BadScript = (λ is. refl, λ is. refl)
same-end x y = (λ is. cc, λ is. cc)

-- ---- faults of runs

pub same-fault : (x y : RunFault) → (run_fault.ghosts.eq x y ≡ true) ↔ (x ≡ y)
same-fault Memory Memory = (λ is. refl, λ is. refl)
same-fault Read Read = (λ is. refl, λ is. refl)
same-fault Write Write = (λ is. refl, λ is. refl)
same-fault x y = (λ is. cc, λ is. cc)

-- there is one failure
pub same-failed : (x y : Failed) → (failed.ghosts.eq x y ≡ true) ↔ (x ≡ y)
same-failed x y = (λ is. refl, λ e. refl)

-- ---- reasons

itself-reason : (x : Reason) → reason.ghosts.eq x x ≡ true
itself-reason (BadLine number) = nat_eq_equiv.refl number
itself-reason (OutOfTable place spans shape) = grind (arith, and_from)
itself-reason TooLarge = refl

equal-reason : (x y : Reason) → reason.ghosts.eq x y ≡ true → x ≡ y
equal-reason (BadLine m) (BadLine n) is = ap (λ k. BadLine k) (eqb-true m n is)
equal-reason (OutOfTable p s g) (OutOfTable q t h) is = grind (arith, and_parts, same-position, eqb-true)
equal-reason TooLarge TooLarge is = refl
equal-reason x y is = cc

pub same-reason : (x y : Reason) → (reason.ghosts.eq x y ≡ true) ↔ (x ≡ y)
same-reason x y = (equal-reason x y, λ e. subst (λ z. reason.ghosts.eq x z ≡ true) e (itself-reason x))

-- ---- why a table is not drawn

pub same-draw_error : (x y : DrawError) → (draw_error.ghosts.eq x y ≡ true) ↔ (x ≡ y)
same-draw_error (draw_errors.OutOfTable p) (draw_errors.OutOfTable q) = (λ is. ap (λ r. draw_errors.OutOfTable r) ((same-position p q).0 is), λ e. (same-position p q).1 (cc e))
same-draw_error (draw_errors.NotTiled p) (draw_errors.NotTiled q) = (λ is. ap (λ r. draw_errors.NotTiled r) ((same-position p q).0 is), λ e. (same-position p q).1 (cc e))
same-draw_error (draw_errors.NoRoom p) (draw_errors.NoRoom q) = (λ is. ap (λ r. draw_errors.NoRoom r) ((same-position p q).0 is), λ e. (same-position p q).1 (cc e))
same-draw_error draw_errors.TooLarge draw_errors.TooLarge = (λ is. refl, λ is. refl)
same-draw_error (draw_errors.Memory d) (draw_errors.Memory e) = (λ is. refl, λ is. refl)
same-draw_error draw_errors.Write draw_errors.Write = (λ is. refl, λ is. refl)
same-draw_error x y = (λ is. cc, λ is. cc)
