use Rattle.std.specs.Prelude.{Err, IfOk, Ok, OnOk, Result}
use Rattle.papergrid_layout_checks.proofs.tests.exact_sizes.estimate_compact.Goals as goal

on_ok : {A E : Type 0} (r : Result A E) (P Q : Type 0) → (P → Q) → IfOk r (λ _. P) → OnOk r Q
on_ok (Ok x) P Q f h = f h
on_ok (Err e) P Q f h = tt

pub returns : goal.returns
returns c = on_ok c.estimate.result _ _ (λ told. told.2.fits.one_each) c.estimate.ensures.ok
