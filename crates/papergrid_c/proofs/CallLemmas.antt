-- From what a table answers to the number that C is told.
use Rattle.std.proofs.Common.{◌≡◌, ℤ, Result, Ok, Err, OnErr, OnOk, IfErr, inl, inr}
use Rattle.std.specs.Prelude.{MatchResult}
use Rattle.papergrid_builder.specs.BuilderStates.{BuilderState}
use Rattle.papergrid_builder.specs.declared.error.BuilderError.{BuilderError}
use Rattle.papergrid_c.specs.Calls.{Ends}
use Rattle.papergrid_c.specs.Numbers.{done, number_of}

pub ended : {A : Type 0} (Done : BuilderState → Type 0) (Refused : BuilderError → Type 0) (old new : BuilderState) (result : ℤ) (r : Result A BuilderError) →
    OnOk r (Done new) → IfErr r Refused → OnErr r (new ≡ old) → MatchResult r (λ _. result ≡ done) (λ e. result ≡ number_of e) → Ends Done Refused old new result
ended Done Refused old new result (Ok x) ok refused err number = inl (ok, number)
ended Done Refused old new result (Err e) ok refused err number = inr (e, refused, err, number)
