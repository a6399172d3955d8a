-- What is told of a test that some value passes.
use Rattle.std.proofs.Common.{◌≡◌, Bool, true, false, refl, sym}
use Rattle.std.specs.Prelude.{◌↔◌, IsTrue, not}
use Rattle.std.specs.Bool.{OnTrue, OnFalse}
use Rattle.std.proofs.lemmas.Bool.{false≢true}

pub history_of_both : {A B W : Type 0} (b : Bool) → OnTrue b A → OnFalse b B → (A → W) → (W → B → ⊥) → IsTrue b ↔ W
history_of_both true first second here there = ((λ _. here first), (λ _. refl))
history_of_both false first second here there = ((λ h. absurd (false≢true h)), (λ w. absurd (there w second)))

pub from_not : (b : Bool) → true ≡ not b → b ≡ false
from_not true h = absurd (false≢true (sym h))
from_not false h = refl

pub not_both : (b : Bool) → false ≡ not b → b ≡ false → ⊥
not_both true h e = false≢true (sym e)
not_both false h e = false≢true h
