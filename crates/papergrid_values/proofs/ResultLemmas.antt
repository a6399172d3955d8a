-- What results are told by, and two tests of one fact.
use Rattle.std.proofs.Common.{◌≡◌, Bool, true, false, refl, sym}
use Rattle.std.specs.Prelude.{◌↔◌, IsTrue, Result, Ok, Err, OnErr, OnOk}

pub on_err : {A E : Type 0} (r : Result A E) {P : Type 0} → P → OnErr r P
on_err (Ok x) p = tt
on_err (Err e) p = p

pub on_err_map : {A E P Q : Type 0} (r : Result A E) → (P → Q) → OnErr r P → OnErr r Q
on_err_map (Ok x) f q = q
on_err_map (Err e) f q = f q

pub on_ok_map : {A E : Type 0} (r : Result A E) {P Q : Type 0} → (P → Q) → OnOk r P → OnOk r Q
on_ok_map (Ok x) f p = f p
on_ok_map (Err e) f p = p

-- two tests of one fact are equal
pub same_answer : {V : Type 0} (a b : Bool) → (IsTrue a ↔ V) → (IsTrue b ↔ V) → a ≡ b
same_answer true b f g = sym (g.1 (f.0 refl))
same_answer false true f g = f.1 (g.0 refl)
same_answer false false f g = refl
