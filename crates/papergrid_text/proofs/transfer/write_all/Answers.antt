use Rattle.std.proofs.Common.{◌≡◌, ◌+◌, ◌-◌, ◌++◌, ℕ, List, Bool, true, false, Option, length, take, drop, refl, sym, ◌∙◌, arith, length-drop, take-append-drop, ap, nat_eq, Ok}
use Rattle.std.specs.Io.KnownBytes.{Appends}
use Rattle.std.proofs.lemmas.Bool.Decides.{nat_tests}
use Rattle.std.proofs.lemmas.List.{take_all, drop-take, take-take}
use Rattle.papergrid_text.specs.Transfer.{stalled_after}
use Rattle.papergrid_text.specs.declared.transfer.Failed.{Failed}
use Rattle.papergrid_text.proofs.KnownLemmas.{appends_more}
use Rattle.papergrid_text.proofs.transfer.write_all.Goals as goal

joined : (bytes : List ℕ) (at n : ℕ) → take (at + n) bytes ≡ take at bytes ++ take n (drop at bytes)
joined bytes at n = sym (take-append-drop at (take (at + n) bytes)) ∙ rw (drop-take at n bytes) (ap (λ front. front ++ take n (drop at bytes)) (take-take at (at + n) bytes (omega arith)))

taken : (bytes rest : List ℕ) (at n : ℕ) (a b c : Option (List ℕ)) → rest ≡ drop at bytes → Appends a b (take at bytes) → Appends b c (take n rest) → Appends a c (take (at + n) bytes)
taken bytes rest at n a b c e p q = grind (arith, joined, appends_more)

whole_rest : (bytes : List ℕ) (at : ℕ) → take (length bytes - at) (drop at bytes) ≡ drop at bytes
whole_rest bytes at = take_all _ _ (omega (arith, length-drop at bytes))

unstalled : (before : Bool) (n : ℕ) (piece : List ℕ) → nat_eq n 0 ≡ false → stalled_after {E = Failed} before (Ok n) piece ≡ before
unstalled true n piece some = refl
unstalled false n piece some = rw some refl

pub loop-at-preserved : goal.loop-at-preserved
loop-at-preserved g c = grind (arith, length-drop, taken, whole_rest, unstalled, nat_tests)
