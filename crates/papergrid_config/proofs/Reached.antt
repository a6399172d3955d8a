-- The call that is reached in a list of calls that is made one by one.
use Rattle.std.proofs.Common.{◌≡◌, ◌∙◌, ◌<◌, ℕ, Bool, true, false, List, ◌∷◌, ◌++◌, Some, ap, length, refl, subst, sym, rules}
use Rattle.std.proofs.Math.Seq.{get_or-append_seam}
use Rattle.std.proofs.lemmas.Bool.{false≢true}
use Rattle.std.proofs.lemmas.List.{length-append}
use Rattle.std.proofs.lemmas.Option.{slice_get-get_or}
use Rattle.std.specs.Prelude.{IfSome, slice_get, slice_index_or}
use Rattle.papergrid_maps.proofs.Applied.{AppliedSoFar}

module _ {C : Type 0} where
  -- a call stands at an index
  pub record StandsAt (call : C) (all : List C) (index : ℕ) : Type 0 where
    pub within : index < length all
    pub is : (d : C) → slice_index_or all index d ≡ call

  at_seam : (calls left : List C) (call : C) → StandsAt call (calls ++ call ∷ left) (length calls)
  at_seam calls left call = search (rules, length-append, get_or-append_seam)

  pub reached : {Told : List C → Type 0} {calls left left' all given : List C} {done : ℕ} {call : C} → AppliedSoFar Told calls left all done → left ≡ call ∷ left' → all ≡ given → StandsAt call given done
  reached {calls = calls} {left' = left'} {given = given} {call = call} so_far next all =
      subst (λ n. StandsAt call given n) (sym so_far.counted) (subst (λ xs. StandsAt call xs (length calls)) (ap (λ xs. calls ++ xs) (sym next) ∙ so_far.split ∙ all) (at_seam calls left' call))

  pub found_reached : (P : C → Type 0) {all : List C} {index : ℕ} {call : C} → StandsAt call all index → P call → IfSome (slice_get all index) P
  found_reached P {all = all} {index = index} {call = call} stands here = subst (λ found. IfSome found P) (sym (slice_get-get_or all index call stands.within ∙ ap (λ x. Some x) (stands.is call))) here

-- a test that would have been passed
pub not_passed : (b : Bool) → (b ≡ true → false ≡ true) → b ≡ false
not_passed true passed = absurd (false≢true (passed refl))
not_passed false passed = refl
