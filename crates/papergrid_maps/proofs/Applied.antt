-- A list of calls that is made one by one.
use Rattle.std.proofs.Common.{length, take, arith, ◌+◌, ◌^◌, ◌≡◌, ◌<◌, ◌≤◌, Fits, w64, ℕ, Bool, true, false, List, [], ◌∷◌, ◌++◌, Some, refl, sym, ap, subst, ◌∙◌, append_assoc}
use Rattle.std.specs.List.{All, slice_get}
use Rattle.std.proofs.lemmas.List.{append-nil, length-append, take-append-le, take_all}
use Rattle.std.proofs.lemmas.List.Elements.{All-get_or}
use Rattle.std.proofs.lemmas.Option.{get_or_from_slice_get, slice_get_within}

module _ {C : Type 0} where
  -- the calls done, of all, with those that are left; and what is told of those done
  pub record AppliedSoFar (Told : List C → Type 0) (calls left all : List C) (done : ℕ) : Type 0 where
    pub counted : done ≡ length calls
    pub split : calls ++ left ≡ all
    pub told : Told calls

  pub applied_more : {Before After : List C → Type 0} {calls left left' all : List C} {done : ℕ} (call : C) → left ≡ call ∷ left' → After (calls ++ call ∷ [])
      → AppliedSoFar Before calls left all done → AppliedSoFar After (calls ++ call ∷ []) left' all (done + 1)
  applied_more {calls = calls} {left' = left'} call is told so_far = record {
    counted = grind (arith, length-append {A = C} calls (call ∷ []), so_far.counted);
    split = append_assoc calls (call ∷ []) left' ∙ ap (λ xs. calls ++ xs) (sym is) ∙ so_far.split;
    told = told;
  }

  pub told_so_far : {Told : List C → Type 0} {calls left all : List C} {done : ℕ} → AppliedSoFar Told calls left all done → Told (take done all)
  told_so_far {Told = Told} {calls = calls} {left = left} {done = done} so_far =
      subst Told (sym (ap (λ xs. take done xs) (sym so_far.split) ∙ ap (λ n. take n (calls ++ left)) so_far.counted ∙ take-append-le (length calls) calls left (omega arith) ∙ take_all (length calls) calls (omega arith))) so_far.told

  after : (calls : List C) (call : C) (rest : List C) → slice_get (calls ++ call ∷ rest) (length calls) ≡ Some call
  after [] call rest = refl
  after (first ∷ calls) call rest = after calls call rest

  -- the first of the calls left stands where those done end
  pub next_call : {Told : List C → Type 0} {calls left left' all items : List C} {done : ℕ} (call : C) → left ≡ call ∷ left' → all ≡ items
      → AppliedSoFar Told calls left all done → slice_get items done ≡ Some call
  next_call {calls = calls} {left' = left'} call is given so_far =
      (λ i. slice_get ((sym given ∙ sym so_far.split ∙ ap (λ xs. calls ++ xs) is) i) (so_far.counted i)) ∙ after calls call left'

  pub holds_at : (P : C → Type 0) (calls : List C) (n : ℕ) (call : C) → slice_get calls n ≡ Some call → All P calls → P call
  holds_at P calls n call is all = subst P (get_or_from_slice_get calls n call call is) (All-get_or P calls n call (slice_get_within calls n call is) all)

  pub all_told : {Told : List C → Type 0} {calls left all : List C} {done : ℕ} → left ≡ [] → AppliedSoFar Told calls left all done → Told all
  all_told {Told = Told} {calls = calls} is so_far = subst Told (sym (append-nil calls) ∙ ap (λ xs. calls ++ xs) (sym is) ∙ so_far.split) so_far.told

  pub next_fits : (calls : List C) (n count room : ℕ) (call : C) → slice_get calls n ≡ Some call → count ≡ length calls → count ≤ room → room < 2 ^ 63 → Fits w64 (n + 1)
  next_fits calls n count room call is counted within small = omega (arith, counted, within, small, slice_get_within calls n call is)

pub true_from : (b : Bool) → (b ≡ false → false ≡ true) → b ≡ true
true_from true contradicts = refl
true_from false contradicts = contradicts refl
