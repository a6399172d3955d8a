-- What `nth` gives of an iterator whose items are known.
use Rattle.std.proofs.Common.{◌≡◌, ℕ, ◌+◌, ◌≤◌, List, [], ◌∷◌, length, refl, ap, ◌∙◌, arith, zero, suc, drop, get_or, subst}
use Rattle.std.specs.Prelude.{Option, Some, None, MatchOption, slice_index_or}
use Rattle.std.specs.Iterator.{Yields, SkipsThenYields, AlwaysYields}
use Rattle.std.proofs.lemmas.List.{length-drop, get_or-drop}

module _ {S A B : Type 0} (steps : S → Option A → S → Type 0) (v : A → B) where
  always_after : (s t : S) (ys : List B) (xs : List A) → AlwaysYields steps v s ys → Yields steps s xs t → AlwaysYields steps v t (drop (length xs) ys)
  always_after s t ys [] h e = subst (λ z. AlwaysYields steps v z ys) e h
  always_after s t [] (x ∷ xs) h (j, step, rest) = absurd (h x j step)
  always_after s t (y ∷ ys) (x ∷ xs) h (j, step, rest) = always_after j t ys xs (h.1 x j step).1 rest

  none_at : (t u : S) (zs : List B) → AlwaysYields steps v t zs → steps t None u → length zs ≡ 0
  none_at t u [] h step = refl
  none_at t u (z ∷ zs) h step = absurd (h.0 u step)

  some_at : (t u : S) (zs : List B) (x : A) (d : B) → AlwaysYields steps v t zs → steps t (Some x) u → v x ≡ get_or zs 0 d
  some_at t u [] x d h step = absurd (h x u step)
  some_at t u (z ∷ zs) x d h step = (h.1 x u step).0

  -- the item at the place, where there is one
  pub nth_item : (s u : S) (ys : List B) (n : ℕ) (r : Option A) → AlwaysYields steps v s ys → SkipsThenYields steps s n r u → MatchOption r (length ys ≤ n) (λ x. (d : B) → v x ≡ slice_index_or ys n d)
  nth_item s u ys n None h (xs, (t, walked, last), few) =
      let e = none_at t u (drop (length xs) ys) (always_after s t ys xs h walked) last in
      let l = length-drop (length xs) ys in omega arith
  nth_item s u ys n (Some x) h (xs, (t, walked, last), same) = λ d.
      some_at t u (drop (length xs) ys) x d (always_after s t ys xs h walked) last ∙ (let e : length xs + 0 ≡ n = omega arith in get_or-drop (length xs) ys 0 d ∙ ap (λ k. get_or ys k d) e)

pub past_the_end : {B : Type 0} (ys : List B) (n : ℕ) (d : B) → length ys ≤ n → d ≡ slice_index_or ys n d
past_the_end [] n d h = refl
past_the_end (y ∷ ys) zero d h = absurd (omega arith)
past_the_end (y ∷ ys) (suc n) d h = past_the_end ys n d (omega arith)

pub at_some : {A : Type 0} (N : Type 0) (P : A → Type 0) (r : Option A) (x : A) → r ≡ Some x → MatchOption r N P → P x
at_some N P r x e h = let Q : Option _ → Type 0 = λ o. MatchOption o N P in subst Q e h

pub at_none : {A : Type 0} (N : Type 0) (P : A → Type 0) (r : Option A) → r ≡ None → MatchOption r N P → N
at_none N P r e h = let Q : Option _ → Type 0 = λ o. MatchOption o N P in subst Q e h
