-- Lists that are related index by index.
use Rattle.std.proofs.Common.{◌≡◌, ◌∙◌, ◌<◌, ◌+◌, ◌++◌, ◌∷◌, [], ℕ, List, ap, get_or, length, map, subst, sym, take}
use Rattle.std.specs.List.{AllZip}
use Rattle.std.proofs.lemmas.List.{map-append, take_more}

-- one index more
zip-push : {A B : Type 0} (R : A → B → Type 0) (xs : List A) (ys : List B) (x : A) (y : B) → AllZip R xs ys → R x y → AllZip R (xs ++ x ∷ []) (ys ++ y ∷ [])
zip-push R [] [] x y all last = (last, tt)
zip-push R [] (b ∷ ys) x y all last = absurd all
zip-push R (a ∷ xs) [] x y all last = absurd all
zip-push R (a ∷ xs) (b ∷ ys) x y all last = (all.0, zip-push R xs ys x y all.1 last)

-- of what two lists stand for
zip-more : {A B C D : Type 0} (R : C → D → Type 0) (f : A → C) (g : B → D) (xs : List A) (ys zs : List B) (x : A) (y : B) → AllZip R (map f xs) (map g ys) → R (f x) (g y) → zs ≡ ys ++ y ∷ [] →
    AllZip R (map f (xs ++ x ∷ [])) (map g zs)
zip-more R f g xs ys zs x y all last is =
    subst (λ l. AllZip R (map f (xs ++ x ∷ [])) (map g l)) (sym is)
    (subst (λ l. AllZip R l (map g (ys ++ y ∷ []))) (sym (map-append f xs (x ∷ [])))
    (subst (AllZip R (map f xs ++ f x ∷ [])) (sym (map-append g ys (y ∷ []))) (zip-push R (map f xs) (map g ys) (f x) (g y) all last)))

-- one more of the first items
pub zip-next : {A B C D : Type 0} (R : C → D → Type 0) (f : A → C) (g : B → D) (xs : List A) (i : ℕ) (x other : A) (ys zs : List B) (y : B) → i < length xs → x ≡ get_or xs i other →
    AllZip R (map f (take i xs)) (map g ys) → R (f x) (g y) → zs ≡ ys ++ y ∷ [] → AllZip R (map f (take (i + 1) xs)) (map g zs)
zip-next R f g xs i x other ys zs y within is all last pushed =
    let next : take (i + 1) xs ≡ take i xs ++ x ∷ [] = take_more xs i other within ∙ ap (λ item. take i xs ++ item ∷ []) (sym is) in
    subst (λ l. AllZip R (map f l) (map g zs)) (sym next) (zip-more R f g (take i xs) ys zs x y all last pushed)
