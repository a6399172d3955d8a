-- The steps of a loop over rows and of a loop over a row's cells, for what walks any lawful records.
use Rattle.std.proofs.Common.{◌≡◌, ◌+◌, ◌<◌, ◌^◌, List, [], ◌∷◌, ◌++◌, length, map, refl, ap, sym, ◌∙◌, arith, subst, length-append}
use Rattle.std.specs.Prelude.{Option, Some}
use Rattle.std.specs.Iterator.{Yields, Count}
use Rattle.std.specs.List.{AllZip}
use Rattle.papergrid_text.specs.Records.{IsShort}
use Rattle.papergrid_text.proofs.Walks.{map_twice}

pub yields_more : {S A : Type 0} (steps : S → Option A → S → Type 0) (s t u : S) (xs : List A) (x : A) → Yields steps s xs t → steps t (Some x) u → Yields steps s (xs ++ x ∷ []) u
yields_more steps s t u [] x e step = (u, subst (λ v. steps v (Some x) u) (sym e) step, refl)
yields_more steps s t u (y ∷ xs) x (j, first, rest) step = (j, first, yields_more steps j t u xs x rest step)

-- one more row with its cells
pub zip_more : {A B : Type 0} (R : A → B → Type 0) (xs : List A) (ys : List B) (x : A) (y : B) → AllZip R xs ys → R x y → AllZip R (xs ++ x ∷ []) (ys ++ y ∷ [])
zip_more R [] [] x y z r = (r, tt)
zip_more R [] (b ∷ ys) x y z r = absurd z
zip_more R (a ∷ xs) [] x y z r = absurd z
zip_more R (a ∷ xs) (b ∷ ys) x y z r = (z.0, zip_more R xs ys x y z.1 r)

-- one more item fits the count
pub one_more_fits : {S A : Type 0} {can : S → Type 0} {left : S → Count} {steps : S → Option A → S → Type 0} {P : A → Type 0} {it : S} → IsShort can left steps P it → (t u : S) (xs : List A) (x : A) → Yields steps it xs t → steps t (Some x) u → length xs + 1 < 2 ^ 64
one_more_fits {steps = steps} {it = it} short t u xs x walked step =
    let more = short.fits (xs ++ x ∷ []) u (yields_more steps it t u xs x walked step) in
    let e = length-append xs (x ∷ []) in omega arith

-- ---- what a caller reads of the cells told

pub map_map_twice : {A B C : Type 0} (v : A → B) (g : B → C) (xs : List (List A)) → map (map g) (map (map v) xs) ≡ map (map (λ x. g (v x))) xs
map_map_twice v g [] = refl
map_map_twice v g (x ∷ xs) = let a = map_twice v g x in let b = map_map_twice v g xs in cc

pub told_by : {A B C R : Type 0} (v : A → B) (g : B → C) (items : R → List B) (cells : List (List A)) (rows : List R) → map (map v) cells ≡ map items rows → map (map (λ x. g (v x))) cells ≡ map (λ row. map g (items row)) rows
told_by v g items cells rows e = sym (map_map_twice v g cells) ∙ ap (map (map g)) e ∙ map_twice items (map g) rows
