-- The steps of the tests' consumer of records.
use Rattle.std.proofs.Common.{◌≡◌, ℕ, ◌<◌, ◌≤◌, List, [], ◌∷◌, ◌++◌, length, map, refl, ap, sym, ◌∙◌, arith, zero, suc, get_or, max}
use Rattle.std.specs.Prelude.{slice_set, replicate}
use Rattle.std.specs.List.{fold}
use Rattle.std.proofs.lemmas.List.{map-append, length-map}
use Rattle.std.proofs.lemmas.List.Sums.{fold-append}
use Rattle.papergrid_layout_checks.specs.ColumnWidths.{widen, greatest_widths, raised_widths}
use Rattle.papergrid_text.proofs.RowSteps.{map_map_twice, told_by}

pub widen-none : (ws : List ℕ) → widen ws [] ≡ ws
widen-none [] = refl
widen-none (w ∷ ws) = refl

-- one more cell raises the number of its column, if there is one
widen-more : (ws row : List ℕ) (c : ℕ) → widen ws (row ++ c ∷ []) ≡ raised_widths (widen ws row) (length row) c
widen-more [] row c = refl
widen-more (w ∷ ws) [] c = ap (λ ys. max w c ∷ ys) (widen-none ws)
widen-more (w ∷ ws) (r ∷ row) c = ap (λ ys. max w r ∷ ys) (widen-more ws row c)

pub raised-past : (xs : List ℕ) (n v : ℕ) → length xs ≤ n → raised_widths xs n v ≡ xs
raised-past [] n v h = refl
raised-past (x ∷ xs) zero v h = absurd (omega arith)
raised-past (x ∷ xs) (suc n) v h = ap (λ ys. x ∷ ys) (raised-past xs n v (omega arith))

pub raised-keeps : (xs : List ℕ) (n v : ℕ) → n < length xs → v ≤ get_or xs n 0 → raised_widths xs n v ≡ xs
raised-keeps [] n v h k = absurd (omega arith)
raised-keeps (x ∷ xs) zero v h k = let e : max x v ≡ x = omega arith in cc
raised-keeps (x ∷ xs) (suc n) v h k = ap (λ ys. x ∷ ys) (raised-keeps xs n v (omega arith) k)

pub raised-writes : (xs : List ℕ) (n v : ℕ) → n < length xs → get_or xs n 0 < v → raised_widths xs n v ≡ slice_set xs n v
raised-writes [] n v h k = absurd (omega arith)
raised-writes (x ∷ xs) zero v h k = let e : max x v ≡ v = omega arith in cc
raised-writes (x ∷ xs) (suc n) v h k = ap (λ ys. x ∷ ys) (raised-writes xs n v (omega arith) k)

pub ruleset raise_rules = (raised-past, raised-keeps, raised-writes)

-- the same, in terms of the cells themselves
pub step-cell : {C : Type 0} (f : C → ℕ) (ws old new : List ℕ) (cells : List C) (cell : C) (n v : ℕ) → old ≡ widen ws (map f cells) → n ≡ length cells → v ≡ f cell → new ≡ raised_widths old n v → new ≡ widen ws (map f (cells ++ cell ∷ []))
step-cell f ws old new cells cell n v e same is step =
    let m = map-append f cells (cell ∷ []) in let l = same ∙ sym (length-map cells f) in
    rw (m, widen-more ws (map f cells) (f cell), ← e, ← l, ← is) step

-- one more row
pub step-row : {C : Type 0} (f : C → ℕ) (start old new : List ℕ) (rows : List (List C)) (row : List C) → old ≡ fold widen start (map (map f) rows) → new ≡ widen old (map f row) → new ≡ fold widen start (map (map f) (rows ++ row ∷ []))
step-row f start old new rows row e step =
    rw map-append (rw fold-append (step ∙ ap (λ ws. widen ws (map f row)) e))

pub at_the_end : {C : Type 0} (f : C → ℕ) (n m : ℕ) (rows : List (List C)) (widths : List ℕ) → widths ≡ fold widen (replicate n 0) (map (map f) rows) → n ≡ m → widths ≡ greatest_widths m (map (map f) rows)
at_the_end f n m rows widths e same = e ∙ ap (λ k. fold widen (replicate k 0) (map (map f) rows)) same

-- what a caller that knows its rows reads of the widths
pub from_told : {A B R : Type 0} (v : A → B) (g : B → ℕ) (items : R → List B) (cells : List (List A)) (rows known : List R) (n m : ℕ) (widths : List ℕ)
    → map (map v) cells ≡ map items rows → rows ≡ known → n ≡ m → widths ≡ greatest_widths n (map (map (λ x. g (v x))) cells) → widths ≡ greatest_widths m (map (λ row. map g (items row)) known)
from_told v g items cells rows known n m widths told same count is =
    is ∙ ap (λ k. greatest_widths k (map (map (λ x. g (v x))) cells)) count ∙ ap (greatest_widths m) (told_by v g items cells rows told ∙ ap (map (λ row. map g (items row))) same)

-- the same of rows that are lists
pub from_lists : {A B : Type 0} (v : A → B) (g : B → ℕ) (cells : List (List A)) (rows : List (List B)) (n m : ℕ) (widths : List ℕ)
    → map (map v) cells ≡ rows → n ≡ m → widths ≡ greatest_widths n (map (map (λ x. g (v x))) cells) → widths ≡ greatest_widths m (map (map g) rows)
from_lists v g cells rows n m widths told count is =
    is ∙ ap (λ k. greatest_widths k (map (map (λ x. g (v x))) cells)) count ∙ ap (greatest_widths m) (sym (map_map_twice v g cells) ∙ ap (map (map g)) told)
