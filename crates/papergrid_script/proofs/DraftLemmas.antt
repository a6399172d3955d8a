-- The rows of a script so far, whose last one has its cells apart.
use Rattle.std.proofs.Common.{◌≡◌, ◌-◌, ◌<◌, ◌++◌, ◌∷◌, [], ℕ, zero, suc, List, Some, None, length, set, refl, ap, ◌∙◌, arith, length-append}
use Rattle.std.specs.Prelude.{slice_get}
use Rattle.std.specs.Borrow.{Bor}
use Rattle.std.proofs.Math.Seq.{set-append_seam}
use Rattle.std.proofs.lemmas.List.{length-map, length-set, map-append, map-set}
use Rattle.papergrid_script.specs.ForProofs.Read.{onto_last}
use Rattle.papergrid_script.specs.ForProofs.Drafts.{with_last}
use Rattle.papergrid_script.specs.Seen.{rows_seen, row_texts_of}

got-set : {X : Type 0} (xs : List X) (i : ℕ) (x : X) → i < length xs → slice_get (set xs i x) i ≡ Some x
got-set [] i x h = absurd (omega arith)
got-set (y ∷ ys) zero x h = refl
got-set (y ∷ ys) (suc i) x h = got-set ys i x (omega arith)

set-twice : {X : Type 0} (xs : List X) (i : ℕ) (x y : X) → set (set xs i x) i y ≡ set xs i y
set-twice [] i x y = refl
set-twice (z ∷ zs) zero x y = refl
set-twice (z ∷ zs) (suc i) x y = ap (λ ys. z ∷ ys) (set-twice zs i x y)

-- without a row there is none for a cell
pub onto_none : (rows : List (Bor (List (Bor (List ℕ))))) (cells : List (Bor (List ℕ))) (text : List ℕ) → length rows ≡ 0 → onto_last (with_last (rows_seen rows) (row_texts_of cells)) text ≡ None
onto_none [] cells text none = refl
onto_none (row ∷ rows) cells text none = absurd (omega arith)

-- a cell that is gathered with the last row's is a cell more in the last row
pub onto_gathered : (rows : List (List (List ℕ))) (cells : List (List ℕ)) (text : List ℕ) → 0 < length rows → onto_last (with_last rows cells) text ≡ Some (with_last rows (cells ++ text ∷ []))
onto_gathered rows cells text some = grind (arith, got-set, set-twice, length-set)

-- a last row in its place
pub placed : (rows : List (Bor (List (Bor (List ℕ))))) (n : ℕ) (row : Bor (List (Bor (List ℕ)))) (cells : List (Bor (List ℕ))) → n ≡ length rows → row.now ≡ cells
    → rows_seen (set rows (n - 1) row) ≡ with_last (rows_seen rows) (row_texts_of cells)
placed rows n row cells len is = simp (len, map-set, length-map, is)

-- a row that has just begun
pub begun : (rows : List (Bor (List (Bor (List ℕ))))) (row : Bor (List (Bor (List ℕ)))) → with_last (rows_seen (rows ++ row ∷ [])) [] ≡ rows_seen rows ++ [] ∷ []
begun rows row =
    let seen = map-append (λ (r : Bor (List (Bor (List ℕ)))). row_texts_of r.now) rows (row ∷ []) in
    let many = length-append (rows_seen rows) (row_texts_of row.now ∷ []) in
    ap (λ rs. with_last rs []) seen ∙ ap (λ n. set (rows_seen rows ++ row_texts_of row.now ∷ []) n []) (omega arith) ∙ set-append_seam (rows_seen rows) (row_texts_of row.now) [] []
