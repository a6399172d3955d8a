-- The steps of the walk.
use Rattle.std.proofs.Common.{◌≡◌, ℕ, ◌+◌, ◌<◌, ◌^◌, List, [], ◌∷◌, ◌++◌, length, refl, ap, ◌∙◌, arith, suc, length-append}
use Rattle.std.specs.Prelude.{Option, Some}
use Rattle.std.specs.Iterator.{Yields, Count}
use Rattle.std.specs.List.{AllZip}
use Rattle.std.proofs.lemmas.List.{append-nil, append_assoc}
use Rattle.papergrid_text.specs.Records.{IsShort}
use Rattle.papergrid_text.proofs.RowSteps.{one_more_fits}
use Rattle.papergrid_walk.specs.Cells.{placed_from, placed_row}

-- one more is counted
pub counted_more : {A : Type 0} (xs : List A) (x : A) (count : ℕ) → count ≡ length xs → count + 1 ≡ length (xs ++ x ∷ [])
counted_more xs x count same = let more = length-append xs (x ∷ []) in omega arith

-- and their count fits
pub one_more_counted : {S A : Type 0} {can : S → Type 0} {left : S → Count} {steps : S → Option A → S → Type 0} {P : A → Type 0} {it : S} → IsShort can left steps P it → (t u : S) (xs : List A) (x : A) (count : ℕ) → count ≡ length xs → Yields steps it xs t → steps t (Some x) u → count + 1 < 2 ^ 64
one_more_counted short t u xs x count same walked step = let fits = one_more_fits short t u xs x walked step in omega arith

pub zip_length : {A B : Type 0} (R : A → B → Type 0) (xs : List A) (ys : List B) → AllZip R xs ys → length xs ≡ length ys
zip_length R [] [] z = refl
zip_length R [] (b ∷ ys) z = absurd z
zip_length R (a ∷ xs) [] z = absurd z
zip_length R (a ∷ xs) (b ∷ ys) z = ap (λ n. suc n) (zip_length R xs ys z.1)

module _ {C : Type 0} where
  pub placed_row-more : (r c : ℕ) (cells : List C) (cell : C) →
      placed_row r c (cells ++ cell ∷ []) ≡ placed_row r c cells ++ (record { row = r; col = c + length cells }, cell) ∷ []
  placed_row-more r c [] cell = let e : c ≡ c + 0 = omega arith in ap (λ k. (record { row = r; col = k }, cell) ∷ []) e
  placed_row-more r c (x ∷ cells) cell =
      let rest = placed_row-more r (c + 1) cells cell in
      let e : c + 1 + length cells ≡ c + suc (length cells) = omega arith in
      ap (λ ps. (record { row = r; col = c }, x) ∷ ps) (rest ∙ ap (λ k. placed_row r (c + 1) cells ++ (record { row = r; col = k }, cell) ∷ []) e)

  pub placed_from-more : (r : ℕ) (rows : List (List C)) (row : List C) →
      placed_from r (rows ++ row ∷ []) ≡ placed_from r rows ++ placed_row (r + length rows) 0 row
  placed_from-more r [] row = let e : r ≡ r + 0 = omega arith in append-nil (placed_row r 0 row) ∙ ap (λ k. placed_row k 0 row) e
  placed_from-more r (x ∷ rows) row = grind (arith, append_assoc, placed_from-more (r + 1) rows row)
