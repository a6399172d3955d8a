-- What the walks over the chunks of a slice give.
use Rattle.std.proofs.Common.{◌≡◌, ℕ, zero, suc, ◌+◌, ◌-◌, ◌/◌, ◌<◌, ◌≤◌, ◌^◌, List, [], ◌∷◌, ◌++◌, length, map, take, drop, refl, ap, sym, ◌∙◌, arith, Bor, length-append, Option, subst}
use Rattle.std.proofs.Math.Nat.{div-le_self, div-eq_of_lt, div-eq-sub-div}
use Rattle.std.specs.Prelude.{min}
use Rattle.std.specs.Iterator.{Yields, Drains, at_most}
use Rattle.std.specs.List.{AllZip}
use Rattle.std.specs.Simd.{first_chunks}
use Rattle.std.specs.Slice.Iter.{chunk_count, chunks_steps, chunks_rest, chunks_size, chunks_exact_steps, chunks_exact_rest, chunks_exact_size, iter_steps, iter_rest}
use Rattle.std.specs.declared.slice.Chunks.{Chunks}
use Rattle.std.specs.declared.slice.ChunksExact.{ChunksExact}
use Rattle.std.specs.declared.slice.Iter.{Iter}
use Rattle.std.proofs.lemmas.Bool.{cases_lt}
use Rattle.papergrid_text.specs.Cut.{cut_rows, cut_whole_rows}
use Rattle.papergrid_text.specs.Records.{IsShort, Gives, GivesRows}
use Rattle.papergrid_text.proofs.Walks.{map_from_zip, lent_drains, short_by}

-- the n items at the front, or all where there are fewer
cut_at : {A : Type 0} (n : ℕ) (a b : List A) → length a ≡ min n (length (a ++ b)) → (take n (a ++ b) ≡ a) × (drop n (a ++ b) ≡ b)
cut_at zero [] b e = (refl, refl)
cut_at zero (x ∷ a) b e = absurd (omega arith)
cut_at (suc n) [] [] e = (refl, refl)
cut_at (suc n) [] (y ∷ b) e = absurd (omega arith)
cut_at (suc n) (x ∷ a) b e = grind (arith, cut_at n a b (omega arith))

cut_is : {A : Type 0} (n : ℕ) (whole a b : List A) → whole ≡ a ++ b → length a ≡ min n (length whole) → (take n whole ≡ a) × (drop n whole ≡ b)
cut_is n whole a b e long =
    let r = cut_at n a b (long ∙ ap (λ w. min n (length w)) e) in
    (ap (take n) e ∙ r.0, ap (drop n) e ∙ r.1)

-- one row is cut off
one_part : (k n : ℕ) → 0 < n → 0 < k → chunk_count k n ≡ chunk_count (k - min n k) n + 1
one_part k n pos some = grind (arith, cases_lt, div-eq-sub-div, div-le_self, div-eq_of_lt)

module _ {X : Type 0} where
  -- the chunks that came are the parts at the front
  cut_yields : (n : ℕ) (s t : Chunks X) (xs : List (Bor (List X))) → n ≡ chunks_size s → Yields (chunks_steps {A = X}) s xs t → map (λ x. x.now) xs ≡ first_chunks n (length xs) (chunks_rest s)
  cut_yields n s t [] same e = refl
  cut_yields n s t (x ∷ xs) same (j, (size, (cut, long, some)), rest) = grind (arith, cut_is, cut_yields n j t xs (same ∙ sym size) rest)

  -- a whole walk counts the parts
  cut_count : (n : ℕ) (s t : Chunks X) (xs : List (Bor (List X))) → 0 < n → n ≡ chunks_size s → Yields (chunks_steps {A = X}) s xs t → length (chunks_rest t) ≡ 0 → length xs ≡ chunk_count (length (chunks_rest s)) n
  cut_count n s t [] pos same e last = let z = ap (λ u. length (chunks_rest u)) e in omega arith
  cut_count n s t (x ∷ xs) pos same (j, (size, (cut, long, some)), rest) last =
      let both = ap length cut ∙ length-append x.now (chunks_rest j) in
      let m : length (chunks_rest j) ≡ length (chunks_rest s) - min n (length (chunks_rest s)) = omega arith in
      let one = one_part (length (chunks_rest s)) n pos some in
      omega (arith, one, ap (λ k. chunk_count k n) m, cut_count n j t xs pos (same ∙ sym size) rest last)

  -- each chunk takes an item
  cut_fits : (s t : Chunks X) (xs : List (Bor (List X))) → 0 < chunks_size s → Yields (chunks_steps {A = X}) s xs t → length xs ≤ length (chunks_rest s)
  cut_fits s t [] pos e = omega arith
  cut_fits s t (x ∷ xs) pos (j, (size, (cut, long, some)), rest) = grind (arith, length-append, cut_fits j t xs (omega arith) rest)

  pub chunks_short : (P : Bor (List X) → Type 0) → ((x : Bor (List X)) → P x) → (s : Chunks X) → 0 < chunks_size s → length (chunks_rest s) < 2 ^ 64 →
      IsShort (λ s. 0 < chunks_size s) (λ s. at_most (chunk_count (length (chunks_rest s)) (chunks_size s))) (chunks_steps {A = X}) P s
  chunks_short P all s pos small = short_by P all s pos tt (λ xs t walked. let n = cut_fits s t xs pos walked in omega arith)

  chunks_drains : (s : Chunks X) (xs : List (Bor (List X))) → 0 < chunks_size s → Drains (chunks_steps {A = X}) s xs → map (λ x. x.now) xs ≡ cut_rows (chunks_size s) (chunks_rest s)
  chunks_drains s xs pos (u, (t, walked, last)) =
      cut_yields (chunks_size s) s t xs refl walked
      ∙ ap (λ k. first_chunks (chunks_size s) k (chunks_rest s)) (cut_count (chunks_size s) s t xs pos refl walked last.1.0)

  -- ---- whole chunks alone

  whole_yields : (n : ℕ) (s t : ChunksExact X) (xs : List (Bor (List X))) → n ≡ chunks_exact_size s → Yields (chunks_exact_steps {A = X}) s xs t → map (λ x. x.now) xs ≡ first_chunks n (length xs) (chunks_exact_rest s)
  whole_yields n s t [] same e = refl
  whole_yields n s t (x ∷ xs) same (j, (size, (cut, long), kept), rest) =
      let both = ap length cut ∙ length-append x.now (chunks_exact_rest j) in
      let parts = cut_is n (chunks_exact_rest s) x.now (chunks_exact_rest j) cut (omega arith) in
      let others = whole_yields n j t xs (same ∙ sym size) rest in
      cc

  whole_count : (n : ℕ) (s t : ChunksExact X) (xs : List (Bor (List X))) → 0 < n → n ≡ chunks_exact_size s → Yields (chunks_exact_steps {A = X}) s xs t → length (chunks_exact_rest t) < n → length xs ≡ length (chunks_exact_rest s) / n
  whole_count n s t [] pos same e last = grind (arith, div-eq_of_lt)
  whole_count n s t (x ∷ xs) pos same (j, (size, (cut, long), kept), rest) last =
      let both = ap length cut ∙ length-append x.now (chunks_exact_rest j) in
      let one : length (chunks_exact_rest s) / n ≡ (length (chunks_exact_rest s) - n) / n + 1 = div-eq-sub-div pos (omega arith) in
      let c : (length (chunks_exact_rest s) - n) / n ≡ length (chunks_exact_rest j) / n = ap (λ k. k / n) (omega arith) in
      omega (arith, one, c, whole_count n j t xs pos (same ∙ sym size) rest last)

  whole_size : (s t : ChunksExact X) (xs : List (Bor (List X))) → Yields (chunks_exact_steps {A = X}) s xs t → chunks_exact_size t ≡ chunks_exact_size s
  whole_size s t [] e = ap (λ u. chunks_exact_size u) (sym e)
  whole_size s t (x ∷ xs) (j, (size, found, kept), rest) = whole_size j t xs rest ∙ size

  whole_fits : (s t : ChunksExact X) (xs : List (Bor (List X))) → 0 < chunks_exact_size s → Yields (chunks_exact_steps {A = X}) s xs t → length xs ≤ length (chunks_exact_rest s)
  whole_fits s t [] pos e = omega arith
  whole_fits s t (x ∷ xs) pos (j, (size, (cut, long), kept), rest) = grind (arith, length-append, whole_fits j t xs (omega arith) rest)

  pub whole_chunks_short : (P : Bor (List X) → Type 0) → ((x : Bor (List X)) → P x) → (s : ChunksExact X) → 0 < chunks_exact_size s → length (chunks_exact_rest s) < 2 ^ 64 →
      IsShort (λ s. 0 < chunks_exact_size s) (λ s. at_most (length (chunks_exact_rest s) / chunks_exact_size s)) (chunks_exact_steps {A = X}) P s
  whole_chunks_short P all s pos small = short_by P all s pos tt (λ xs t walked. let n = whole_fits s t xs pos walked in omega arith)

  whole_drains : (s : ChunksExact X) (xs : List (Bor (List X))) → 0 < chunks_exact_size s → Drains (chunks_exact_steps {A = X}) s xs → map (λ x. x.now) xs ≡ cut_whole_rows (chunks_exact_size s) (chunks_exact_rest s)
  whole_drains s xs pos (u, (t, walked, last)) =
      let size = whole_size s t xs walked in
      let few : length (chunks_exact_rest t) < chunks_exact_size s = let l = last.1.0 in omega arith in
      whole_yields (chunks_exact_size s) s t xs refl walked
      ∙ ap (λ k. first_chunks (chunks_exact_size s) k (chunks_exact_rest s)) (whole_count (chunks_exact_size s) s t xs pos refl walked few)

  -- ---- their cells

  module _ {row_into : Bor (List X) → Iter X → Type 0} where
    cells_of : ((row : Bor (List X)) (it : Iter X) → row_into row it → iter_rest it ≡ row.now) →
        (rows : List (Bor (List X))) (cells : List (List (Bor X))) → AllZip (Gives row_into (iter_steps {A = X})) rows cells → map (map (λ cell. cell.now)) cells ≡ map (λ x. x.now) rows
    cells_of made rows cells each =
        map_from_zip (Gives row_into (iter_steps {A = X})) (map (λ cell. cell.now)) (λ x. x.now) (λ row xs gave. lent_drains gave.iterator xs gave.walked ∙ made row gave.iterator gave.made) rows cells each

    -- what the cells are, by what a whole walk over the rows gives
    cells_cut : {S : Type 0} {steps : S → Option (Bor (List X)) → S → Type 0} (IsCut : S → Type 0) (cut : S → List (List X)) → ((s : S) (rows : List (Bor (List X))) → IsCut s → Drains steps s rows → map (λ x. x.now) rows ≡ cut s) →
        ((row : Bor (List X)) (it : Iter X) → row_into row it → iter_rest it ≡ row.now) →
        (s : S) (cells : List (List (Bor X))) → IsCut s → GivesRows (λ w it. it ≡ w) steps row_into (iter_steps {A = X}) s cells → map (map (λ cell. cell.now)) cells ≡ cut s
    cells_cut IsCut cut drains made s cells is gave =
        cells_of made gave.rows cells gave.each ∙ drains gave.walk.iterator gave.rows (subst IsCut (sym gave.walk.made) is) gave.walk.walked ∙ ap cut gave.walk.made

    pub chunk_cells : ((row : Bor (List X)) (it : Iter X) → row_into row it → iter_rest it ≡ row.now) →
        (s : Chunks X) (cells : List (List (Bor X))) → 0 < chunks_size s → GivesRows (λ w it. it ≡ w) (chunks_steps {A = X}) row_into (iter_steps {A = X}) s cells → map (map (λ cell. cell.now)) cells ≡ cut_rows (chunks_size s) (chunks_rest s)
    chunk_cells = cells_cut (λ s. 0 < chunks_size s) (λ s. cut_rows (chunks_size s) (chunks_rest s)) chunks_drains

    pub whole_chunk_cells : ((row : Bor (List X)) (it : Iter X) → row_into row it → iter_rest it ≡ row.now) →
        (s : ChunksExact X) (cells : List (List (Bor X))) → 0 < chunks_exact_size s → GivesRows (λ w it. it ≡ w) (chunks_exact_steps {A = X}) row_into (iter_steps {A = X}) s cells → map (map (λ cell. cell.now)) cells ≡ cut_whole_rows (chunks_exact_size s) (chunks_exact_rest s)
    whole_chunk_cells = cells_cut (λ s. 0 < chunks_exact_size s) (λ s. cut_whole_rows (chunks_exact_size s) (chunks_exact_rest s)) whole_drains
