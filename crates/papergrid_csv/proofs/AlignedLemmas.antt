-- Settings of the columns that a test picks, one column at a time.
use Rattle.std.proofs.Common.{◌≡◌, ◌∙◌, ◌+◌, ◌-◌, ◌<◌, ◌≤◌, ◌++◌, ◌∷◌, [], ℕ, Bool, true, false, List, ap, append-nil, append_assoc, arith, cond, drop, flat_map, length, map, slice_index_or, suc, sym}
use Rattle.std.proofs.lemmas.List.{drop_more}
use Rattle.std.specs.List.{filter, range_with_len}

-- the columns from one on are it and those behind it
next-column : (c n : ℕ) → c < n → range_with_len c (n - c) ≡ c ∷ range_with_len (c + 1) (n - (c + 1))
next-column c n below =
    let more : n - c ≡ suc (n - (c + 1)) = omega arith in
    ap (range_with_len c) more

module _ {X : Type 0} (picks : ℕ → Bool) (setting : ℕ → X) where
  abbrev pub of_rest : ℕ → ℕ → List X
  of_rest c n = map setting (filter picks (range_with_len c (n - c)))

  -- a column that is picked
  pub picked-next : (c n : ℕ) (now next whole : List X) → c < n → picks c ≡ true → next ≡ now ++ setting c ∷ [] → now ++ of_rest c n ≡ whole → next ++ of_rest (c + 1) n ≡ whole
  picked-next c n now next whole below picked is so_far =
      ap (λ l. l ++ of_rest (c + 1) n) is ∙ append_assoc now (setting c ∷ []) (of_rest (c + 1) n)
      ∙ ap (λ l. now ++ l) (sym (ap (λ cs. map setting (filter picks cs)) (next-column c n below) ∙ ap (λ b. map setting (cond b (c ∷ filter picks (range_with_len (c + 1) (n - (c + 1)))) (filter picks (range_with_len (c + 1) (n - (c + 1)))))) picked))
      ∙ so_far

  -- one that is not
  pub passed-next : (c n : ℕ) (now next whole : List X) → c < n → picks c ≡ false → next ≡ now → now ++ of_rest c n ≡ whole → next ++ of_rest (c + 1) n ≡ whole
  passed-next c n now next whole below passed is so_far =
      ap (λ l. l ++ of_rest (c + 1) n) is
      ∙ ap (λ l. now ++ l) (sym (ap (λ cs. map setting (filter picks cs)) (next-column c n below) ∙ ap (λ b. map setting (cond b (c ∷ filter picks (range_with_len (c + 1) (n - (c + 1)))) (filter picks (range_with_len (c + 1) (n - (c + 1)))))) passed))
      ∙ so_far

  -- behind the last one
  pub none-left : (c n : ℕ) (now whole : List X) → n ≤ c → now ++ of_rest c n ≡ whole → now ≡ whole
  none-left c n now whole past so_far =
      let none : n - c ≡ 0 = omega arith in
      sym (append-nil now) ∙ ap (λ k. now ++ map setting (filter picks (range_with_len c k))) (sym none) ∙ so_far

-- ---- lists of settings for each entry

-- one entry more
pub entry-next : {A X : Type 0} (settings : A → List X) (entries : List A) (i : ℕ) (entry : A) (now next whole : List X) → i < length entries →
    slice_index_or entries i entry ≡ entry → next ≡ now ++ settings entry → now ++ flat_map settings (drop i entries) ≡ whole → next ++ flat_map settings (drop (i + 1) entries) ≡ whole
entry-next settings entries i entry now next whole below at is so_far =
    let left : List _ = flat_map settings (drop (i + 1) entries) in
    ap (λ l. l ++ left) is ∙ append_assoc now (settings entry) left
    ∙ ap (λ l. now ++ l) (sym (ap (flat_map settings) (drop_more entries i entry below) ∙ ap (λ e. settings e ++ left) at)) ∙ so_far
