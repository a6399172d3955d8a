-- From the mask of one load of bytes to how many of them pass a test, from the front on.
use Rattle.std.proofs.Common.{◌≡◌, ◌+◌, ◌<◌, ◌≤◌, ◌%◌, ◌^◌, ℕ, zero, suc, List, [], ◌∷◌, Bool, true, false, not, cond, map, length, drop, get_or, Fits, w8, refl, ap, ap₂, sym, subst, ◌∙◌, arith, rules}
use Rattle.std.specs.List.{prefix_len}
use Rattle.std.proofs.lemmas.Bool.{agree_below, agree_below_at, cond-true, cond-false, eq-eqb, ne_eqb}
use Rattle.std.proofs.lemmas.List.{length-map, length-drop, take_all, take-append-drop, drop-drop}
use Rattle.std.proofs.lemmas.List.Folds.{prefix_len-append}
use Rattle.std.proofs.lemmas.List.Sums.{prefix_len-le-length}
use Rattle.std.proofs.lemmas.Simd.{map-map, mask_l-mod, length-chunk, chunk-fits, below_from_Fits, leading_from_mask_l, trailing_mask_l}
use lib.Count.{count_trailing_zeros}
use lib.Lanes.{Each1, chunk, mask_l, top}

-- tests that agree at bytes
abbrev Agree : (ℕ → Bool) → (ℕ → Bool) → Type 0
Agree p q = (b : ℕ) → b < 256 → p b ≡ q b

pub by_table : (p q : ℕ → Bool) → agree_below p q 256 ≡ true → Agree p q
by_table p q agree b below = agree_below_at p q 256 b agree below

same_front : (p q : ℕ → Bool) (bytes : List ℕ) → Agree p q → Each1 (λ x. x < 256) bytes → prefix_len p bytes ≡ prefix_len q bytes
same_front p q [] agree each = refl
same_front p q (b ∷ bytes) agree each = ap₂ (λ v n. cond v (1 + n) 0) (agree b each.0) (same_front p q bytes agree each.1)

module _ (q : ℕ → Bool) (d : List ℕ) (i n : ℕ) (z : List ℕ) (room : i + n ≤ length d) (few : n ≤ 64) (fits : (k : ℕ) → Fits w8 (get_or d k 0))
    (f : ℕ → ℕ) (lanes : z ≡ map f (chunk i n d)) (agree : Agree (λ x. not (top 7 (f x))) q) where
  abbrev stops : ℕ → Bool
  stops x = top 7 (f x)

  long : length (chunk i n d) ≡ n
  long = length-chunk i n d room

  mask : mask_l (map (top 7) z) % 2 ^ 64 ≡ mask_l (map stops (chunk i n d))
  mask =
      let v = chunk i n d in
      ap (λ l. mask_l l % 2 ^ 64) (ap (map (top 7)) lanes ∙ map-map (top 7) f v) ∙ mask_l-mod (map stops v) 64 (omega (arith, length-map v stops, long))

  same : prefix_len (λ x. not (stops x)) (chunk i n d) ≡ prefix_len q (chunk i n d)
  same = same_front (λ x. not (stops x)) q (chunk i n d) agree (below_from_Fits w8 (chunk i n d) (chunk-fits w8 i n d fits))

  pub all_pass : mask_l (map (top 7) z) % 2 ^ 64 ≡ 0 → n ≡ prefix_len q (chunk i n d)
  all_pass none = sym long ∙ sym (leading_from_mask_l stops (chunk i n d) (sym mask ∙ none)) ∙ same

  pub first_other : ¬ (mask_l (map (top 7) z) % 2 ^ 64 ≡ 0) → count_trailing_zeros 64 (mask_l (map (top 7) z) % 2 ^ 64) ≡ prefix_len q (chunk i n d)
  first_other some = ap (count_trailing_zeros 64) mask ∙ trailing_mask_l stops 64 (chunk i n d) (omega (arith, long)) (omega (arith, mask)) ∙ same

-- where all of a load pass, the bytes after it are counted on
counted_on : (q : ℕ → Bool) (bytes : List ℕ) (i n r : ℕ) → i + n ≤ length bytes → r ≡ prefix_len q (chunk i n bytes) → n ≤ r → (r ≡ n) × (prefix_len q (drop i bytes) ≡ r + prefix_len q (drop (i + r) bytes))
counted_on q bytes i n r room is all =
    let long = length-chunk i n bytes room in
    let bound = prefix_len-le-length q (chunk i n bytes) in
    let same : r ≡ n = omega arith in
    let full : prefix_len q (chunk i n bytes) ≡ length (chunk i n bytes) = omega arith in (
      same,
      ap (prefix_len q) (sym (take-append-drop n (drop i bytes))) ∙ prefix_len-append q (chunk i n bytes) (drop n (drop i bytes))
          ∙ cond-true _ _ _ (eq-eqb _ _ full) ∙ ap (λ k. k + prefix_len q (drop n (drop i bytes))) (long ∙ sym same)
          ∙ ap (λ rest. r + prefix_len q rest) (drop-drop n i bytes ∙ ap (λ k. drop (i + k) bytes) (sym same)),
    )

-- so where i bytes passed, those of the load pass too
counted_more : (q : ℕ → Bool) (bytes : List ℕ) (i n r : ℕ) → i + n ≤ length bytes → r ≡ prefix_len q (chunk i n bytes) → n ≤ r → i + prefix_len q (drop i bytes) ≡ prefix_len q bytes →
    (i + r ≤ length bytes) × (i + r + prefix_len q (drop (i + r) bytes) ≡ prefix_len q bytes)
counted_more q bytes i n r room is all so_far =
    let on = counted_on q bytes i n r room is all in
    (omega (arith, on.0), omega (arith, on.1))

-- the same by the length of the load
pub counted_past : (q : ℕ → Bool) (bytes : List ℕ) (i n r : ℕ) → i + n ≤ length bytes → r ≡ prefix_len q (chunk i n bytes) → n ≤ r → i + prefix_len q (drop i bytes) ≡ prefix_len q bytes → i + n + prefix_len q (drop (i + n) bytes) ≡ prefix_len q bytes
counted_past q bytes i n r room is all so_far =
    subst (λ k. i + k + prefix_len q (drop (i + k) bytes) ≡ prefix_len q bytes) (counted_on q bytes i n r room is all).0 (counted_more q bytes i n r room is all so_far).1

-- ---- a last load that ends with the bytes

-- those of a front that passes are passed over
passed_over : (q : ℕ → Bool) (j : ℕ) (bytes : List ℕ) → j ≤ prefix_len q bytes → j + prefix_len q (drop j bytes) ≡ prefix_len q bytes
passed_over q zero bytes h = omega arith
passed_over q (suc j) [] h = absurd (omega arith)
passed_over q (suc j) (b ∷ bytes) h = search (rules, by_first, passed_over q j bytes)
  where
    by_first : (v : Bool) → suc j ≤ cond v (1 + prefix_len q bytes) 0 → (j ≤ prefix_len q bytes → j + prefix_len q (drop j bytes) ≡ prefix_len q bytes) → suc j + prefix_len q (drop j bytes) ≡ cond v (1 + prefix_len q bytes) 0
    by_first true h over = let rest = over (omega arith) in omega arith
    by_first false h over = absurd (omega arith)

-- where the first i bytes pass, a load of the last n bytes that starts among them tells the rest
pub counted_last : (q : ℕ → Bool) (bytes : List ℕ) (i last n r : ℕ) → last + n ≡ length bytes → last ≤ i → i + prefix_len q (drop i bytes) ≡ prefix_len q bytes → r ≡ prefix_len q (chunk last n bytes) → last + r ≡ prefix_len q bytes
counted_last q bytes i last n r ends early so_far is = grind (arith, length-drop, take_all, passed_over, same)

-- a load that starts where all before it passed, and of which some do not pass
pub counted_here : (q : ℕ → Bool) (bytes : List ℕ) (i n r : ℕ) → i + n ≤ length bytes → r ≡ prefix_len q (chunk i n bytes) → r < n → i + prefix_len q (drop i bytes) ≡ prefix_len q bytes → i + r ≡ prefix_len q bytes
counted_here q bytes i n r room is few so_far =
    let long = length-chunk i n bytes room in
    let other : ¬ (prefix_len q (chunk i n bytes) ≡ length (chunk i n bytes)) = λ same. absurd (omega arith) in
    let front : prefix_len q (drop i bytes) ≡ r =
    ap (prefix_len q) (sym (take-append-drop n (drop i bytes))) ∙ prefix_len-append q (chunk i n bytes) (drop n (drop i bytes))
    ∙ cond-false _ _ _ (ne_eqb _ _ other) ∙ sym is in
    omega arith

-- a load counts no more than it reads
pub counted_few : (q : ℕ → Bool) (bytes : List ℕ) (i n r : ℕ) → i + n ≤ length bytes → r ≡ prefix_len q (chunk i n bytes) → r ≤ n
counted_few q bytes i n r room is = grind (arith, prefix_len-le-length, long, length-chunk)
