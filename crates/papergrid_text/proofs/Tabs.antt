-- Tabs and the spaces in their place.
use Rattle.std.proofs.Common.{◌≡◌, ℕ, ◌+◌, List, [], ◌∷◌, ◌++◌, refl, ap, arith, zero, suc, true, false, Bool, replicate, count_by, append_assoc, cond, lit<, map}
use Rattle.std.specs.Prelude.{◌==◌}
use Rattle.std.specs.Char.{encode_utf8}
use Rattle.std.specs.List.{flat_map, zip}
use Rattle.std.specs.Str.{encode_utf8_all, IsUtf8}
use Rattle.std.proofs.lemmas.Bool.{eqb-true}
use Rattle.std.proofs.lemmas.List.{append-nil}
use Rattle.std.proofs.lemmas.List.Sums.{sum_by-append}
use Rattle.std.proofs.lemmas.Str.{encodes-append, encode_ascii, encodes-chars}
use Rattle.papergrid_text.specs.Text.{is_spaced, in_place_of, tabs_replaced}

pub map_same : (xs : List ℕ) → map (λ x. x) xs ≡ xs
map_same [] = refl
map_same (x ∷ xs) = ap (λ ys. x ∷ ys) (map_same xs)

-- ---- what is written for one character

encodes-spaces : (n : ℕ) → encode_utf8_all (replicate n 32) ≡ replicate n 32
encodes-spaces zero = refl
encodes-spaces (suc n) = rw (encode_ascii 32 (lit< tt), encodes-spaces n) refl

pub spaces_if : (n left c : ℕ) (old new : List ℕ) → is_spaced n left c ≡ true → new ≡ old ++ replicate n 32 → new ≡ old ++ encode_utf8_all (in_place_of n (left, c))
spaces_if n left c old new passes e = rw (passes, encodes-spaces n) e

-- ---- one more character

-- the last of the characters, or `left` where there is none
abbrev pub last_of : ℕ → List ℕ → ℕ
last_of left [] = left
last_of left (c ∷ cs) = last_of c cs

pub last_of-more : (left : ℕ) (cs : List ℕ) (c : ℕ) → last_of left (cs ++ c ∷ []) ≡ c
last_of-more left [] c = refl
last_of-more left (d ∷ cs) c = last_of-more d cs c

-- the characters with what stands in their place, after the character `left`
abbrev pub replaced : ℕ → ℕ → List ℕ → List ℕ
replaced n left cs = flat_map (in_place_of n) (zip (left ∷ cs) cs)

replaced-more : (n left : ℕ) (cs : List ℕ) (c : ℕ) → replaced n left (cs ++ c ∷ []) ≡ replaced n left cs ++ in_place_of n (last_of left cs, c)
replaced-more n left [] c = append-nil (in_place_of n (left, c))
replaced-more n left (d ∷ cs) c = let e = replaced-more n d cs c in simp append_assoc (ap (λ ys. in_place_of n (left, d) ++ ys) e)

pub step-tab : (n : ℕ) (cs : List ℕ) (c left : ℕ) (old new : List ℕ) → old ≡ encode_utf8_all (replaced n 0 cs) → left ≡ last_of 0 cs → new ≡ old ++ encode_utf8_all (in_place_of n (left, c)) → new ≡ encode_utf8_all (replaced n 0 (cs ++ c ∷ []))
step-tab n cs c left old new e same step = rw (replaced-more n 0 cs c, encodes-append, ← same, ← e) step

-- ---- a text without a tab

counts_apart : (p : ℕ → Bool) (xs ys : List ℕ) → count_by p (xs ++ ys) ≡ count_by p xs + count_by p ys
counts_apart p xs ys = sum_by-append (λ x. cond (p x) 1 0) xs ys

no_tab_first : (c : ℕ) (v : Bool) → (c == 9) ≡ v → count_by (λ b. b == 9) (encode_utf8 c) ≡ 0 → v ≡ false
no_tab_first c false e h = refl
no_tab_first c true e h = grind (arith, eqb-true, encode_ascii)

no_tabs : (n left : ℕ) (cs : List ℕ) → count_by (λ b. b == 9) (encode_utf8_all cs) ≡ 0 → replaced n left cs ≡ cs
no_tabs n left [] h = refl
no_tabs n left (c ∷ cs) h =
    let parts = counts_apart (λ b. b == 9) (encode_utf8 c) (encode_utf8_all cs) in
    rw ((no_tab_first c (c == 9) refl (omega arith)), (no_tabs n c cs (omega arith))) refl

pub same_without_tabs : (n : ℕ) (text : List ℕ) → IsUtf8 text → count_by (λ b. b == 9) text ≡ 0 → text ≡ tabs_replaced n text
same_without_tabs n text utf8 h = grind (arith, encodes-chars, no_tabs)
