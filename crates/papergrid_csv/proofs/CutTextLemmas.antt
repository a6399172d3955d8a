-- Cut texts are texts.
use Rattle.std.proofs.Common.{◌≡◌, ◌∙◌, ℕ, zero, suc, true, List, [], ◌∷◌, All, Option, Some, None, ap, arith, inl, inr, length, refl, subst, sym, take}
use Rattle.std.specs.Prelude.{IsUtf8, chars}
use Rattle.std.specs.List.{AllZip, join_with_byte}
use Rattle.std.proofs.Math.Utf8.{scalar, scalars}
use Rattle.std.proofs.lemmas.Bool.{and_parts}
use Rattle.std.proofs.lemmas.List.Elements.{All-cons, All-head, All-nil, All-tail}
use Rattle.std.proofs.lemmas.List.Splits.{join_with_byte-slice_split}
use Rattle.std.proofs.lemmas.Str.{IsUtf8-append, IsUtf8-from_ascii, IsUtf8-nil, encodes-append, scalars-chars}
use Rattle.papergrid_text.specs.Text.{split_lines}
use Rattle.papergrid_csv.specs.Cutting.{IsCut, IsCutLine}
use Rattle.papergrid_csv.specs.Shown.{AreCut}
use Rattle.papergrid_csv.proofs.SpellingLemmas.{is-ascii}
use Rattle.papergrid_draw.proofs.HonestLemmas.{parts-utf8}

-- ---- lines

joined-utf8 : (parts : List (List ℕ)) → All IsUtf8 parts → IsUtf8 (join_with_byte 10 parts)
joined-utf8 [] all = IsUtf8-nil
joined-utf8 (part ∷ []) all = All-head IsUtf8 part [] all
joined-utf8 (part ∷ next ∷ more) all =
    IsUtf8-append part (10 ∷ join_with_byte 10 (next ∷ more)) (All-head IsUtf8 part (next ∷ more) all)
    (IsUtf8-append (10 ∷ []) (join_with_byte 10 (next ∷ more)) (IsUtf8-from_ascii (10 ∷ []) (is-ascii (10 ∷ []) (omega arith, tt))) (joined-utf8 (next ∷ more) (All-tail IsUtf8 part (next ∷ more) all)))

-- ---- cut lines

scalars-take : (n : ℕ) (cs : List ℕ) → scalars cs ≡ true → scalars (take n cs) ≡ true
scalars-take zero cs all = refl
scalars-take (suc n) [] all = refl
scalars-take (suc n) (c ∷ cs) all =
    let both = and_parts (scalar c) (scalars cs) all in
    let later = scalars-take n cs both.1 in
    rw (both.0, later) refl

line-utf8 : (columns : ℕ) (line shown : List ℕ) → IsUtf8 line → IsCutLine columns line shown → IsUtf8 shown
line-utf8 columns line shown utf8 (inl whole) = subst IsUtf8 (sym whole.1) utf8
line-utf8 columns line shown utf8 (inr short) =
    subst IsUtf8 (sym (short.is ∙ encodes-append (take short.count (chars line)) (0x2026 ∷ [])))
    (IsUtf8-append _ _ (take short.count (chars line), (scalars-take short.count (chars line) (scalars-chars line utf8), refl)) (0x2026 ∷ [], (refl, refl)))

lines-utf8 : (columns : ℕ) (parts shown : List (List ℕ)) → All IsUtf8 parts → AllZip (IsCutLine columns) parts shown → All IsUtf8 shown
lines-utf8 columns [] [] all zip = All-nil IsUtf8
lines-utf8 columns [] (s ∷ shown) all zip = absurd zip
lines-utf8 columns (part ∷ parts) [] all zip = absurd zip
lines-utf8 columns (part ∷ parts) (s ∷ shown) all zip =
    All-cons IsUtf8 s shown (line-utf8 columns part s (All-head IsUtf8 part parts all) zip.0) (lines-utf8 columns parts shown (All-tail IsUtf8 part parts all) zip.1)

text-utf8 : (columns : ℕ) (text shown : List ℕ) → IsUtf8 text → IsCut columns text shown → IsUtf8 shown
text-utf8 columns text shown utf8 cut =
    let parts = parts-utf8 (split_lines text) (subst IsUtf8 (sym (join_with_byte-slice_split 10 text)) utf8) in
    subst IsUtf8 (sym cut.joined) (joined-utf8 cut.lines (lines-utf8 columns (split_lines text) cut.lines parts cut.each))

-- ---- rows

row-utf8 : (columns : ℕ) (row shown : List (List ℕ)) → All IsUtf8 row → AllZip (IsCut columns) row shown → All IsUtf8 shown
row-utf8 columns [] [] all zip = All-nil IsUtf8
row-utf8 columns [] (s ∷ shown) all zip = absurd zip
row-utf8 columns (text ∷ row) [] all zip = absurd zip
row-utf8 columns (text ∷ row) (s ∷ shown) all zip =
    All-cons IsUtf8 s shown (text-utf8 columns text s (All-head IsUtf8 text row all) zip.0) (row-utf8 columns row shown (All-tail IsUtf8 text row all) zip.1)

rows-utf8 : (columns : ℕ) (rows shown : List (List (List ℕ))) → All (All IsUtf8) rows → AllZip (AllZip (IsCut columns)) rows shown → All (All IsUtf8) shown
rows-utf8 columns [] [] all zip = All-nil (All IsUtf8)
rows-utf8 columns [] (s ∷ shown) all zip = absurd zip
rows-utf8 columns (row ∷ rows) [] all zip = absurd zip
rows-utf8 columns (row ∷ rows) (s ∷ shown) all zip =
    All-cons (All IsUtf8) s shown (row-utf8 columns row s (All-head (All IsUtf8) row rows all) zip.0) (rows-utf8 columns rows shown (All-tail (All IsUtf8) row rows all) zip.1)

-- fields that are shown are texts
pub shown-utf8 : (cut : Option ℕ) (rows shown : List (List (List ℕ))) → All (All IsUtf8) rows → AreCut cut rows shown → All (All IsUtf8) shown
shown-utf8 None rows shown all is = subst (All (All IsUtf8)) (sym is) all
shown-utf8 (Some columns) rows shown all zip = rows-utf8 columns rows shown all zip

zip-length : {A B : Type 0} (R : A → B → Type 0) (xs : List A) (ys : List B) → AllZip R xs ys → length ys ≡ length xs
zip-length R [] [] zip = refl
zip-length R [] (y ∷ ys) zip = absurd zip
zip-length R (x ∷ xs) [] zip = absurd zip
zip-length R (x ∷ xs) (y ∷ ys) zip = let rest = zip-length R xs ys zip.1 in omega (arith, rest)

-- there are as many rows
pub shown-length : (cut : Option ℕ) (rows shown : List (List (List ℕ))) → AreCut cut rows shown → length shown ≡ length rows
shown-length None rows shown is = ap length is
shown-length (Some columns) rows shown zip = zip-length (AllZip (IsCut columns)) rows shown zip

full-zip : (columns width : ℕ) (rows shown : List (List (List ℕ))) → All (λ row. length row ≡ width) rows → AllZip (AllZip (IsCut columns)) rows shown → All (λ row. length row ≡ width) shown
full-zip columns width [] [] all zip = All-nil (λ row. length row ≡ width)
full-zip columns width [] (s ∷ shown) all zip = absurd zip
full-zip columns width (row ∷ rows) [] all zip = absurd zip
full-zip columns width (row ∷ rows) (s ∷ shown) all zip =
    All-cons (λ row. length row ≡ width) s shown (zip-length (IsCut columns) row s zip.0 ∙ All-head (λ row. length row ≡ width) row rows all)
    (full-zip columns width rows shown (All-tail (λ row. length row ≡ width) row rows all) zip.1)

-- each with as many fields
pub shown-full : (cut : Option ℕ) (width : ℕ) (rows shown : List (List (List ℕ))) → All (λ row. length row ≡ width) rows → AreCut cut rows shown → All (λ row. length row ≡ width) shown
shown-full None width rows shown all is = subst (All (λ row. length row ≡ width)) (sym is) all
shown-full (Some columns) width rows shown all zip = full-zip columns width rows shown all zip
