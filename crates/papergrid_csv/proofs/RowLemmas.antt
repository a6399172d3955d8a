-- What is known of the rows of a text: they are UTF-8, and each has as many fields.
use Rattle.std.proofs.Common.{◌≡◌, ◌∙◌, ◌+◌, ◌-◌, ◌≤◌, ℕ, zero, suc, Bool, true, false, List, [], ◌∷◌, ◌++◌, Option, None, Some, All, ap, arith, cond, length, length-append, map, refl, replicate, subst, sym}
use Rattle.std.specs.Prelude.{◌==◌, ◌&&◌, IsUtf8, chars, codes, encode_utf8_all, flat_map}
use Rattle.std.specs.Fmt.{digits}
use Rattle.std.proofs.Math.Utf8.{scalar, scalars}
use Rattle.std.proofs.Math.Bool.{and-true}
use Rattle.std.proofs.lemmas.Bool.{and_parts}
use Rattle.std.proofs.lemmas.List.{length-map, length-replicate}
use Rattle.std.proofs.lemmas.List.Elements.{All-append, All-cons, All-head, All-nil, All-tail}
use Rattle.std.proofs.lemmas.Str.{IsUtf8-append, IsUtf8-from_ascii, IsUtf8-nil, encodes-append, scalars-chars}
use Rattle.csv.specs.Records.{AllText}
use Rattle.papergrid_csv.specs.Rows.{AreRowsOf, with_empty_fields, greatest_length}
use Rattle.papergrid_csv.specs.Spelling.{escaped, is_ascii_control, is_escaped, is_other_control, meant, spelled, spelled_character, spelled_in_line, spelled_other, spelled_tab, two_digits, without_escapes}
use Rattle.papergrid_csv.specs.declared.reading.Format.{Format}
use Rattle.papergrid_csv.specs.declared.reading.Format.TheVariants.{Csv, Tsv}
use Rattle.papergrid_csv.specs.declared.reading.Reading.{Reading}
use Rattle.papergrid_csv.proofs.SpellingLemmas.{AllAscii, blanks-ascii, control-ascii, encodes-ascii, is-ascii, other-ascii}

-- ---- texts

ascii-utf8 : (bs : List ℕ) → AllAscii bs → IsUtf8 (encode_utf8_all bs)
ascii-utf8 bs all = subst IsUtf8 (sym (encodes-ascii bs all)) (IsUtf8-from_ascii bs (is-ascii bs all))

chosen : (test : Bool) (x y : List ℕ) → (test ≡ true → IsUtf8 (encode_utf8_all x)) → (test ≡ false → IsUtf8 (encode_utf8_all y)) → IsUtf8 (encode_utf8_all (cond test x y))
chosen true x y one other = one refl
chosen false x y one other = other refl

other-utf8 : (c : ℕ) → scalar c ≡ true → IsUtf8 (encode_utf8_all (spelled_other c))
unfolding spelled_other
other-utf8 c is =
    chosen (is_ascii_control c) (codes "\\x" ++ two_digits c) _
    (λ control. ascii-utf8 (codes "\\x" ++ two_digits c) (control-ascii c (sym control)))
    (λ _. chosen (is_other_control c) (codes "\\u{" ++ (digits 16 false c ++ codes "}")) (c ∷ [])
    (λ control. ascii-utf8 (codes "\\u{" ++ (digits 16 false c ++ codes "}")) (other-ascii c (sym control)))
    (λ _. (c ∷ [], (and-true (scalar c) ∙ is, refl))))

tab-utf8 : (tab : Option ℕ) (raw : Bool) → IsUtf8 (encode_utf8_all (spelled_tab tab raw))
tab-utf8 (Some blanks) raw = ascii-utf8 (replicate blanks 0x20) (blanks-ascii blanks)
tab-utf8 None raw = chosen raw (0x09 ∷ []) (codes "\\t") (λ _. ascii-utf8 (0x09 ∷ []) (omega arith, tt)) (λ _. ascii-utf8 (codes "\\t") (omega arith, (omega arith, tt)))

in-line-utf8 : (raw : Bool) (c : ℕ) → scalar c ≡ true → IsUtf8 (encode_utf8_all (spelled_in_line raw c))
in-line-utf8 raw c is =
    chosen raw (c ∷ []) _ (λ _. (c ∷ [], (and-true (scalar c) ∙ is, refl)))
    (λ _. chosen (c == 13) (codes "\\r") (spelled_other c) (λ _. ascii-utf8 (codes "\\r") (omega arith, (omega arith, tt))) (λ _. other-utf8 c is))

character-utf8 : (reading : Reading) (c : ℕ) → scalar c ≡ true → IsUtf8 (encode_utf8_all (spelled_character reading c))
unfolding spelled_character
character-utf8 reading c is =
    chosen (c == 10) (cond reading.one_line (codes "\\n") (10 ∷ [])) _
    (λ _. chosen reading.one_line (codes "\\n") (10 ∷ []) (λ _. ascii-utf8 (codes "\\n") (omega arith, (omega arith, tt))) (λ _. ascii-utf8 (10 ∷ []) (omega arith, tt)))
    (λ _. chosen (c == 9) (spelled_tab reading.tab reading.raw) (spelled_in_line reading.raw c) (λ _. tab-utf8 reading.tab reading.raw) (λ _. in-line-utf8 reading.raw c is))

characters-utf8 : (reading : Reading) (cs : List ℕ) → scalars cs ≡ true → IsUtf8 (encode_utf8_all (flat_map (spelled_character reading) cs))
characters-utf8 reading [] are = IsUtf8-nil
characters-utf8 reading (c ∷ cs) are =
    let both = and_parts (scalar c) (scalars cs) are in
    subst IsUtf8 (sym (encodes-append (spelled_character reading c) (flat_map (spelled_character reading) cs)))
    (IsUtf8-append _ _ (character-utf8 reading c both.0) (characters-utf8 reading cs both.1))

-- ---- what they stand for

scalars-more : (c : ℕ) (cs : List ℕ) → scalar c ≡ true → scalars cs ≡ true → scalars (c ∷ cs) ≡ true
scalars-more c cs one more = ap (λ b. b && scalars cs) one ∙ more

escaped-scalar : (c : ℕ) → scalar c ≡ true → scalar (escaped c) ≡ true
escaped-scalar c is = by (c == 0x74) (c == 0x6E)
  where
    by : (t n : Bool) → scalar (cond t 0x09 (cond n 0x0A c)) ≡ true
    by true n = refl
    by false true = refl
    by false false = is

unescaped-scalars : (cs : List ℕ) → scalars cs ≡ true → scalars (without_escapes cs) ≡ true
unfolding without_escapes
unescaped-scalars [] are = are
unescaped-scalars (c ∷ []) are = are
unescaped-scalars (c ∷ next ∷ rest) are =
    let first = and_parts (scalar c) (scalars (next ∷ rest)) are in
    let second = and_parts (scalar next) (scalars rest) first.1 in
    by ((c == 0x5C) && is_escaped next) (scalars-more (escaped next) (without_escapes rest) (escaped-scalar next second.0) (unescaped-scalars rest second.1))
    (scalars-more c (without_escapes (next ∷ rest)) first.0 (unescaped-scalars (next ∷ rest) first.1))
  where
    by : (b : Bool) → scalars (escaped next ∷ without_escapes rest) ≡ true → scalars (c ∷ without_escapes (next ∷ rest)) ≡ true →
        scalars (cond b (escaped next ∷ without_escapes rest) (c ∷ without_escapes (next ∷ rest))) ≡ true
    by true pair plain = pair
    by false pair plain = plain

meant-scalars : (format : Format) (cs : List ℕ) → scalars cs ≡ true → scalars (meant format cs) ≡ true
meant-scalars (Csv delimiter) cs are = are
meant-scalars Tsv cs are = unescaped-scalars cs are

spelled-utf8 : (reading : Reading) (text : List ℕ) → IsUtf8 text → IsUtf8 (spelled reading text)
unfolding spelled
spelled-utf8 reading text is = characters-utf8 reading (meant reading.format (chars text)) (meant-scalars reading.format (chars text) (scalars-chars text is))

-- ---- rows

fields-utf8 : (reading : Reading) (fields : List (List ℕ)) → AllText fields → All IsUtf8 (map (spelled reading) fields)
unfolding AllText
fields-utf8 reading [] all = All-nil IsUtf8
fields-utf8 reading (field ∷ fields) all =
    All-cons IsUtf8 (spelled reading field) (map (spelled reading) fields) (spelled-utf8 reading field all.0) (fields-utf8 reading fields all.1)

empty-utf8 : (n : ℕ) → All IsUtf8 (replicate n [])
empty-utf8 zero = All-nil IsUtf8
empty-utf8 (suc n) = All-cons IsUtf8 [] (replicate n []) IsUtf8-nil (empty-utf8 n)

rows-utf8 : (reading : Reading) (columns : ℕ) (records : List (List (List ℕ))) → All AllText records →
    All (All IsUtf8) (map (λ fields. with_empty_fields columns (map (spelled reading) fields)) records)
rows-utf8 reading columns [] all = All-nil (All IsUtf8)
rows-utf8 reading columns (fields ∷ records) all =
    All-cons (All IsUtf8) _ _
    (All-append IsUtf8 (map (spelled reading) fields) _ (fields-utf8 reading fields (All-head AllText fields records all)) (empty-utf8 _))
    (rows-utf8 reading columns records (All-tail AllText fields records all))

-- each field is a text
pub all-utf8 : (reading : Reading) (input : List ℕ) (columns : ℕ) (rows : List (List (List ℕ))) → AreRowsOf reading input columns rows → All (All IsUtf8) rows
all-utf8 reading input columns rows are = subst (All (All IsUtf8)) (sym are.shown) (rows-utf8 reading columns are.records are.may.texts)

rows-filled : (reading : Reading) (columns : ℕ) (records : List (List (List ℕ))) → greatest_length records ≤ columns →
    All (λ row. length row ≡ columns) (map (λ fields. with_empty_fields columns (map (spelled reading) fields)) records)
rows-filled reading columns [] within = All-nil (λ row. length row ≡ columns)
rows-filled reading columns (fields ∷ records) within =
    All-cons (λ row. length row ≡ columns) (with_empty_fields columns (map (spelled reading) fields)) _
    (let joined = length-append (map (spelled reading) fields) (replicate (columns - length (map (spelled reading) fields)) []) in
    let first = length-map fields (spelled reading) in
    let second : length (replicate {A = List ℕ} (columns - length (map (spelled reading) fields)) []) ≡ columns - length (map (spelled reading) fields) =
    length-replicate (columns - length (map (spelled reading) fields)) [] in
    joined ∙ (let sum : length (map (spelled reading) fields) + length (replicate {A = List ℕ} (columns - length (map (spelled reading) fields)) []) ≡ columns = omega arith in sum))
    (rows-filled reading columns records (omega arith))

-- each row has as many fields
pub rows-full : (reading : Reading) (input : List ℕ) (columns : ℕ) (rows : List (List (List ℕ))) → AreRowsOf reading input columns rows → All (λ row. length row ≡ columns) rows
rows-full reading input columns rows are =
    let widest = are.widest in
    subst (All (λ row. length row ≡ columns)) (sym are.shown) (rows-filled reading columns are.records (omega arith))
