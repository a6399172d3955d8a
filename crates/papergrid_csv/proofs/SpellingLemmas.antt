-- How the characters of a field are spelled.
use Rattle.std.proofs.Common.{◌≡◌, ◌≢◌, ◌∙◌, ◌<◌, ◌≤◌, ◌-◌, ◌/◌, ◌%◌, ℕ, zero, suc, List, [], ◌∷◌, ◌++◌, Bool, true, false, cond, Option, Some, Result, Ok, Err, append-nil, ap, arith, refl, replicate, subst, sym}
use Rattle.std.specs.Prelude.{OnOk, IfOk, ◌==◌, nat_lt, chars, codes, encode_utf8_all, flat_map}
use Rattle.std.specs.Fmt.{AppendsText, digit_glyph, digits}
use Rattle.std.specs.Int.{is_in_range}
use Rattle.std.specs.Borrow.{Bor}
use Rattle.std.specs.List.{list_all}
use Rattle.std.specs.Result.{is_ok}
use Rattle.std.proofs.Math.Utf8.{encode}
use Rattle.std.proofs.lemmas.List.{flat_map_more}
use Rattle.std.specs.Str.{IsAscii}
use Rattle.std.specs.Str.Parse.{AllDigits}
use Rattle.std.proofs.lemmas.Bool.Decides.{nat_tests}
use Rattle.std.proofs.lemmas.Fmt.{digits_is_IsNumeral}
use Rattle.std.proofs.lemmas.Str.{chars-IsAscii, encode_ascii, encodes-append}
use Rattle.papergrid_csv.specs.Spelling.{is_ascii_control, is_other_control, meant, spelled, spelled_character, spelled_in_line, spelled_other, spelled_tab, two_digits, without_escapes}
use Rattle.papergrid_csv.specs.declared.reading.Format.{Format}
use Rattle.papergrid_csv.specs.declared.reading.Format.TheVariants.{Csv, Tsv}
use Rattle.papergrid_csv.specs.declared.reading.Reading.{Reading}

-- what was appended, where it is known
pub appended : {E : Type 0} (r : Result (Unit {0}) E) (old new text wanted : List ℕ) (o : Option (List ℕ)) → OnOk r (AppendsText old new o) → o ≡ Some text → text ≡ wanted →
    OnOk r (new ≡ old ++ wanted)
appended r old new text wanted o wrote is same =
    let known = subst (λ (p : Option (List ℕ)). OnOk r (AppendsText old new p)) is wrote in
    subst (λ (t : List ℕ). OnOk r (new ≡ old ++ t)) same known

-- each of these is ASCII
abbrev pub AllAscii : List ℕ → Type 0
AllAscii [] = Unit {0}
AllAscii (b ∷ bs) = (b < 128) × AllAscii bs

pub encodes-ascii : (bs : List ℕ) → AllAscii bs → encode_utf8_all bs ≡ bs
encodes-ascii [] all = refl
encodes-ascii (b ∷ bs) all = let first = encode_ascii b all.0 in rw first (ap (λ rest. b ∷ rest) (encodes-ascii bs all.1))

ascii-append : (xs ys : List ℕ) → AllAscii xs → AllAscii ys → AllAscii (xs ++ ys)
ascii-append [] ys all more = more
ascii-append (x ∷ xs) ys all more = (all.0, ascii-append xs ys all.1 more)

digit-ascii : (c : ℕ) → c < 16 → digit_glyph false c < 128
digit-ascii c small = grind (arith, nat_tests)

digit-below : (b : ℕ) → cond (nat_lt b 48) 36 (cond (nat_lt b 58) (b - 48) (cond (nat_lt b 65) 36 (cond (nat_lt b 91) (b - 55) (cond (nat_lt b 97) 36 (cond (nat_lt b 123) (b - 87) 36))))) < 16 → b < 128
digit-below b small = grind (arith, nat_tests)

digits-ascii : (ds : List ℕ) → AllDigits 16 ds → AllAscii ds
digits-ascii [] all = tt
digits-ascii (d ∷ ds) all = (digit-below d all.0, digits-ascii ds all.1)

-- ---- characters of one byte

pub control-small : (c : ℕ) → true ≡ is_ascii_control c → c < 256
control-small c is = grind (arith, nat_tests)

pub control-ascii : (c : ℕ) → true ≡ is_ascii_control c → AllAscii (codes "\\x" ++ two_digits c)
control-ascii c is =
    let small = control-small c is in
    (omega arith, (omega arith, (digit-ascii (c / 16) (omega arith), (digit-ascii (c % 16) (omega arith), tt))))

pub control-spelled : (c : ℕ) → true ≡ is_ascii_control c → codes "\\x" ++ two_digits c ≡ encode_utf8_all (spelled_other c)
unfolding spelled_other
control-spelled c is = rw (sym is) (sym (encodes-ascii (codes "\\x" ++ two_digits c) (control-ascii c is)))

-- ---- others

other-small : (c : ℕ) → true ≡ is_other_control c → c ≤ 0x2069
other-small c is = grind (arith, nat_tests)

pub other-ascii : (c : ℕ) → true ≡ is_other_control c → AllAscii (codes "\\u{" ++ (digits 16 false c ++ codes "}"))
other-ascii c is =
    let small = other-small c is in
    let numeral = digits_is_IsNumeral 16 false (omega arith) (omega arith) c (omega arith) in
    (omega arith, (omega arith, (omega arith, ascii-append (digits 16 false c) (codes "}") (digits-ascii (digits 16 false c) numeral.0.1) (omega arith, tt))))

pub other-spelled : (c : ℕ) → false ≡ is_ascii_control c → true ≡ is_other_control c → codes "\\u{" ++ (digits 16 false c ++ codes "}") ≡ encode_utf8_all (spelled_other c)
unfolding spelled_other
other-spelled c not_ascii is = rw (sym not_ascii, sym is) (sym (encodes-ascii (codes "\\u{" ++ (digits 16 false c ++ codes "}")) (other-ascii c is)))

pub plain-spelled : (c : ℕ) → false ≡ is_ascii_control c → false ≡ is_other_control c → encode c ≡ encode_utf8_all (spelled_other c)
unfolding spelled_other
plain-spelled c not_ascii not_other = rw (sym not_ascii, sym not_other) (sym (append-nil (encode c)))

-- ---- what is pushed

pub pushed : {E : Type 0} (r : Result (Unit {0}) E) (old new text wanted : List ℕ) → new ≡ cond (is_ok r) (old ++ text) old → text ≡ wanted → OnOk r (new ≡ old ++ wanted)
pushed (Ok x) old new text wanted is same = rw (is, same) refl
pushed (Err e) old new text wanted is same = tt

pub same-on_ok : {E : Type 0} (r : Result (Unit {0}) E) (old new text wanted : List ℕ) → OnOk r (new ≡ old ++ text) → text ≡ wanted → OnOk r (new ≡ old ++ wanted)
same-on_ok r old new text wanted wrote same = subst (λ (t : List ℕ). OnOk r (new ≡ old ++ t)) same wrote

pub feed-kept : (reading : Reading) (c : ℕ) → c ≡ 10 → reading.one_line ≡ false → encode c ≡ encode_utf8_all (spelled_character reading c)
unfolding spelled_character
feed-kept reading c is many = rw (is, many) (sym (append-nil (encode 10)))

pub feed-spelled : (reading : Reading) (c : ℕ) → c ≡ 10 → reading.one_line ≡ true → codes "\\n" ≡ encode_utf8_all (spelled_character reading c)
unfolding spelled_character
feed-spelled reading c is one = rw (is, one) (sym (encodes-ascii (codes "\\n") (omega arith, (omega arith, tt))))

pub tab-spelled : (reading : Reading) (c : ℕ) → c ≡ 9 → encode_utf8_all (spelled_tab reading.tab reading.raw) ≡ encode_utf8_all (spelled_character reading c)
unfolding spelled_character
tab-spelled reading c is = rw is refl

pub others-spelled : (reading : Reading) (c : ℕ) → c ≢ 10 → c ≢ 9 → encode_utf8_all (spelled_in_line reading.raw c) ≡ encode_utf8_all (spelled_character reading c)
unfolding spelled_character
others-spelled reading c not_feed not_tab =
    let feed : (c == 10) ≡ false = grind (arith, nat_tests) in
    let tab : (c == 9) ≡ false = grind (arith, nat_tests) in
    rw (feed, tab) refl

-- ---- a character in a line

pub raw-kept : (raw : Bool) (c : ℕ) → raw ≡ true → encode c ≡ encode_utf8_all (spelled_in_line raw c)
raw-kept raw c is = rw is (sym (append-nil (encode c)))

-- ---- a tab

pub blanks-ascii : (n : ℕ) → AllAscii (replicate n 32)
blanks-ascii zero = tt
blanks-ascii (suc n) = (omega arith, blanks-ascii n)

pub blanks-spelled : (tab : Option ℕ) (n : ℕ) (raw : Bool) → tab ≡ Some n → replicate n 32 ≡ encode_utf8_all (spelled_tab tab raw)
blanks-spelled tab n raw is = rw is (sym (encodes-ascii (replicate n 32) (blanks-ascii n)))

-- ---- a whole field

same-either : (b : Bool) (x : List ℕ) → cond b x x ≡ x
same-either true x = refl
same-either false x = refl

printable-spelled : (reading : Reading) (c : ℕ) → is_in_range 0x20 0x7E c ≡ true → (spelled_character reading c ≡ c ∷ []) × (c < 128)
unfolding spelled_character spelled_other
printable-spelled reading c is =
    let small : (32 ≤ c) × (c ≤ 126) = grind (arith, nat_tests) in
    let feed : (c == 10) ≡ false = grind (arith, nat_tests) in
    let tab : (c == 9) ≡ false = grind (arith, nat_tests) in
    let back : (c == 13) ≡ false = grind (arith, nat_tests) in
    let ascii : is_ascii_control c ≡ false = grind (arith, nat_tests) in
    let other : is_other_control c ≡ false = grind (arith, nat_tests) in
    (rw (feed, tab, back, ascii, other) (same-either reading.raw (c ∷ [])), omega arith)

list-true : (p : ℕ → Bool) (b : ℕ) (bs : List ℕ) → list_all p (b ∷ bs) ≡ true → (p b ≡ true) × (list_all p bs ≡ true)
list-true p b bs all = grind (arith, nat_tests)

printable-all : (reading : Reading) (bs : List ℕ) → list_all (is_in_range 0x20 0x7E) bs ≡ true → (flat_map (spelled_character reading) bs ≡ bs) × AllAscii bs
printable-all reading [] all = (refl, tt)
printable-all reading (b ∷ bs) all =
    let both = list-true (is_in_range 0x20 0x7E) b bs all in
    let one = printable-spelled reading b both.0 in
    let more = printable-all reading bs both.1 in
    (rw (one.0, more.0) refl, (one.1, more.1))

pub is-ascii : (bs : List ℕ) → AllAscii bs → IsAscii bs
is-ascii [] all i = omega arith
is-ascii (b ∷ bs) all zero = all.0
is-ascii (b ∷ bs) all (suc i) = is-ascii bs all.1 i

-- ---- characters that are shown as they are

pub stays-same : (c : ℕ) → is_ascii_control c ≡ false → is_other_control c ≡ false → spelled_other c ≡ c ∷ []
unfolding spelled_other
stays-same c not_ascii not_other = rw (not_ascii, not_other) refl

pub feed-same : (reading : Reading) (c : ℕ) → c ≡ 10 → reading.one_line ≡ false → spelled_character reading c ≡ c ∷ []
unfolding spelled_character
feed-same reading c is many = rw (is, many) refl

pub raw-same : (reading : Reading) (c : ℕ) → c ≢ 10 → c ≢ 9 → reading.raw ≡ true → spelled_character reading c ≡ c ∷ []
unfolding spelled_character
raw-same reading c not_feed not_tab is =
    let feed : (c == 10) ≡ false = grind (arith, nat_tests) in
    let tab : (c == 9) ≡ false = grind (arith, nat_tests) in
    rw (feed, tab, is) refl

pub other-same : (reading : Reading) (c : ℕ) → c ≢ 10 → c ≢ 9 → c ≢ 13 → spelled_other c ≡ c ∷ [] → spelled_character reading c ≡ c ∷ []
unfolding spelled_character
other-same reading c not_feed not_tab not_back is =
    let feed : (c == 10) ≡ false = grind (arith, nat_tests) in
    let tab : (c == 9) ≡ false = grind (arith, nat_tests) in
    let back : (c == 13) ≡ false = grind (arith, nat_tests) in
    rw (feed, tab, back, is) (same-either reading.raw (c ∷ []))

pub same-more : (reading : Reading) (yielded : List ℕ) (c : ℕ) → flat_map (spelled_character reading) yielded ≡ yielded → spelled_character reading c ≡ c ∷ [] →
    flat_map (spelled_character reading) (yielded ++ c ∷ []) ≡ yielded ++ c ∷ []
same-more reading yielded c before is = sym (flat_map_more (spelled_character reading) [] yielded c) ∙ ap (λ t. t ++ spelled_character reading c) before ∙ ap (λ t. yielded ++ t) is

pub same-all : (reading : Reading) (characters text : List ℕ) → flat_map (spelled_character reading) characters ≡ characters → encode_utf8_all characters ≡ text →
    encode_utf8_all (flat_map (spelled_character reading) characters) ≡ text
same-all reading characters text same is = ap encode_utf8_all same ∙ is

pub printable-same : (reading : Reading) (bs : List ℕ) → list_all (is_in_range 0x20 0x7E) bs ≡ true → encode_utf8_all (flat_map (spelled_character reading) (chars bs)) ≡ bs
printable-same reading bs all =
    let both = printable-all reading bs all in
    let characters = chars-IsAscii bs (is-ascii bs both.1) in
    rw (characters, both.0) (encodes-ascii bs both.1)

-- one character more
pub spelled-more : (reading : Reading) (old new : List ℕ) (yielded : List ℕ) (c : ℕ) → old ≡ encode_utf8_all (flat_map (spelled_character reading) yielded) →
    new ≡ old ++ encode_utf8_all (spelled_character reading c) → new ≡ encode_utf8_all (flat_map (spelled_character reading) (yielded ++ c ∷ []))
spelled-more reading old new yielded c before is =
    is ∙ ap (λ t. t ++ encode_utf8_all (spelled_character reading c)) before ∙ sym (encodes-append (flat_map (spelled_character reading) yielded) (spelled_character reading c))
    ∙ ap encode_utf8_all (flat_map_more (spelled_character reading) [] yielded c)

-- a text that was kept, where it is the one that is wanted
pub kept-same : {E : Type 0} (r : Result (Bor (List ℕ)) E) (text wanted : List ℕ) → IfOk r (λ s. s.now ≡ text) → text ≡ wanted → IfOk r (λ s. s.now ≡ wanted)
kept-same (Ok s) text wanted kept same = kept ∙ same
kept-same (Err e) text wanted kept same = tt

-- a field that stands for itself, whose characters are shown as they are
pub same-spelled : (reading : Reading) (field : List ℕ) → encode_utf8_all (flat_map (spelled_character reading) (chars field)) ≡ field →
    meant reading.format (chars field) ≡ chars field → field ≡ spelled reading field
unfolding spelled
same-spelled reading field same itself = sym same ∙ ap (λ cs. encode_utf8_all (flat_map (spelled_character reading) cs)) (sym itself)

-- ---- by the format

pub spelled-csv : (reading : Reading) (delimiter : ℕ) (field : List ℕ) → reading.format ≡ Csv delimiter → encode_utf8_all (flat_map (spelled_character reading) (chars field)) ≡ spelled reading field
unfolding spelled
spelled-csv reading delimiter field is = ap (λ (format : Format). encode_utf8_all (flat_map (spelled_character reading) (meant format (chars field)))) (sym is)

pub spelled-tsv : (reading : Reading) (field : List ℕ) → reading.format ≡ Tsv → encode_utf8_all (flat_map (spelled_character reading) (without_escapes (chars field))) ≡ spelled reading field
unfolding spelled
spelled-tsv reading field is = ap (λ (format : Format). encode_utf8_all (flat_map (spelled_character reading) (meant format (chars field)))) (sym is)
