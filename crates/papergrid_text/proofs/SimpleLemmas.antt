-- Simple characters, and texts of them.
use Rattle.std.proofs.Common.{◌≡◌, ◌≢◌, ℕ, ◌+◌, ◌*◌, ◌-◌, ◌/◌, ◌%◌, ◌<◌, ◌≤◌, Bool, true, false, List, [], ◌∷◌, ◌++◌, length, get_or, take, drop, encode_utf8, encode_utf8_all, IsUtf8, Option, Some, None, IfSome, refl, sym, ap, ◌∙◌, subst, arith, inl, inr, le-ltb, lt-ltb, rules}
use Rattle.std.specs.Int.{is_in_range}
use Rattle.std.specs.List.{list_all, prefix_len}
use Rattle.std.specs.Str.{IsCharBoundary, chars}
use Rattle.std.proofs.Math.Seq.{drop-append_seam}
use Rattle.std.proofs.lemmas.Bool.{and_parts, cases_lt}
use Rattle.std.proofs.lemmas.Bool.Decides.{nat_tests}
use Rattle.std.proofs.lemmas.List.{get_or_past, length-take-le, take-append-drop, drop-drop}
use Rattle.std.proofs.lemmas.List.Sums.{prefix_len-le-length}
use Rattle.std.proofs.lemmas.Str.{IsUtf8-drop, IsUtf8-from_ascii, IsCharBoundary-from_rest, IsCharBoundary-from_take, chars-append, chars-IsAscii, encode_ascii, encode_same, length-encode, len_utf8_bounds, IsUtf8-past_char, IsCharBoundary-at_seam, chars_past_char, encodes-chars}
use lib.Utf8.{encode}
use Rattle.unicode_width.specs.Width.{plain, step, read_before, str_width}
use Rattle.papergrid_text.proofs.ColumnLemmas.{TakesColumns, TakesFew, by_brahmic, by_three, is_letter, of_accent, of_ascii, of_lam, of_lam_alef, of_letter, of_semitic, of_tab, of_two_columns}
use Rattle.papergrid_text.proofs.PrintableLemmas.{ascii, front_printable, whole_printable}
use Rattle.papergrid_text.specs.ForProofs.Simple.{BeginsWith, IsPiece, Plain, Reads, ReadsQuietly, columns_of_brahmic, columns_of_three, is_alef, is_semitic_letter, is_two_columns, may_join_lam}

-- ---- what a text begins with

encode_two : (c : ℕ) → 128 ≤ c → c < 2048 → encode c ≡ (192 + c / 64) ∷ (128 + c % 64) ∷ []
unfolding encode
encode_two c low high = rw (le-ltb c 128 low, lt-ltb c 2048 high) refl

encode_three : (c : ℕ) → 2048 ≤ c → c < 65536 → encode c ≡ (224 + c / 4096) ∷ (128 + c / 64 % 64) ∷ (128 + c % 64) ∷ []
unfolding encode
encode_three c low high = rw (le-ltb c 128 (omega arith), le-ltb c 2048 low, lt-ltb c 65536 high) refl

encode_four : (c : ℕ) → 65536 ≤ c → encode c ≡ (240 + c / 262144) ∷ (128 + c / 4096 % 64) ∷ (128 + c / 64 % 64) ∷ (128 + c % 64) ∷ []
unfolding encode
encode_four c low = rw (le-ltb c 128 (omega arith), le-ltb c 2048 (omega arith), le-ltb c 65536 low) refl

-- the bytes of a text that begins with a character of one byte, of two, or of three
pub record OneByte (c : ℕ) (text : List ℕ) : Type 0 where
  pub small : c < 128
  pub lead : get_or text 0 0 ≡ c

pub record TwoBytes (c : ℕ) (text : List ℕ) : Type 0 where
  pub small : c < 2048
  pub lead : get_or text 0 0 ≡ 192 + c / 64
  pub second : get_or text 1 0 ≡ 128 + c % 64

pub record ThreeBytes (c : ℕ) (text : List ℕ) : Type 0 where
  pub small : c < 65536
  pub lead : get_or text 0 0 ≡ 224 + c / 4096
  pub second : get_or text 1 0 ≡ 128 + c / 64 % 64
  pub third : get_or text 2 0 ≡ 128 + c % 64

-- the text begins with a character of so many bytes, which are these
pub record StartsWith (count : ℕ) (Bytes : ℕ → List ℕ → Type 0) (text : List ℕ) : Type 0 where
  pub first : ℕ
  pub rest : List ℕ
  pub spelled : text ≡ encode_utf8 first ++ rest
  pub counted : length (encode_utf8 first) ≡ count
  pub bytes : Bytes first text

abbrev pub IsOfOne : List ℕ → Type 0
IsOfOne = StartsWith 1 OneByte

abbrev pub IsOfTwo : List ℕ → Type 0
IsOfTwo = StartsWith 2 TwoBytes

abbrev pub IsOfThree : List ℕ → Type 0
IsOfThree = StartsWith 3 ThreeBytes

-- how the text begins
data Start (text : List ℕ) : Type 0 where
  One : IsOfOne text → Start text
  Two : IsOfTwo text → Start text
  Three : IsOfThree text → Start text
  Four : 240 ≤ get_or text 0 0 → Start text

spells : (c : ℕ) (rest text : List ℕ) → text ≡ encode_utf8 c ++ rest → Start text
spells c rest text spelled = elim (cases_lt c 128) [
  | inl low ↦
      let e = encode_ascii c low in
      let t = spelled ∙ ap (λ bs. bs ++ rest) e in
      One (record { first = c; rest = rest; spelled = spelled; counted = ap length e; bytes = record { small = low; lead = ap (λ bs. get_or bs 0 0) t } })
  | inr past ↦ elim (cases_lt c 2048) [
    | inl two ↦
        let e = encode_two c past two in
        let t = spelled ∙ ap (λ bs. bs ++ rest) e in
        let bytes : TwoBytes c text = record { small = two; lead = ap (λ bs. get_or bs 0 0) t; second = ap (λ bs. get_or bs 1 0) t } in
        Two (record { first = c; rest = rest; spelled = spelled; counted = ap length e; bytes = bytes })
    | inr more ↦ elim (cases_lt c 65536) [
      | inl three ↦
          let e = encode_three c more three in
          let t = spelled ∙ ap (λ bs. bs ++ rest) e in
          let bytes : ThreeBytes c text = record { small = three; lead = ap (λ bs. get_or bs 0 0) t; second = ap (λ bs. get_or bs 1 0) t; third = ap (λ bs. get_or bs 2 0) t } in
          Three (record { first = c; rest = rest; spelled = spelled; counted = ap length e; bytes = bytes })
      | inr four ↦
          let lead : get_or text 0 0 ≡ 240 + c / 262144 = ap (λ bs. get_or bs 0 0) (spelled ∙ ap (λ bs. bs ++ rest) (encode_four c four)) in
          Four (omega arith)
    ]
  ]
]

-- a test of the first byte, as one of the text
pub passed : (test : ℕ → Bool) (bytes text : List ℕ) (told : Bool) → told ≡ test (get_or bytes 0 0) → told ≡ true → bytes ≡ text → test (get_or text 0 0) ≡ true
passed test bytes text told is holds same = ap (λ bs. test (get_or bs 0 0)) (sym same) ∙ sym is ∙ holds

begins_with : (text cs : List ℕ) → encode_utf8_all cs ≡ text → 0 < length text → Start text
begins_with text [] is some = absurd (omega (arith, ap length is))
begins_with text (c ∷ cs) is some = spells c (encode_utf8_all cs) text (sym is)

begins : (text : List ℕ) → IsUtf8 text → 0 < length text → Start text
begins text utf8 some = begins_with text (chars text) (encodes-chars text utf8) some

-- a byte other than 0 is one of the text's
pub is_there : (text : List ℕ) (i : ℕ) → 0 < get_or text i 0 → i < length text
is_there text i some = elim (cases_lt i (length text)) [
  | inl within ↦ within
  | inr past ↦ absurd (omega (arith, get_or_past text i 0 past))
]

-- a text that begins with such a byte begins with a character of so many
pub is_of_one : (text : List ℕ) → IsUtf8 text → 0 < length text → get_or text 0 0 < 128 → IsOfOne text
is_of_one text utf8 some h = elim (begins text utf8 some) [
  | One one ↦ one
  | Two two ↦ absurd (let lead = two.bytes.lead in omega arith)
  | Three three ↦ absurd (let lead = three.bytes.lead in omega arith)
  | Four lead ↦ absurd (omega arith)
]

pub is_of_two : (text : List ℕ) → IsUtf8 text → is_in_range 0xC2 0xDF (get_or text 0 0) ≡ true → IsOfTwo text
is_of_two text utf8 h = elim (begins text utf8 (is_there text 0 (grind (arith, nat_tests)))) [
  | Two two ↦ two
  | One one ↦ absurd (let lead = one.bytes.lead in let small = one.bytes.small in grind (arith, nat_tests))
  | Three three ↦ absurd (let lead = three.bytes.lead in grind (arith, nat_tests))
  | Four lead ↦ absurd (grind (arith, nat_tests))
]

pub is_of_three : (text : List ℕ) → IsUtf8 text → is_in_range 0xE0 0xEF (get_or text 0 0) ≡ true → IsOfThree text
is_of_three text utf8 h = elim (begins text utf8 (is_there text 0 (grind (arith, nat_tests)))) [
  | Three three ↦ three
  | Two two ↦ absurd (let lead = two.bytes.lead in let small = two.bytes.small in grind (arith, nat_tests))
  | One one ↦ absurd (let lead = one.bytes.lead in let small = one.bytes.small in grind (arith, nat_tests))
  | Four lead ↦ absurd (grind (arith, nat_tests))
]

-- the first character, as a caller has found it
abbrev pub IsFirst : List ℕ → ℕ → Type 0
IsFirst text c = (first : ℕ) (rest : List ℕ) → text ≡ encode_utf8 first ++ rest → c ≡ first

-- ---- pieces

past : (c : ℕ) (rest text : List ℕ) (count : ℕ) → text ≡ encode_utf8 c ++ rest → length (encode_utf8 c) ≡ count → drop count text ≡ rest
past c rest text count spelled counted = ap (drop count) spelled ∙ ap (λ n. drop n (encode_utf8 c ++ rest)) (sym counted) ∙ drop-append_seam (encode_utf8 c) rest

-- what is read of a text, by what is read of its characters
reads_by : (text cs : List ℕ) (width : ℕ) → chars text ≡ cs → Reads (get_or cs 0 0) width (read_before false cs (0, plain)) → ReadsQuietly text width
reads_by text cs width is reads = subst (λ cs. Reads (get_or cs 0 0) width (read_before false cs (0, plain))) (sym is) reads

starts_by : (text rest : List ℕ) (c columns count : ℕ) → text ≡ encode_utf8 c ++ rest → IsUtf8 text → length (encode_utf8 c) ≡ count → columns ≤ count → ((n : ℕ) → ReadsQuietly rest n → ReadsQuietly text (columns + n)) → IsPiece text columns count
starts_by text rest c columns count spelled utf8 counted bound reads =
    record {
      boundary = subst (IsCharBoundary text) counted (IsCharBoundary-at_seam text (encode_utf8 c) rest spelled (IsUtf8-past_char text rest c utf8 spelled));
      some = omega (arith, length-encode c, (len_utf8_bounds c).0);
      bound = bound;
      reads = λ n quietly. reads n (subst (λ bs. ReadsQuietly bs n) (past c rest text count spelled counted) quietly);
    }

starts : (text rest : List ℕ) (c columns count : ℕ) → text ≡ encode_utf8 c ++ rest → IsUtf8 text → length (encode_utf8 c) ≡ count → columns ≤ count → TakesColumns c columns → IsPiece text columns count
starts text rest c columns count spelled utf8 counted bound adds = search (rules, starts_by, spelled, counted, more, reads_by, chars_past_char)
  where
    more : (n : ℕ) → ReadsQuietly rest n → ReadsQuietly text (columns + n)
    more n quietly =
        let swap : n + columns ≡ columns + n = omega arith in
        reads_by text (c ∷ chars rest) (columns + n) (chars_past_char text rest c utf8 spelled) (subst (λ n. Reads c n (step false c (read_before false (chars rest) (0, plain)))) swap (adds _ n _ quietly))

-- a text takes the columns of its first character
starts_as : (text : List ℕ) (columns count : ℕ) (Bytes : ℕ → List ℕ → Type 0) (start : StartsWith count Bytes text) → IsUtf8 text → columns ≤ count → TakesColumns start.first columns → IsPiece text columns count
starts_as text columns count Bytes start utf8 bound takes = starts text start.rest start.first columns count start.spelled utf8 start.counted bound takes

-- the same where a caller has found the character
starts_found : (text : List ℕ) (c columns count : ℕ) (Bytes : ℕ → List ℕ → Type 0) → StartsWith count Bytes text → IsUtf8 text → IsFirst text c → columns ≤ count → TakesColumns c columns → IsPiece text columns count
starts_found text c columns count Bytes start utf8 is bound takes = starts_as text columns count Bytes start utf8 bound (subst (λ c. TakesColumns c columns) (is start.first start.rest start.spelled) takes)

pub starts_ascii : (text : List ℕ) → IsUtf8 text → 0 < length text → is_in_range 0x20 0x7E (get_or text 0 0) ≡ true → IsPiece text 1 1
starts_ascii text utf8 some h = search (rules, by, is_of_one, nat_tests, starts_as, of_ascii)
  where
    by : IsOfOne text → IsPiece text 1 1
    by one = starts_as text 1 1 _ one utf8 (omega arith) (of_ascii one.first (ap (is_in_range 0x20 0x7E) (sym one.bytes.lead) ∙ h))

pub starts_tab : (text : List ℕ) → IsUtf8 text → 0 < length text → get_or text 0 0 ≡ 9 → IsPiece text 1 1
starts_tab text utf8 some h =
    let one = is_of_one text utf8 some (omega arith) in
    starts_as text 1 1 _ one utf8 (omega arith) (subst (λ c. TakesColumns c 1) (sym h ∙ one.bytes.lead) of_tab)

pub starts_letter : (text : List ℕ) → IsUtf8 text → is_in_range 0xC3 0xD1 (get_or text 0 0) ≡ true → is_in_range 0xCC 0xCD (get_or text 0 0) ≡ false → IsPiece text 1 2
starts_letter text utf8 h apart = search (rules, by, is_of_two, nat_tests, letter_of, is_letter)
  where
    letter_of : (c : ℕ) → is_in_range 0xC3 0xD1 (192 + c / 64) ≡ true → is_in_range 0xCC 0xCD (192 + c / 64) ≡ false → is_letter c ≡ true
    letter_of c h apart = grind (arith, nat_tests)

    by : IsOfTwo text → IsPiece text 1 2
    by two =
        starts_as text 1 2 _ two utf8 (omega arith) (of_letter two.first (letter_of two.first (ap (is_in_range 0xC3 0xD1) (sym two.bytes.lead) ∙ h) (ap (is_in_range 0xCC 0xCD) (sym two.bytes.lead) ∙ apart)))

pub starts_ideograph : (text : List ℕ) → IsUtf8 text → is_in_range 0xE4 0xE9 (get_or text 0 0) ≡ true → IsPiece text 2 3
starts_ideograph text utf8 h = search (rules, by, is_of_three, nat_tests, ideograph_of)
  where
    ideograph_of : (c : ℕ) → is_in_range 0xE4 0xE9 (224 + c / 4096) ≡ true → is_two_columns c ≡ true
    ideograph_of c h = grind (arith, nat_tests)

    by : IsOfThree text → IsPiece text 2 3
    by three = starts_as text 2 3 _ three utf8 (omega arith) (of_two_columns three.first (ideograph_of three.first (ap (is_in_range 0xE4 0xE9) (sym three.bytes.lead) ∙ h)))

-- ---- characters of two bytes

accent_is_of_two : (text : List ℕ) → IsUtf8 text → is_in_range 0xCC 0xCD (get_or text 0 0) ≡ true → IsOfTwo text
accent_is_of_two text utf8 h = search (rules, is_of_two, accent_lead, nat_tests)
  where
    accent_lead : (b : ℕ) → is_in_range 0xCC 0xCD b ≡ true → is_in_range 0xC2 0xDF b ≡ true
    accent_lead b h = grind (arith, nat_tests)

-- the characters that begin with such a byte
accent_range : (text : List ℕ) (c : ℕ) → IsUtf8 text → is_in_range 0xCC 0xCD (get_or text 0 0) ≡ true → IsFirst text c → is_in_range 0x300 0x37F c ≡ true
accent_range text c utf8 h is =
    let two = accent_is_of_two text utf8 h in
    ap (is_in_range 0x300 0x37F) (is two.first two.rest two.spelled) ∙ within two.first (ap (is_in_range 0xCC 0xCD) (sym two.bytes.lead) ∙ h)
  where
    within : (c : ℕ) → is_in_range 0xCC 0xCD (192 + c / 64) ≡ true → is_in_range 0x300 0x37F c ≡ true
    within c h = grind (arith, nat_tests)

pub starts_accent : (text : List ℕ) (c : ℕ) → IsUtf8 text → is_in_range 0xCC 0xCD (get_or text 0 0) ≡ true → IsFirst text c → c < 0x370 → IsPiece text 0 2
starts_accent text c utf8 h is low =
    let range = accent_range text c utf8 h is in
    starts_found text c 0 2 _ (accent_is_of_two text utf8 h) utf8 is (omega arith) (of_accent c (grind (arith, nat_tests)))

pub starts_greek : (text : List ℕ) (c : ℕ) → IsUtf8 text → is_in_range 0xCC 0xCD (get_or text 0 0) ≡ true → IsFirst text c → 0x370 ≤ c → IsPiece text 1 2
starts_greek text c utf8 h is high =
    let range = accent_range text c utf8 h is in
    starts_found text c 1 2 _ (accent_is_of_two text utf8 h) utf8 is (omega arith) (of_letter c (grind (arith, nat_tests)))

-- the character, by the lead and what the byte after it adds
pub code_of_two : (text : List ℕ) (c second : ℕ) (rest : List ℕ) → IsOfTwo text → second ≡ get_or text 1 0 - 128 → text ≡ encode_utf8 c ++ rest → (get_or text 0 0 - 192) * 64 + second ≡ c
code_of_two text c second rest two is spelled = grind (arith, encode_same, rest, spelled)

-- ---- characters of three bytes

starts_three : (text : List ℕ) (c columns : ℕ) → IsUtf8 text → IsOfThree text → IsFirst text c → TakesFew c columns → IsPiece text columns 3
starts_three text c columns utf8 three is takes = starts_found text c columns 3 _ three utf8 is takes.bound takes.adds

if_starts_three : (text : List ℕ) (c : ℕ) (told : Option ℕ) → IsUtf8 text → IsOfThree text → IsFirst text c → ((columns : ℕ) → told ≡ Some columns → TakesFew c columns) → IfSome told (λ columns. IsPiece text columns 3)
if_starts_three text c None utf8 three is takes = tt
if_starts_three text c (Some columns) utf8 three is takes = starts_three text c columns utf8 three is (takes columns refl)

pub starts_long : (text : List ℕ) (c : ℕ) (told : Option ℕ) → IsUtf8 text → IsOfThree text → IsFirst text c → told ≡ columns_of_three c → IfSome told (λ columns. IsPiece text columns 3)
starts_long text c told utf8 three is by = if_starts_three text c told utf8 three is (λ columns some. by_three c columns (sym by ∙ some))

pub starts_brahmic : (text : List ℕ) (c : ℕ) (told : Option ℕ) → IsUtf8 text → IsOfThree text → IsFirst text c → told ≡ columns_of_brahmic c → IfSome told (λ columns. IsPiece text columns 3)
starts_brahmic text c told utf8 three is by = if_starts_three text c told utf8 three is (λ columns some. by_brahmic c columns (sym by ∙ some))

-- the first byte of Devanagari and Thai
pub is_of_three_low : (text : List ℕ) → IsUtf8 text → get_or text 0 0 ≡ 0xE0 → IsOfThree text
is_of_three_low text utf8 h = is_of_three text utf8 (ap (is_in_range 0xE0 0xEF) h)

pub is_three_lead : (b : ℕ) → 0xE1 ≤ b → b ≤ 0xEF → is_in_range 0xE0 0xEF b ≡ true
is_three_lead b low high = grind (arith, nat_tests)

pub code_of_three : (text : List ℕ) (c second third : ℕ) (rest : List ℕ) → IsOfThree text → second ≡ get_or text 1 0 - 128 → third ≡ get_or text 2 0 - 128 → text ≡ encode_utf8 c ++ rest → (get_or text 0 0 - 224) * 4096 + second * 64 + third ≡ c
code_of_three text c second third rest three is_second is_third spelled = grind (arith, encode_same, rest, spelled)

-- ---- a text of simple characters

reads_printable : (bs cs : List ℕ) (m : ℕ) → list_all (is_in_range 0x20 0x7E) bs ≡ true → Reads (get_or cs 0 0) m (read_before false cs (0, plain)) → Reads (get_or (bs ++ cs) 0 0) (length bs + m) (read_before false (bs ++ cs) (0, plain))
reads_printable [] cs m printable reads = let none : m ≡ 0 + m = omega arith in subst (λ m. Reads (get_or cs 0 0) m (read_before false cs (0, plain))) none reads
reads_printable (b ∷ bs) cs m printable reads =
    let parts = and_parts (is_in_range 0x20 0x7E b) (list_all (is_in_range 0x20 0x7E) bs) printable in
    let sum : length bs + m + 1 ≡ length (b ∷ bs) + m = omega arith in
    subst (λ m. Reads b m (read_before false (b ∷ (bs ++ cs)) (0, plain))) sum (of_ascii b parts.0 _ _ _ (reads_printable bs cs m parts.1 reads))

-- a printable front, and what reads quietly after it
pub reads_past : (text : List ℕ) (n m : ℕ) → n ≤ length text → list_all (is_in_range 0x20 0x7E) (take n text) ≡ true → ReadsQuietly (drop n text) m → ReadsQuietly text (n + m)
reads_past text n m within printable reads =
    let is_ascii = ascii (take n text) printable in
    let cut : chars text ≡ take n text ++ chars (drop n text) =
    ap chars (sym (take-append-drop n text)) ∙ chars-append (take n text) (drop n text) (IsUtf8-from_ascii (take n text) is_ascii) ∙ ap (λ cs. cs ++ chars (drop n text)) (chars-IsAscii (take n text) is_ascii) in
    reads_by text _ (n + m) cut (subst (λ k. Reads (get_or (take n text ++ chars (drop n text)) 0 0) (k + m) (read_before false (take n text ++ chars (drop n text)) (0, plain))) (length-take-le n text within) (reads_printable (take n text) (chars (drop n text)) m printable reads))

-- the text may be cut there
pub cut_past : (text : List ℕ) (n : ℕ) → IsUtf8 text → n ≤ length text → list_all (is_in_range 0x20 0x7E) (take n text) ≡ true → IsCharBoundary text n
cut_past text n utf8 within printable = IsCharBoundary-from_take text n utf8 within (IsUtf8-from_ascii (take n text) (ascii (take n text) printable))

pub reads_nothing : ReadsQuietly [] 0
unfolding chars
reads_nothing = record { counted = refl; quiet = Plain refl }

pub width_of_quiet : (text : List ℕ) (width : ℕ) → ReadsQuietly text width → width ≡ str_width false (chars text)
unfolding str_width
width_of_quiet text width reads = sym reads.counted

-- ---- with the printable ASCII that follows

pub reads_run : (text : List ℕ) (n m : ℕ) → n ≡ prefix_len (is_in_range 0x20 0x7E) text → ReadsQuietly (drop n text) m → ReadsQuietly text (n + m)
reads_run text n m is =
    let bound = prefix_len-le-length (is_in_range 0x20 0x7E) text in
    reads_past text n m (omega arith) (subst (λ k. list_all (is_in_range 0x20 0x7E) (take k text) ≡ true) (sym is) (front_printable text))

pub cut_run : (text : List ℕ) (n : ℕ) → IsUtf8 text → n ≡ prefix_len (is_in_range 0x20 0x7E) text → IsCharBoundary text n
cut_run text n utf8 is = grind (arith, prefix_len-le-length, cut_past, front_printable)

pub piece : (text after : List ℕ) (columns count run : ℕ) → IsPiece text columns count → IsUtf8 text → after ≡ drop count text → run ≡ prefix_len (is_in_range 0x20 0x7E) after → IsPiece text (columns + run) (count + run)
piece text after columns count run first utf8 is counted =
    let bound = first.bound in
    let counted_there : run ≡ prefix_len (is_in_range 0x20 0x7E) (drop count text) = counted ∙ ap (prefix_len (is_in_range 0x20 0x7E)) is in
    let past_run = cut_run (drop count text) run (IsUtf8-drop text count utf8 first.boundary) counted_there in
    let sum : (n : ℕ) → columns + (run + n) ≡ columns + run + n = λ n. omega arith in
    record {
      boundary = IsCharBoundary-from_rest text count run first.boundary.0 past_run;
      some = omega (arith, first.some);
      bound = omega arith;
      reads = λ n quietly. subst (ReadsQuietly text) (sum n)
          (first.reads (run + n) (reads_run (drop count text) run n counted_there (subst (λ bs. ReadsQuietly bs n) (sym (drop-drop run count text)) quietly)));
    }

-- ---- letters of Hebrew and Arabic

pub semitic_is_of_two : (text : List ℕ) → IsUtf8 text → is_in_range 0xD7 0xD9 (get_or text 0 0) ≡ true → IsOfTwo text
semitic_is_of_two text utf8 h = search (rules, is_of_two, semitic_lead, nat_tests)
  where
    semitic_lead : (b : ℕ) → is_in_range 0xD7 0xD9 b ≡ true → is_in_range 0xC2 0xDF b ≡ true
    semitic_lead b h = grind (arith, nat_tests)

pub starts_semitic : (text : List ℕ) (c : ℕ) → IsUtf8 text → is_in_range 0xD7 0xD9 (get_or text 0 0) ≡ true → IsFirst text c → c ≢ 0x644 → is_semitic_letter c ≡ true → IsPiece text 1 2
starts_semitic text c utf8 h is unlike letter =
    starts_found text c 1 2 _ (semitic_is_of_two text utf8 h) utf8 is (omega arith) (of_semitic c letter unlike)

pub begins_with_lam : (text : List ℕ) (c : ℕ) → IsUtf8 text → is_in_range 0xD7 0xD9 (get_or text 0 0) ≡ true → IsFirst text c → c ≡ 0x644 → BeginsWith text 0x644
begins_with_lam text c utf8 h is lam =
    let two = semitic_is_of_two text utf8 h in
    (two.rest, two.spelled ∙ ap (λ c. encode_utf8 c ++ two.rest) (sym (is two.first two.rest two.spelled) ∙ lam))

two_bytes : length (encode_utf8 0x644) ≡ 2
unfolding encode_utf8
two_bytes = refl

after_lam : (text : List ℕ) (lam : BeginsWith text 0x644) → drop 2 text ≡ lam.0
after_lam text lam = past 0x644 lam.0 text 2 lam.1 two_bytes

pub cut_lam : (text : List ℕ) → IsUtf8 text → BeginsWith text 0x644 → IsCharBoundary text 2
cut_lam text utf8 lam = subst (IsCharBoundary text) two_bytes (IsCharBoundary-at_seam text (encode_utf8 0x644) lam.0 lam.1 (IsUtf8-past_char text lam.0 0x644 utf8 lam.1))

-- a lam before what it cannot join
lam_alone : (text after : List ℕ) → IsUtf8 text → BeginsWith text 0x644 → after ≡ drop 2 text → may_join_lam (get_or (chars after) 0 0) ≡ false → IsPiece text 1 2
lam_alone text after utf8 lam is apart = search (rules, starts_by, two_bytes, more, apart_there, after_lam)
  where
    apart_there : may_join_lam (get_or (chars lam.0) 0 0) ≡ false
    apart_there = subst (λ bs. may_join_lam (get_or (chars bs) 0 0) ≡ false) (is ∙ after_lam text lam) apart

    more : (n : ℕ) → ReadsQuietly lam.0 n → ReadsQuietly text (1 + n)
    more n quietly =
        let swap : n + 1 ≡ 1 + n = omega arith in
        reads_by text (0x644 ∷ chars lam.0) (1 + n) (chars_past_char text lam.0 0x644 utf8 lam.1) (subst (λ n. Reads 0x644 n (step false 0x644 (read_before false (chars lam.0) (0, plain)))) swap (of_lam _ n _ apart_there quietly))

-- the first character of a text that begins with a byte of ASCII, or of none, is no more
first_is_low : (text : List ℕ) → IsUtf8 text → get_or text 0 0 < 0x80 → get_or (chars text) 0 0 < 0x80
unfolding chars
first_is_low [] utf8 low = omega arith
first_is_low (b ∷ bs) utf8 low = grind arith

pub lam_at_end : (text after : List ℕ) → IsUtf8 text → BeginsWith text 0x644 → after ≡ drop 2 text → IsUtf8 after → get_or after 0 0 < 0x80 → IsPiece text 1 2
lam_at_end text after utf8 lam is utf8_after low = search (rules, lam_alone, apart_from, first_is_low, nat_tests)
  where
    apart_from : (c : ℕ) → c < 0x80 → may_join_lam c ≡ false
    apart_from c low = grind (arith, nat_tests)

pub lam_in_word : (text after : List ℕ) (next : ℕ) → IsUtf8 text → BeginsWith text 0x644 → after ≡ drop 2 text → IsUtf8 after → is_in_range 0xD7 0xD9 (get_or after 0 0) ≡ true → IsFirst after next → is_alef next ≡ false → is_semitic_letter next ≡ true → IsPiece text 1 2
lam_in_word text after next utf8 lam is utf8_after h same unlike letter =
    let two = semitic_is_of_two after utf8_after h in
    let first : get_or (chars after) 0 0 ≡ next = ap (λ cs. get_or cs 0 0) (chars_past_char after two.rest two.first utf8_after two.spelled) ∙ sym (same two.first two.rest two.spelled) in
    lam_alone text after utf8 lam is (ap may_join_lam first ∙ apart_from next unlike letter)
  where
    apart_from : (c : ℕ) → is_alef c ≡ false → is_semitic_letter c ≡ true → may_join_lam c ≡ false
    apart_from c unlike letter = grind (arith, nat_tests)

pub lam_and_alef : (text after : List ℕ) (next : ℕ) → IsUtf8 text → BeginsWith text 0x644 → after ≡ drop 2 text → IsUtf8 after → is_in_range 0xD7 0xD9 (get_or after 0 0) ≡ true → IsFirst after next → is_alef next ≡ true → IsPiece text 1 4
lam_and_alef text after next utf8 lam is utf8_after h same alef =
    let two = semitic_is_of_two after utf8_after h in
    let known : is_alef two.first ≡ true = ap is_alef (sym (same two.first two.rest two.spelled)) ∙ alef in
    let cut : drop 4 text ≡ two.rest = sym (drop-drop 2 2 text) ∙ ap (drop 2) (sym is) ∙ past two.first two.rest after 2 two.spelled two.counted in
    let spelled : lam.0 ≡ encode_utf8 two.first ++ two.rest = sym (is ∙ after_lam text lam) ∙ two.spelled in
    let utf8_there : IsUtf8 lam.0 = subst IsUtf8 (is ∙ after_lam text lam) utf8_after in
    let there : IsCharBoundary after 2 = subst (IsCharBoundary after) two.counted (IsCharBoundary-at_seam after (encode_utf8 two.first) two.rest two.spelled (IsUtf8-past_char after two.rest two.first utf8_after two.spelled)) in
    let both : chars text ≡ 0x644 ∷ two.first ∷ chars two.rest =
    chars_past_char text lam.0 0x644 utf8 lam.1 ∙ ap (λ cs. 0x644 ∷ cs) (chars_past_char lam.0 two.rest two.first utf8_there spelled) in
    record {
      boundary = IsCharBoundary-from_rest text 2 2 (cut_lam text utf8 lam).0 (subst (λ bs. IsCharBoundary bs 2) is there);
      some = omega arith;
      bound = omega arith;
      reads = λ n quietly. more two.first two.rest n known both (subst (λ bs. ReadsQuietly bs n) cut quietly);
    }
  where
    more : (c : ℕ) (rest : List ℕ) (n : ℕ) → is_alef c ≡ true → chars text ≡ 0x644 ∷ c ∷ chars rest → ReadsQuietly rest n → ReadsQuietly text (1 + n)
    more c rest n known both quietly =
        let swap : n + 1 ≡ 1 + n = omega arith in
        reads_by text (0x644 ∷ c ∷ chars rest) (1 + n) both (subst (λ n. Reads 0x644 n (step false 0x644 (step false c (read_before false (chars rest) (0, plain))))) swap (of_lam_alef c _ n _ known quietly))

-- a front that was counted whole is printable
pub front_is_printable : (text bytes : List ℕ) (from k n : ℕ) → n ≡ prefix_len (is_in_range 0x20 0x7E) (take k bytes) → k ≡ from → bytes ≡ text → from ≤ n → from ≤ length text → list_all (is_in_range 0x20 0x7E) (take from text) ≡ true
front_is_printable text bytes from k n is same whole all within =
    let counted : n ≡ prefix_len (is_in_range 0x20 0x7E) (take from text) = is ∙ ap (λ k. prefix_len (is_in_range 0x20 0x7E) (take k bytes)) same ∙ ap (λ bs. prefix_len (is_in_range 0x20 0x7E) (take from bs)) whole in
    let long = length-take-le from text within in
    whole_printable (take from text) n counted (omega (arith, prefix_len-le-length (is_in_range 0x20 0x7E) (take from text)))
