-- What the characters of a field between tabs stand for, one character after another.
use Rattle.std.proofs.Common.{◌≡◌, ◌≢◌, ◌∙◌, ℕ, List, [], ◌∷◌, ◌++◌, Bool, true, false, cond, Result, Ok, Err, append-nil, append_assoc, ap, arith, refl, subst, sym}
use Rattle.std.specs.Prelude.{◌==◌, OnOk, chars, encode_utf8_all, flat_map}
use Rattle.std.specs.List.{list_any}
use Rattle.std.proofs.lemmas.Bool.Decides.{nat_tests}
use Rattle.std.proofs.lemmas.Grind.{flat_map-append}
use Rattle.std.specs.Str.{IsUtf8}
use Rattle.std.proofs.Math.Utf8.{encode}
use Rattle.std.proofs.lemmas.List.Folds.{list_any-append}
use Rattle.std.proofs.lemmas.Str.{encode_ascii, encodes-append, encodes-chars}
use Rattle.papergrid_csv.specs.Spelling.{is_escaped, meant, spelled_character, without_escapes}
use Rattle.papergrid_csv.specs.ForProofs.Escapes.{after_backslash}
use Rattle.papergrid_csv.specs.declared.reading.Format.{Format}
use Rattle.papergrid_csv.specs.declared.reading.Format.TheVariants.{Tsv}
use Rattle.papergrid_csv.specs.declared.reading.Reading.{Reading}

-- ---- what stands for what

-- any other character stands for itself
plain-first : (c : ℕ) (rest : List ℕ) → c ≢ 0x5C → without_escapes (c ∷ rest) ≡ c ∷ without_escapes rest
unfolding without_escapes
plain-first c [] other = refl
plain-first c (next ∷ rest) other =
    let test : (c == 0x5C) ≡ false = grind (arith, nat_tests) in
    rw test refl

pair-first : (b : Bool) (c : ℕ) (rest : List ℕ) → is_escaped c ≡ b → without_escapes (0x5C ∷ c ∷ rest) ≡ after_backslash c ++ without_escapes rest
unfolding without_escapes
pair-first true c rest is = rw is refl
pair-first false c rest is =
    let other : c ≢ 0x5C = λ same. cc (subst (λ d. is_escaped d ≡ false) same is) in
    let plain = plain-first c rest other in
    rw (is, plain) refl

none-escaped : (bs : List ℕ) → list_any (λ b. b == 0x5C) bs ≡ false → without_escapes bs ≡ bs
unfolding without_escapes
none-escaped [] none = refl
none-escaped (b ∷ bs) none =
    let first : (b == 0x5C) ≡ false = grind (arith, nat_tests) in
    let rest : list_any (λ b. b == 0x5C) bs ≡ false = grind (arith, nat_tests) in
    let other : b ≢ 0x5C = grind (arith, nat_tests) in
    plain-first b bs other ∙ ap (λ l. b ∷ l) (none-escaped bs rest)

not-first : (b : Bool) (c : ℕ) → (c == 0x5C) ≡ b → list_any (λ d. d == 0x5C) (encode c) ≡ false → (c == 0x5C) ≡ false
not-first false c is none = is
not-first true c is none =
    let same : c ≡ 0x5C = grind (arith, nat_tests) in
    let one = encode_ascii c (omega arith) in
    let found : list_any (λ d. d == 0x5C) (encode c) ≡ true = rw (one, is) refl in
    is ∙ (sym found ∙ none)

-- characters without a backslash among their bytes have none among themselves
none-encoded : (cs : List ℕ) → list_any (λ d. d == 0x5C) (encode_utf8_all cs) ≡ false → list_any (λ d. d == 0x5C) cs ≡ false
none-encoded [] none = refl
none-encoded (c ∷ cs) none =
    let parts = sym (list_any-append (λ d. d == 0x5C) (encode c) (encode_utf8_all cs)) ∙ none in
    let first : list_any (λ d. d == 0x5C) (encode c) ≡ false = grind (arith, nat_tests) in
    let rest : list_any (λ d. d == 0x5C) (encode_utf8_all cs) ≡ false = grind (arith, nat_tests) in
    let other = not-first (c == 0x5C) c refl first in
    rw other (none-encoded cs rest)

-- a field that has no backslash stands for itself
pub means-itself : (format : Format) (field : List ℕ) (found : Bool) → IsUtf8 field → format ≡ Tsv → found ≡ list_any (λ b. b == 0x5C) field → found ≡ false →
    meant format (chars field) ≡ chars field
means-itself format field found utf8 tsv is none =
    rw tsv (none-escaped (chars field) (none-encoded (chars field) (ap (list_any (λ b. b == 0x5C)) (encodes-chars field utf8) ∙ (sym is ∙ none))))

-- ---- so far

-- what is left, with a backslash before it that is held
abbrev pub held_before : Bool → List ℕ → List ℕ
held_before held rest = cond held (0x5C ∷ rest) rest

-- the text has what these characters stand for, but for a backslash that is held
pub record IsSettled (reading : Reading) (yielded : List ℕ) (held : Bool) (text : List ℕ) : Type 0 where
  pub characters : List ℕ
  pub is : text ≡ encode_utf8_all (flat_map (spelled_character reading) characters)
  pub left : (rest : List ℕ) → without_escapes (yielded ++ rest) ≡ characters ++ without_escapes (held_before held rest)

module _ (reading : Reading) where
  -- with more characters
  more-characters : (characters more old new : List ℕ) → old ≡ encode_utf8_all (flat_map (spelled_character reading) characters) →
      new ≡ old ++ encode_utf8_all (flat_map (spelled_character reading) more) → new ≡ encode_utf8_all (flat_map (spelled_character reading) (characters ++ more))
  more-characters characters more old new before is =
      is ∙ ap (λ t. t ++ encode_utf8_all (flat_map (spelled_character reading) more)) before
      ∙ sym (encodes-append (flat_map (spelled_character reading) characters) (flat_map (spelled_character reading) more))
      ∙ ap encode_utf8_all (sym (flat_map-append (spelled_character reading) characters more))

  one : (c : ℕ) → encode_utf8_all (spelled_character reading c) ≡ encode_utf8_all (flat_map (spelled_character reading) (c ∷ []))
  one c = ap encode_utf8_all (sym (append-nil (spelled_character reading c)))

  -- a character that stands for itself
  pub settled-plain : (yielded old new : List ℕ) (held : Bool) (c : ℕ) → held ≡ false → c ≢ 0x5C → IsSettled reading yielded held old →
      new ≡ old ++ encode_utf8_all (spelled_character reading c) → IsSettled reading (yielded ++ c ∷ []) held new
  settled-plain yielded old new held c none other so is = record {
    characters = so.characters ++ c ∷ [];
    is = more-characters so.characters (c ∷ []) old new so.is (is ∙ ap (λ t. old ++ t) (one c));
    left = λ rest.
        ap without_escapes (append_assoc yielded (c ∷ []) rest) ∙ so.left (c ∷ rest) ∙ ap (λ b. so.characters ++ without_escapes (held_before b (c ∷ rest))) none
        ∙ ap (λ l. so.characters ++ l) (plain-first c rest other) ∙ sym (append_assoc so.characters (c ∷ []) (without_escapes rest))
        ∙ ap (λ b. (so.characters ++ c ∷ []) ++ without_escapes (held_before b rest)) (sym none);
  }

  -- none yet
  pub settled-none : (text : List ℕ) → text ≡ [] → IsSettled reading [] false text
  settled-none text none = record { characters = []; is = none; left = λ rest. refl }

  -- a backslash, which is held
  pub settled-held : (yielded text : List ℕ) (held : Bool) (c : ℕ) → held ≡ false → c ≡ 0x5C → IsSettled reading yielded held text → IsSettled reading (yielded ++ c ∷ []) true text
  settled-held yielded text held c none same so = record {
    characters = so.characters;
    is = so.is;
    left = λ rest.
        ap without_escapes (append_assoc yielded (c ∷ []) rest) ∙ so.left (c ∷ rest) ∙ ap (λ b. so.characters ++ without_escapes (held_before b (c ∷ rest))) none
        ∙ ap (λ d. so.characters ++ without_escapes (d ∷ rest)) same;
  }

  -- one after a backslash that was held
  pub settled-pair : (yielded old new : List ℕ) (held : Bool) (c : ℕ) → held ≡ true → IsSettled reading yielded held old →
      new ≡ old ++ encode_utf8_all (flat_map (spelled_character reading) (after_backslash c)) → IsSettled reading (yielded ++ c ∷ []) false new
  settled-pair yielded old new held c some so is = record {
    characters = so.characters ++ after_backslash c;
    is = more-characters so.characters (after_backslash c) old new so.is is;
    left = λ rest.
        ap without_escapes (append_assoc yielded (c ∷ []) rest) ∙ so.left (c ∷ rest) ∙ ap (λ b. so.characters ++ without_escapes (held_before b (c ∷ rest))) some
        ∙ ap (λ l. so.characters ++ l) (pair-first (is_escaped c) c rest refl) ∙ sym (append_assoc so.characters (after_backslash c) (without_escapes rest));
  }

  -- all of them, where none is held
  pub settled-all : (yielded text : List ℕ) (held : Bool) → held ≡ false → IsSettled reading yielded held text →
      text ≡ encode_utf8_all (flat_map (spelled_character reading) (without_escapes yielded))
  unfolding without_escapes
  settled-all yielded text held none so =
      so.is ∙ ap (λ cs. encode_utf8_all (flat_map (spelled_character reading) cs))
      (sym (ap without_escapes (sym (append-nil yielded)) ∙ so.left [] ∙ ap (λ b. so.characters ++ without_escapes (held_before b [])) none ∙ append-nil so.characters))

  -- and with one that is
  pub settled-last : (yielded old new : List ℕ) (held : Bool) → held ≡ true → IsSettled reading yielded held old →
      new ≡ old ++ encode_utf8_all (spelled_character reading 0x5C) → new ≡ encode_utf8_all (flat_map (spelled_character reading) (without_escapes yielded))
  unfolding without_escapes
  settled-last yielded old new held some so is =
      more-characters so.characters (0x5C ∷ []) old new so.is (is ∙ ap (λ t. old ++ t) (one 0x5C))
      ∙ ap (λ cs. encode_utf8_all (flat_map (spelled_character reading) cs))
      (sym (ap without_escapes (sym (append-nil yielded)) ∙ so.left [] ∙ ap (λ b. so.characters ++ without_escapes (held_before b [])) some))

-- ---- a backslash and what follows it

abbrev pub all_spelled : Reading → List ℕ → List ℕ
all_spelled reading cs = encode_utf8_all (flat_map (spelled_character reading) cs)

pub escaped-two : (reading : Reading) (c : ℕ) (old middle new : List ℕ) → is_escaped c ≡ false → middle ≡ old ++ encode_utf8_all (spelled_character reading 0x5C) →
    new ≡ middle ++ encode_utf8_all (spelled_character reading c) → new ≡ old ++ all_spelled reading (after_backslash c)
escaped-two reading c old middle new not_escaped first second =
    let two : encode_utf8_all (spelled_character reading 0x5C) ++ encode_utf8_all (spelled_character reading c) ≡ all_spelled reading (0x5C ∷ c ∷ []) =
    sym (encodes-append (spelled_character reading 0x5C) (spelled_character reading c)) ∙ ap encode_utf8_all (ap (λ t. spelled_character reading 0x5C ++ t) (sym (append-nil (spelled_character reading c)))) in
    rw not_escaped (second ∙ ap (λ t. t ++ encode_utf8_all (spelled_character reading c)) first ∙ append_assoc old _ _ ∙ ap (λ t. old ++ t) two)

pub on-both : {E : Type 0} (r : Result (Unit {0}) E) (reading : Reading) (c : ℕ) (old middle new : List ℕ) → is_escaped c ≡ false → middle ≡ old ++ encode_utf8_all (spelled_character reading 0x5C) →
    OnOk r (new ≡ middle ++ encode_utf8_all (spelled_character reading c)) → OnOk r (new ≡ old ++ all_spelled reading (after_backslash c))
on-both (Ok x) reading c old middle new none first second = escaped-two reading c old middle new none first second
on-both (Err e) reading c old middle new none first second = tt
