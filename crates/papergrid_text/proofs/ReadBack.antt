-- Numbers that are encoded as characters are read back, whatever they are.
use Rattle.std.proofs.Common.{◌≡◌, ◌∙◌, ap, refl, ℕ, zero, suc, ◌+◌, ◌-◌, ◌*◌, ◌/◌, ◌%◌, ◌<◌, ◌≤◌, List, [], ◌∷◌, ◌++◌, arith}
use Rattle.std.specs.Char.{encode_utf8}
use Rattle.std.specs.Str.{chars, chars_after, continuation_len, encode_utf8_all, lead_bits}
use Rattle.std.proofs.lemmas.Bool.{cases_lt, le-ltb, lt-ltb}
use Rattle.std.proofs.lemmas.Str.{chars-nil}

-- ---- a character by its first byte

whole : (c : ℕ) (bs : List ℕ) → chars_after zero c bs ≡ c ∷ chars bs
unfolding chars
whole c [] = refl
whole c (b ∷ bs) = refl

led : (a n v : ℕ) (bs : List ℕ) → continuation_len a ≡ n → lead_bits a ≡ v → chars (a ∷ bs) ≡ chars_after n v bs
unfolding chars
led a n v bs many bits = λ i. chars_after (many i) (bits i) bs

-- ---- a character of one byte, of two, of three and of four

of_one : (c : ℕ) (rest : List ℕ) → c < 128 → chars (encode_utf8 c ++ rest) ≡ c ∷ chars rest
unfolding encode_utf8
of_one c rest low = rw (lt-ltb c 128 low) (led c zero c rest (grind arith) (grind arith) ∙ whole c rest)

of_two : (c : ℕ) (rest : List ℕ) → 128 ≤ c → c < 2048 → chars (encode_utf8 c ++ rest) ≡ c ∷ chars rest
unfolding encode_utf8
of_two c rest high low =
    let a = 192 + c / 64 in
    let b = 128 + c % 64 in
    rw (le-ltb c 128 high, lt-ltb c 2048 low)
    (led a (suc zero) (a - 192) (b ∷ rest) (grind arith) (grind arith) ∙ whole _ rest ∙ ap (λ x. x ∷ chars rest) (omega arith))

of_three : (c : ℕ) (rest : List ℕ) → 2048 ≤ c → c < 65536 → chars (encode_utf8 c ++ rest) ≡ c ∷ chars rest
unfolding encode_utf8
of_three c rest high low =
    let a = 224 + c / 4096 in
    let b = 128 + c / 64 % 64 in
    let d = 128 + c % 64 in
    let is : ((a - 224) * 64 + (b - 128)) * 64 + (d - 128) ≡ c = omega arith in
    rw (le-ltb c 128 (omega arith), le-ltb c 2048 high, lt-ltb c 65536 low)
    (led a (suc (suc zero)) (a - 224) (b ∷ d ∷ rest) (grind arith) (grind arith) ∙ whole _ rest ∙ ap (λ x. x ∷ chars rest) is)

of_four : (c : ℕ) (rest : List ℕ) → 65536 ≤ c → chars (encode_utf8 c ++ rest) ≡ c ∷ chars rest
unfolding encode_utf8
of_four c rest high =
    let a = 240 + c / 262144 in
    let b = 128 + c / 4096 % 64 in
    let d = 128 + c / 64 % 64 in
    let e = 128 + c % 64 in
    let is : (((a - 240) * 64 + (b - 128)) * 64 + (d - 128)) * 64 + (e - 128) ≡ c = omega arith in
    rw (le-ltb c 128 (omega arith), le-ltb c 2048 (omega arith), le-ltb c 65536 high)
    (led a (suc (suc (suc zero))) (a - 240) (b ∷ d ∷ e ∷ rest) (grind arith) (grind arith) ∙ whole _ rest ∙ ap (λ x. x ∷ chars rest) is)

pub read-one : (c : ℕ) (rest : List ℕ) → chars (encode_utf8 c ++ rest) ≡ c ∷ chars rest
read-one c rest = grind (arith, cases_lt, of_one, of_two, of_three, of_four)

-- ---- all of them

pub chars-back : (cs : List ℕ) → chars (encode_utf8_all cs) ≡ cs
chars-back [] = chars-nil
chars-back (c ∷ cs) = read-one c (encode_utf8_all cs) ∙ ap (λ l. c ∷ l) (chars-back cs)
