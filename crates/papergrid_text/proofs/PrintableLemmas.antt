-- Texts of printable ASCII.
use Rattle.std.proofs.Common.{◌≡◌, ℕ, suc, ◌+◌, ◌<◌, ◌&&◌, Bool, cond, nat_eq, List, [], ◌∷◌, length, take, refl, sym, ap, ◌∙◌, arith, true, false, IsAscii, chars}
use Rattle.std.specs.Int.{is_in_range}
use Rattle.std.specs.List.{list_all, prefix_len}
use Rattle.std.proofs.Math.Dec.{eqb-suc-suc}
use Rattle.std.proofs.lemmas.Bool.{and_parts, eq-eqb}
use Rattle.std.proofs.lemmas.Bool.Decides.{nat_tests}
use Rattle.std.proofs.lemmas.List.{length-take-le}
use Rattle.std.proofs.lemmas.List.Sums.{prefix_len-le-length}
use Rattle.std.proofs.lemmas.Str.{chars-IsAscii}
use Rattle.std.proofs.lemmas.Str.Ascii.{IsAscii-nil, IsAscii-cons}
use Rattle.unicode_width.proofs.Rules.{str_width-printable}
use Rattle.unicode_width.specs.Width.{str_width}

below_128 : (b : ℕ) → is_in_range 0x20 0x7E b ≡ true → b < 128
below_128 b h = grind (arith, nat_tests)

pub ascii : (text : List ℕ) → list_all (is_in_range 0x20 0x7E) text ≡ true → IsAscii text
ascii [] h = IsAscii-nil
ascii (b ∷ bs) h =
    let parts = and_parts (is_in_range 0x20 0x7E b) (list_all (is_in_range 0x20 0x7E) bs) h in
    IsAscii-cons b bs (below_128 b parts.0) (ascii bs parts.1)

pub width-printable : (text : List ℕ) → list_all (is_in_range 0x20 0x7E) text ≡ true → str_width false (chars text) ≡ length text
width-printable text h = ap (str_width false) (chars-IsAscii text (ascii text h)) ∙ str_width-printable false text h

-- ---- the printable bytes at the front

all_step : (v rest : Bool) (n m : ℕ) → nat_eq n m ≡ rest → nat_eq (cond v (1 + n) 0) (suc m) ≡ v && rest
all_step true rest n m h = let next : 1 + n ≡ suc n = omega arith in ap (λ k. nat_eq k (suc m)) next ∙ eqb-suc-suc n m ∙ h
all_step false rest n m h = grind (arith, nat_tests)

pub all_printable : (text : List ℕ) → nat_eq (prefix_len (is_in_range 0x20 0x7E) text) (length text) ≡ list_all (is_in_range 0x20 0x7E) text
all_printable [] = refl
all_printable (b ∷ bs) = all_step (is_in_range 0x20 0x7E b) _ _ _ (all_printable bs)

front_step : (v : Bool) (b : ℕ) (bs : List ℕ) → is_in_range 0x20 0x7E b ≡ v → list_all (is_in_range 0x20 0x7E) (take (prefix_len (is_in_range 0x20 0x7E) bs) bs) ≡ true
    → list_all (is_in_range 0x20 0x7E) (take (cond v (1 + prefix_len (is_in_range 0x20 0x7E) bs) 0) (b ∷ bs)) ≡ true
front_step true b bs is h = grind arith
front_step false b bs is h = refl

pub front_printable : (text : List ℕ) → list_all (is_in_range 0x20 0x7E) (take (prefix_len (is_in_range 0x20 0x7E) text) text) ≡ true
front_printable [] = refl
front_printable (b ∷ bs) = front_step (is_in_range 0x20 0x7E b) b bs refl (front_printable bs)

-- a printable front is as wide as it is long
pub front_width : (text : List ℕ) (n : ℕ) → n ≡ prefix_len (is_in_range 0x20 0x7E) text → n ≡ str_width false (chars (take n text))
front_width text n is = grind (arith, front_printable, prefix_len-le-length, width-printable, length-take-le)

-- where it is as long as the text, that is the whole
pub whole_printable : (text : List ℕ) (n : ℕ) → n ≡ prefix_len (is_in_range 0x20 0x7E) text → n ≡ length text → list_all (is_in_range 0x20 0x7E) text ≡ true
whole_printable text n is whole = sym (all_printable text) ∙ eq-eqb _ _ (sym is ∙ whole)
