-- Texts of printable ASCII.
use Rattle.std.proofs.Common.{◌≡◌, ℕ, suc, ◌+◌, ◌<◌, Bool, cond, List, [], ◌∷◌, length, get_or, refl, ap, ◌∙◌, arith, true, false, max}
use Rattle.std.specs.Prelude.{◌==◌}
use Rattle.std.specs.Int.{is_in_range}
use Rattle.std.specs.List.{list_all, prefix_len, position_or_len, All}
use Rattle.std.specs.Str.Lines.{lines_of_parts}
use Rattle.std.proofs.Math.Dec.{eqb-suc-zero}
use Rattle.std.proofs.lemmas.Bool.{and_parts}
use Rattle.std.proofs.lemmas.Bool.Decides.{nat_tests}
use Rattle.std.proofs.lemmas.List.Elements.{All-nil, All-cons}
use Rattle.std.proofs.lemmas.List.Splits.{slice_split_none}
use Rattle.papergrid_text.proofs.PrintableLemmas.{width-printable}
use Rattle.papergrid_text.specs.Text.{width_of, greatest_width, split_lines, text_width}

no_newline : (b : ℕ) → is_in_range 0x20 0x7E b ≡ true → (b == 10) ≡ false
no_newline b h = grind (arith, nat_tests)

no_newlines : (text : List ℕ) → list_all (is_in_range 0x20 0x7E) text ≡ true → All (λ b. (b == 10) ≡ false) text
no_newlines [] h = All-nil (λ b. (b == 10) ≡ false)
no_newlines (b ∷ bs) h =
    let parts = and_parts (is_in_range 0x20 0x7E b) (list_all (is_in_range 0x20 0x7E) bs) h in
    All-cons (λ c. (c == 10) ≡ false) b bs (no_newline b parts.0) (no_newlines bs parts.1)

pub one_line : (text : List ℕ) → list_all (is_in_range 0x20 0x7E) text ≡ true → split_lines text ≡ text ∷ []
one_line text h = slice_split_none (λ b. b == 10) text (no_newlines text h)

pub one_width : (text : List ℕ) → list_all (is_in_range 0x20 0x7E) text ≡ true → greatest_width (text ∷ []) ≡ length text
one_width text h = let w = width-printable text h in let m : max (width_of text) 0 ≡ length text = omega arith in m

pub text_width-printable : (text : List ℕ) → list_all (is_in_range 0x20 0x7E) text ≡ true → text_width text ≡ length text
text_width-printable [] h = refl
text_width-printable (b ∷ bs) h = ap (λ parts. greatest_width (lines_of_parts parts)) (one_line (b ∷ bs) h) ∙ rw (eqb-suc-zero (length bs)) (one_width (b ∷ bs) h)

-- ---- the printable bytes at the front

newline_step : (v : Bool) (b : ℕ) (bs : List ℕ) → is_in_range 0x20 0x7E b ≡ v → cond v (1 + prefix_len (is_in_range 0x20 0x7E) bs) 0 < suc (length bs)
    → get_or (b ∷ bs) (cond v (1 + prefix_len (is_in_range 0x20 0x7E) bs) 0) 0 ≡ 10
    → (prefix_len (is_in_range 0x20 0x7E) bs < length bs → get_or bs (prefix_len (is_in_range 0x20 0x7E) bs) 0 ≡ 10 → position_or_len (λ c. c == 10) bs ≡ prefix_len (is_in_range 0x20 0x7E) bs)
    → position_or_len (λ c. c == 10) (b ∷ bs) ≡ cond v (1 + prefix_len (is_in_range 0x20 0x7E) bs) 0
newline_step true b bs is within at later = grind (arith, no_newline)
newline_step false b bs is within at later = rw at refl

-- where a newline ends it, that is the first one
pub first_newline : (text : List ℕ) → prefix_len (is_in_range 0x20 0x7E) text < length text → get_or text (prefix_len (is_in_range 0x20 0x7E) text) 0 ≡ 10
    → position_or_len (λ c. c == 10) text ≡ prefix_len (is_in_range 0x20 0x7E) text
first_newline [] within at = absurd (omega arith)
first_newline (b ∷ bs) within at = newline_step (is_in_range 0x20 0x7E b) b bs refl within at (first_newline bs)
