use Rattle.std.proofs.Common.{◌≡◌, ◌<◌, ◌^◌, ℕ, List, length, [], ◌∷◌, ◌&&◌, None, ap, Result, Ok, Err, true, false, refl, arith, sym, ◌∙◌}
use Rattle.std.specs.Char.{is_ascii_digit}
use Rattle.std.specs.List.{list_all}
use Rattle.std.specs.Result.{OkIff, result_ok}
use Rattle.std.specs.Str.{all_ascii_digits}
use Rattle.std.specs.Str.Parse.{digits_value}
use Rattle.std.proofs.lemmas.Bool.Decides.{nat_tests}
use Rattle.std.proofs.lemmas.Str.Parse.{parse_digits, numerals_by_value, tells_all_ascii_digits}
use Rattle.papergrid_script.specs.Grammar.{number_said}
use Rattle.papergrid_script.proofs.number.number.Goals as goal

read : {E : Type 0} (bs : List ℕ) (r : Result ℕ E) → all_ascii_digits bs ≡ true
    → OkIff r ((0 < length bs) × (digits_value 10 bs < 2 ^ 64)) (digits_value 10 bs) → result_ok r ≡ number_said bs
unfolding number_said
read bs (Ok x) digits told = grind (arith, nat_tests)
read bs (Err e) digits told = grind (arith, nat_tests)

same : (bs : List ℕ) → list_all is_ascii_digit bs ≡ all_ascii_digits bs
same [] = refl
same (b ∷ bs) = ap (λ rest. is_ascii_digit b && rest) (same bs)

none : (bs : List ℕ) → list_all is_ascii_digit bs ≡ false → None ≡ number_said bs
unfolding number_said
none bs h = let e : all_ascii_digits bs ≡ false = sym (same bs) ∙ h in rw e refl

pub returns-then-not-all_digits : goal.returns-then-not-all_digits
returns-then-not-all_digits c = none c.args.spelled.now (sym c.all_digits.ensures ∙ c.if-not-all_digits.true)

pub returns : goal.returns
returns c =
    let digits : all_ascii_digits c.args.spelled.now ≡ true = sym (same c.args.spelled.now) ∙ (sym c.all_digits.ensures ∙ c.if-not-all_digits.false) in
    c.ok.ensures.value ∙ read c.args.spelled.now c.parse.result digits
    (parse_digits (numerals_by_value _ tells_all_ascii_digits) 64 c.args.spelled.now c.parse.result c.parse.ensures.value.0 digits)
