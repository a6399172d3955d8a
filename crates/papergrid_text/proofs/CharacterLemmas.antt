-- A text of one character, and of more.
use Rattle.std.proofs.Common.{◌≡◌, ◌++◌, ◌∷◌, [], ℕ, List, Some, None, length, sym, ap, ◌∙◌, arith}
use Rattle.std.specs.Prelude.{IsUtf8}
use Rattle.std.specs.Char.{encode_utf8}
use Rattle.std.proofs.lemmas.Str.{chars-nil, chars_past_char, IsUtf8-past_char}
use Rattle.papergrid_text.specs.Text.{character_of, only}

pub one_character : (text rest : List ℕ) (c : ℕ) → IsUtf8 text → text ≡ encode_utf8 c ++ rest → length rest ≡ 0 → Some c ≡ character_of text
unfolding character_of
one_character text [] c utf8 first none = ap only (sym (chars_past_char text [] c utf8 first ∙ ap (λ cs. c ∷ cs) chars-nil))
one_character text (b ∷ rest) c utf8 first none = absurd (omega (arith, none))

pub more_characters : (text rest more : List ℕ) (c next : ℕ) → IsUtf8 text → text ≡ encode_utf8 c ++ rest → rest ≡ encode_utf8 next ++ more → None ≡ character_of text
unfolding character_of
more_characters text rest more c next utf8 first second =
    let behind = chars_past_char rest more next (IsUtf8-past_char text rest c utf8 first) second in
    ap only (sym (chars_past_char text rest c utf8 first ∙ ap (λ cs. c ∷ cs) behind))
