-- The widths of texts that are joined with separators between them.
use Rattle.std.proofs.Common.{◌≡◌, ◌∙◌, ap, sym, refl, ℕ, zero, suc, ◌+◌, ◌<◌, false, List, [], ◌∷◌, ◌++◌, append-nil, append_assoc, arith, chars, replicate}
use Rattle.std.specs.Prelude.{IsUtf8}
use Rattle.std.specs.Str.{drop_trailing_whitespace, encode_utf8_all, trim, trim_end, trim_start}
use Rattle.unicode_width.specs.Width.{str_width}
use Rattle.papergrid_text.specs.Separators.{IsSeparator}
use Rattle.papergrid_text.specs.Text.{width_of}
use Rattle.papergrid_text.proofs.ReadBack.{chars-back, read-one}
use Rattle.papergrid_text.proofs.Widths.{str_width-nil}

-- ---- texts that are spelled by characters

pub record IsSpelled (text : List ℕ) : Type 0 where
  pub characters : List ℕ
  pub spelled : text ≡ encode_utf8_all characters

pub utf8-spelled : (text : List ℕ) → IsUtf8 text → IsSpelled text
utf8-spelled text is = record { characters = is.0; spelled = sym is.1.1 }

pub trimmed-spelled : (text : List ℕ) → IsSpelled (trim text)
unfolding trim_end
trimmed-spelled text = record { characters = drop_trailing_whitespace (chars (trim_start text)); spelled = refl }

chars-front : (cs rest : List ℕ) → chars (encode_utf8_all cs ++ rest) ≡ cs ++ chars rest
chars-front [] rest = refl
chars-front (c ∷ cs) rest = grind (arith, append_assoc, read-one, chars-front cs rest)

-- ---- a separator takes its column

width-first : (c : ℕ) (cs : List ℕ) → IsSeparator c → str_width false (c ∷ cs) ≡ 1 + str_width false cs
width-first c cs separates = let own = separates [] cs in let none = str_width-nil in omega arith

width-run : (c n : ℕ) (cs : List ℕ) → IsSeparator c → str_width false (replicate n c ++ cs) ≡ n + str_width false cs
width-run c zero cs separates = omega arith
width-run c (suc n) cs separates = grind (arith, width-first, width-run c n cs separates)

-- so do many of one, whatever comes after them
pub width-separators : (c n : ℕ) (rest : List ℕ) → IsSeparator c → width_of (encode_utf8_all (replicate n c) ++ rest) ≡ n + width_of rest
width-separators c n rest separates = ap (str_width false) (chars-front (replicate n c) rest) ∙ width-run c n (chars rest) separates

-- ---- a text adds its width where a separator or nothing comes after it

pub width-before_separator : (text : List ℕ) (c n : ℕ) (rest : List ℕ) → IsSpelled text → IsSeparator c → 0 < n →
    width_of (text ++ (encode_utf8_all (replicate n c) ++ rest)) ≡ width_of text + (n + width_of rest)
width-before_separator text c n rest is separates some = grind (arith, chars-back, chars-front, width-run)

pub width-last : (text : List ℕ) → width_of (text ++ []) ≡ width_of text + 0
width-last text = let e = ap width_of (append-nil text) in omega arith
