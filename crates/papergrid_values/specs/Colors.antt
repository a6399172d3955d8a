-- Colours as two texts: the one before what is coloured, and the one after it.
use Rattle.std.specs.Prelude.{◌⊎◌, List, [], ◌∷◌, Option, IfSome, ℕ}
use Rattle.std.specs.Prelude.{Bool, nat_eq}
use Rattle.std.specs.declared.cmp.Ordering.{Ordering}
use Rattle.std.specs.Ordering.{nat_cmp, on, then_cmp, eq_of_both}
use Rattle.std.specs.Cmp.Lexicographic.{slice_cmp, pointwise}
use Rattle.papergrid_values.specs.declared.ansi_str.ANSIStr.{ANSIStr}

-- the prefix and the suffix of a borrowed colour
abbrev pub texts_of : ANSIStr → List ℕ × List ℕ
texts_of color = (color.prefix.now, color.suffix.now)

-- whether the prefixes are the same bytes, and the suffixes too
abbrev pub same_texts : List ℕ × List ℕ → List ℕ × List ℕ → Bool
same_texts = eq_of_both (on (λ color. color.0) (pointwise nat_eq)) (on (λ color. color.1) (pointwise nat_eq))

-- the order of the prefixes, and at a tie that of the suffixes, each by bytes
abbrev pub texts_cmp : List ℕ × List ℕ → List ℕ × List ℕ → Ordering
texts_cmp = then_cmp (on (λ color. color.0) (slice_cmp nat_cmp)) (on (λ color. color.1) (slice_cmp nat_cmp))

-- the text that ends all colours of a terminal: ESC, and then `[0m`
abbrev pub reset_text : List ℕ
reset_text = 27 ∷ 91 ∷ 48 ∷ 109 ∷ []

-- where a text is told, a writer took it, or took the text that ends all colours
abbrev pub WritesOrResets : {W : Type 0} → (W → List ℕ → W → Type 0) → W → Option (List ℕ) → W → Type 0
WritesOrResets takes old told new =
    IfSome told (λ text. takes old text new ⊎ takes old reset_text new)
