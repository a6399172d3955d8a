-- What a backslash in a field between tabs stands for, by the character after it.
use Rattle.std.specs.Prelude.{ℕ, if◌then◌else◌, List, [], ◌∷◌}
use Rattle.papergrid_csv.specs.Spelling.{escaped, is_escaped}

-- what a backslash and the character after it stand for, where this begins no pair itself
abbrev pub after_backslash : ℕ → List ℕ
after_backslash c = if is_escaped c then escaped c ∷ [] else 0x5C ∷ c ∷ []
