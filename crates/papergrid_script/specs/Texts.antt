-- The texts of cells as a script spells them. A text is the list of its bytes.
use Rattle.std.specs.Prelude.{ℕ, List, [], ◌∷◌, Option, Some, None, option_map, ◌==◌, if◌then◌else◌}

-- the byte of a newline
abbrev pub newline : ℕ
newline = 10

-- the byte of a backslash
abbrev pub backslash : ℕ
backslash = 92

-- what an escape means, by the byte after its backslash: n a newline, t a tab, a backslash itself
abbrev pub escape_of : ℕ → Option ℕ
escape_of b = if b == 110 then Some newline else if b == 116 then Some 9 else if b == backslash then Some backslash else None

-- a byte before the rest, where there are both
abbrev pub put_first : Option ℕ → Option (List ℕ) → Option (List ℕ)
put_first None rest = None
put_first (Some b) rest = option_map (λ bs. b ∷ bs) rest

-- the text that is meant, where a backslash begins an escape
unfoldable pub unescaped : List ℕ → Option (List ℕ)
unescaped [] = Some []
unescaped (b ∷ []) = if b == backslash then None else Some (b ∷ [])
unescaped (b ∷ c ∷ bs) =
    if b == backslash then put_first (escape_of c) (unescaped bs) else option_map (λ rest. b ∷ rest) (unescaped (c ∷ bs))
