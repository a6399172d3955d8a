-- Where escapes stand in a text, and what follows them.
use Rattle.std.specs.Prelude.{◌≡◌, ℕ, List, [], ◌∷◌, length, min, Option, None, option_map, ◌==◌}
use Rattle.std.specs.List.{position_or_len}
use Rattle.papergrid_script.specs.Texts.{backslash, escape_of}

-- what the escape means that stands after a backslash, and what is left behind it
abbrev pub escape_at : List ℕ → Option (ℕ × List ℕ)
escape_at [] = None
escape_at (b ∷ bs) = option_map (λ meant. (meant, bs)) (escape_of b)

-- the first backslash stands there, or there is none before the end
abbrev pub IsFirstEscape : List ℕ → ℕ → Type 0
IsFirstEscape bytes at = position_or_len (λ b. b == backslash) bytes ≡ min at (length bytes)
