-- Which texts are numbers, by their bytes, and which columns are columns of numbers.
use Rattle.std.specs.Prelude.{ℕ, nat_le, ◌==◌, ◌&&◌, ◌||◌, Bool, true, false, if◌then◌else◌, List, [], ◌∷◌, drop, get_or}
use Rattle.std.specs.Char.{is_ascii_digit}
use Rattle.std.specs.List.{list_all, list_any, prefix_len}

-- whether a text has no bytes
abbrev pub is_empty : List ℕ → Bool
is_empty [] = true
is_empty (c ∷ cs) = false

-- what a text has behind a sign at its front, if there is one
abbrev pub after_sign : List ℕ → List ℕ
after_sign [] = []
after_sign (c ∷ cs) = if c == 0x2B || c == 0x2D then cs else c ∷ cs

-- what it has behind the digits at its front
abbrev pub after_digits : List ℕ → List ℕ
after_digits text = drop (prefix_len is_ascii_digit text) text

-- what it has behind groups of a comma and three digits
abbrev pub after_groups : List ℕ → List ℕ
after_groups (comma ∷ a ∷ b ∷ c ∷ cs) =
    if comma == 0x2C && (is_ascii_digit a && (is_ascii_digit b && is_ascii_digit c)) then after_groups cs
    else comma ∷ a ∷ b ∷ c ∷ cs
after_groups text = text

-- what it has behind a whole number, if there is one: digits, with such groups where they are one to three
abbrev pub after_whole : List ℕ → List ℕ
after_whole text =
    let count = prefix_len is_ascii_digit text in
    if nat_le 1 count && nat_le count 3 then after_groups (after_digits text) else after_digits text

-- what it has behind a point
abbrev pub after_point : List ℕ → List ℕ
after_point [] = []
after_point (c ∷ cs) = if c == 0x2E then cs else c ∷ cs

-- what it has behind a point and its digits, if there is a point
abbrev pub after_fraction : List ℕ → List ℕ
after_fraction [] = []
after_fraction (c ∷ cs) = if c == 0x2E then after_digits cs else c ∷ cs

-- whether its first byte is a digit
abbrev pub begins_with_digit : List ℕ → Bool
begins_with_digit [] = false
begins_with_digit (c ∷ cs) = is_ascii_digit c

-- what it has behind an exponent, if there is one: an e, a sign or none, and digits
abbrev pub after_exponent : List ℕ → List ℕ
after_exponent [] = []
after_exponent (c ∷ cs) =
    if (c == 0x65 || c == 0x45) && begins_with_digit (after_sign cs) then after_digits (after_sign cs) else c ∷ cs

-- whether a text is a number. It is one where behind a sign, if there is one, a digit comes, or a point and a digit.
-- Nothing may come behind the whole number, the fraction and the exponent
unfoldable pub is_number : List ℕ → Bool
is_number text =
    let unsigned = after_sign text in
    begins_with_digit (after_point unsigned)
    && is_empty (after_exponent (after_fraction (after_whole unsigned)))

-- the field of a row in a column, an empty one where it has none
abbrev pub field_in : ℕ → List (List ℕ) → List ℕ
field_in column row = get_or row column []

-- whether a column of these rows is of numbers: each field is a number or empty, and one at least is a number
abbrev pub is_numeric : List (List (List ℕ)) → ℕ → Bool
is_numeric rows column =
    list_all (λ row. is_empty (field_in column row) || is_number (field_in column row)) rows
    && list_any (λ row. is_number (field_in column row)) rows
