-- Characters at which a text can be cut, so that the widths of its parts add up.
use Rattle.std.specs.Prelude.{◌≡◌, ℕ, ◌+◌, ◌==◌, ◌&&◌, ◌||◌, not, Bool, false, List, ◌∷◌, ◌++◌}
use Rattle.std.specs.Int.{is_in_range}
use Rattle.unicode_width.specs.Width.{str_width}

-- whatever stands before the character and after it, the widths of both add up, and it takes one column
abbrev pub IsSeparator : ℕ → Type 0
IsSeparator c =
    (front back : List ℕ) →
    str_width false (front ++ c ∷ back) ≡ str_width false front + 1 + str_width false back

-- `#`, `*` and the digits, which may begin a keycap
abbrev pub begins_keycap : ℕ → Bool
begins_keycap c = (c == 0x23) || (c == 0x2A) || is_in_range 0x30 0x39 c

-- the blank, printable ASCII that begins no keycap, and the lines of boxes
abbrev pub is_separator : ℕ → Bool
is_separator c =
    (is_in_range 0x20 0x7E c && not (begins_keycap c)) || is_in_range 0x2500 0x257F c
