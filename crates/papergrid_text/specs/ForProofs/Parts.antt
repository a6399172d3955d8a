-- The characters that texts of emoji are made of, and what each adds to the width of what stands after it.
use Rattle.std.specs.Prelude.{ℕ, Bool, ◌&&◌, ◌||◌, ◌==◌, Option, Some, None, if◌then◌else◌}
use Rattle.std.specs.Int.{is_in_range}
use Rattle.papergrid_text.specs.declared.width.part.Part.{Part}
use Rattle.papergrid_text.specs.declared.width.part.Part.TheVariants as parts
use Rattle.papergrid_text.specs.declared.width.part.After.{After}
use Rattle.papergrid_text.specs.declared.width.part.After.TheVariants as afters

-- the first two bytes of a character from U+2600 to U+27BF, U+FE00 to U+FE3F or U+1F000 to U+1FFFF
abbrev pub is_emoji_lead : ℕ → ℕ → Bool
is_emoji_lead a b = (a == 0xF0 && b == 0x9F) || (a == 0xEF && b == 0xB8) || (a == 0xE2 && is_in_range 0x98 0x9E b)

-- the long ranges of pictographs
abbrev pub is_pictograph : ℕ → Bool
is_pictograph c =
    is_in_range 0x1F337 0x1F37C c || is_in_range 0x1F400 0x1F43E c || is_in_range 0x1F442 0x1F4FC c || is_in_range 0x1F5FB 0x1F64F c
    || is_in_range 0x1F680 0x1F6C5 c || is_in_range 0x1F90C 0x1F93A c || is_in_range 0x1F947 0x1F9FF c

-- the part of a text of emoji that a character is
abbrev pub part_of : ℕ → Option Part
part_of c =
    if is_in_range 0x20 0x7E c then Some parts.Printable
    else if is_pictograph c then Some parts.Pictograph
    else if is_in_range 0x1F1E6 0x1F1FF c then Some parts.Indicator
    else if is_in_range 0x1F3FB 0x1F3FF c then Some parts.Modifier
    else if c == 0x200D then Some parts.Joiner
    else if c == 0xFE0F then Some parts.Selector
    else if c == 0x20E3 then Some parts.Keycap
    else None

-- the width of a part that joins nothing, and what it is for the character before it
abbrev pub add_apart : Part → ℕ × After
add_apart parts.Printable = (1, afters.Other)
add_apart parts.Pictograph = (2, afters.Emoji)
add_apart parts.Indicator = (1, afters.Indicator)
add_apart parts.Modifier = (2, afters.Modifier)
add_apart parts.Joiner = (0, afters.Other)
add_apart parts.Selector = (0, afters.Selector)
add_apart parts.Keycap = (0, afters.Other)

-- the same of a part that may join what stands after it; none where that is left to `unicode_width`
abbrev pub add_before : Part → After → Option (ℕ × After)
add_before parts.Pictograph afters.Joiner = Some (0, afters.Emoji)
add_before parts.Modifier afters.Joiner = Some (0, afters.Modifier)
add_before parts.Indicator afters.Joiner = None
add_before parts.Selector afters.Joiner = None
add_before parts.Keycap afters.Joiner = None
add_before parts.Joiner afters.Emoji = Some (0, afters.Joiner)
add_before parts.Joiner afters.Modifier = Some (0, afters.Joiner)
add_before parts.Joiner afters.Indicators = Some (0, afters.Joiner)
add_before parts.Indicator afters.Indicator = Some (1, afters.Indicators)
add_before parts.Indicator afters.Indicators = Some (1, afters.Indicators)
add_before part after = Some (add_apart part)

-- some bases of U+FE0F, and some of skin tones
abbrev pub is_common_selected : ℕ → Bool
is_common_selected c = is_in_range 0x30 0x39 c || is_in_range 0x2600 0x2604 c || is_in_range 0x2763 0x2764 c

-- some bases of skin tones
abbrev pub is_common_toned : ℕ → Bool
is_common_toned c = is_in_range 0x1F446 0x1F450 c || is_in_range 0x1F466 0x1F478 c
