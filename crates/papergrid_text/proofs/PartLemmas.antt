-- What the parts are by `unicode_width`.
use Rattle.std.proofs.Common.{◌≡◌, ℕ, true, List, [], ◌∷◌, Some, refl, arith, rules}
use Rattle.std.specs.Int.{is_in_range}
use Rattle.std.proofs.lemmas.Bool.Decides.{nat_tests}
use Rattle.ucd_table.specs.Rows.{Range, in_ranges}
use Rattle.unicode_width.specs.declared.kind.Kind.{Kind}
use Rattle.unicode_width.specs.declared.kind.Kind.TheVariants as kinds
use Rattle.unicode_width.specs.Kind.{kind}
use Rattle.unicode_width.proofs.Computing.{unicode_width}
use Rattle.ucd_emoji.proofs.BinaryLemmas.{is_emoji_modifier_base_stepped, is_emoji_variation_base_stepped}
use Rattle.ucd_emoji.specs.Binary.{is_emoji_modifier_base, is_emoji_variation_base}
use Rattle.papergrid_text.proofs.RangeLemmas.{Indicators, Modifiers, Pictographs, all_pass, has_kind, kind_in, passes, ranges_of}
use Rattle.papergrid_text.specs.ForProofs.Parts.{is_common_selected, is_common_toned, is_pictograph, part_of}
use Rattle.papergrid_text.specs.declared.width.part.Part.{Part}
use Rattle.papergrid_text.specs.declared.width.part.Part.TheVariants as parts

-- ---- where a part lies

abbrev pub Lies : Part → ℕ → Type 0
Lies parts.Printable c = is_in_range 0x20 0x7E c ≡ true
Lies parts.Pictograph c = is_pictograph c ≡ true
Lies parts.Indicator c = is_in_range 0x1F1E6 0x1F1FF c ≡ true
Lies parts.Modifier c = is_in_range 0x1F3FB 0x1F3FF c ≡ true
Lies parts.Joiner c = c ≡ 0x200D
Lies parts.Selector c = c ≡ 0xFE0F
Lies parts.Keycap c = c ≡ 0x20E3

pub lies : (part : Part) (c : ℕ) → part_of c ≡ Some part → Lies part c
lies parts.Printable c h = grind (arith, nat_tests)
lies parts.Pictograph c h = grind (arith, nat_tests)
lies parts.Indicator c h = grind (arith, nat_tests)
lies parts.Modifier c h = grind (arith, nat_tests)
lies parts.Joiner c h = grind (arith, nat_tests)
lies parts.Selector c h = grind (arith, nat_tests)
lies parts.Keycap c h = grind (arith, nat_tests)

-- ---- what a part is by itself

-- the parts that are told by ranges lie in those
pub pictograph_in : (c : ℕ) → is_pictograph c ≡ true → in_ranges (ranges_of Pictographs) c ≡ true
unfolding in_ranges
pictograph_in c h = grind (arith, nat_tests)

-- their kind
pub kind_pictograph : (c : ℕ) → is_pictograph c ≡ true → kind c ≡ kinds.Emoji
kind_pictograph c h = search (rules, emoji_from, kind_in, Pictographs, pictograph_in, has_kind)
  where
    emoji_from : (k : Kind) → has_kind Pictographs k ≡ true → k ≡ kinds.Emoji
    emoji_from k h = grind arith

pub indicator_in : (c : ℕ) → is_in_range 0x1F1E6 0x1F1FF c ≡ true → in_ranges (ranges_of Indicators) c ≡ true
unfolding in_ranges
indicator_in c h = grind (arith, nat_tests)

pub modifier_in : (c : ℕ) → is_in_range 0x1F3FB 0x1F3FF c ≡ true → in_ranges (ranges_of Modifiers) c ≡ true
unfolding in_ranges
modifier_in c h = grind (arith, nat_tests)

-- ---- bases that are told by ranges

abbrev selected : List Range
selected = (0x30, 0x39) ∷ (0x2600, 0x2604) ∷ (0x2763, 0x2764) ∷ []

abbrev toned : List Range
toned = (0x1F446, 0x1F450) ∷ (0x1F466, 0x1F478) ∷ []

pub selected_base : (c : ℕ) → is_common_selected c ≡ true → is_emoji_variation_base c ≡ true
unfolding unicode_width in_ranges
selected_base c h = passes selected is_emoji_variation_base c (all_pass selected is_emoji_variation_base is_emoji_variation_base_stepped refl refl) (grind (arith, nat_tests))

pub toned_base : (c : ℕ) → is_common_toned c ≡ true → is_emoji_modifier_base c ≡ true
unfolding unicode_width in_ranges
toned_base c h = passes toned is_emoji_modifier_base c (all_pass toned is_emoji_modifier_base is_emoji_modifier_base_stepped refl refl) (grind (arith, nat_tests))
