-- The steps of `unicode_width` at the parts.
use Rattle.std.proofs.Common.{◌≡◌, ◌≢◌, ℕ, ◌⊎◌, ◌+◌, ◌<◌, true, false, not, ◌||◌, [], ◌∷◌, Some, refl, sym, subst, ap, ◌∙◌, arith, IfSome}
use Rattle.std.specs.Int.{is_in_range}
use Rattle.std.proofs.lemmas.Bool.Decides.{nat_tests}
use Rattle.ucd_table.specs.Rows.{in_ranges}
use Rattle.ucd_table.proofs.Facts.{Stepped-everywhere}
use Rattle.ucd_table.proofs.Stepped.{of_ranges, zip_stepped}
use Rattle.ucd_emoji.proofs.BinaryLemmas.{is_emoji_modifier_base_stepped}
use Rattle.ucd_emoji.specs.Binary.{is_emoji_modifier_base, is_emoji_variation_base}
use Rattle.unicode_width.specs.declared.state.After.TheVariants as states
use Rattle.unicode_width.specs.declared.state.State.{State}
use Rattle.unicode_width.specs.Width.{alone, before, plain, added, in_context, joins, past_emoji, past_selectors, step}
use Rattle.unicode_width.proofs.Computing.{unicode_width}
use Rattle.papergrid_text.specs.ForProofs.Parts.{is_pictograph, part_of, add_before}
use Rattle.papergrid_text.specs.ForProofs.Emoji.{IsStep, state_of}
use Rattle.papergrid_text.specs.declared.width.part.Part.{Part}
use Rattle.papergrid_text.specs.declared.width.part.Part.TheVariants as parts
use Rattle.papergrid_text.specs.declared.width.part.After.{After}
use Rattle.papergrid_text.specs.declared.width.part.After.TheVariants as afters
use Rattle.papergrid_text.proofs.PartLemmas.{lies, kind_pictograph, pictograph_in, indicator_in, modifier_in}
use Rattle.papergrid_text.proofs.RangeLemmas.{Indicators, Modifiers, Pictographs, own}

-- neither of the two parts that look at what follows by a property of the character
abbrev pub IsPlainly : ℕ → After → Type 0
IsPlainly c afters.Selector = is_emoji_variation_base c ≡ false
IsPlainly c afters.Modifier = is_emoji_modifier_base c ≡ false
IsPlainly c _ = Unit {0}

pub plainly_other : (c : ℕ) (after : After) → after ≢ afters.Selector → after ≢ afters.Modifier → IsPlainly c after
plainly_other c afters.Other s m = tt
plainly_other c afters.Emoji s m = tt
plainly_other c afters.Modifier s m = absurd (m refl)
plainly_other c afters.Selector s m = absurd (s refl)
plainly_other c afters.Joiner s m = tt
plainly_other c afters.Indicator s m = tt
plainly_other c afters.Indicators s m = tt

-- ---- printable ASCII

printable : (c total : ℕ) (after : After) → is_in_range 0x20 0x7E c ≡ true → IsPlainly c after → step false c (total, state_of after) ≡ (total + 1, plain)
unfolding step past_emoji
printable c total afters.Other h is = grind (arith, nat_tests)
printable c total afters.Emoji h is = grind (arith, nat_tests)
printable c total afters.Modifier h is = grind (arith, nat_tests)
printable c total afters.Selector h is = grind (arith, nat_tests)
printable c total afters.Joiner h is = grind (arith, nat_tests)
printable c total afters.Indicator h is = grind (arith, nat_tests)
printable c total afters.Indicators h is = grind (arith, nat_tests)

-- ---- a character that joins nothing

-- above U+00A0, and no selector or joiner
abbrev IsHigh : ℕ → Type 0
IsHigh c = 0x1F000 < c

plain_step : (c total : ℕ) → IsHigh c → step false c (total, plain) ≡ added total (alone false c)
unfolding step past_emoji
plain_step c total h = grind (arith, nat_tests)

selector_step : (c total : ℕ) → IsHigh c → is_emoji_variation_base c ≡ false → step false c (total, record plain { emoji = true }) ≡ added total (alone false c)
unfolding step past_emoji
selector_step c total h is = grind (arith, nat_tests)

emoji_step : (c total : ℕ) → IsHigh c → step false c (total, before states.Emoji) ≡ added total (alone false c)
unfolding step past_emoji in_context past_selectors joins
emoji_step c total h = grind (arith, nat_tests)

modifier_step : (c total : ℕ) → IsHigh c → is_emoji_modifier_base c ≡ false → step false c (total, before states.EmojiModifier) ≡ added total (alone false c)
unfolding step past_emoji in_context past_selectors joins
modifier_step c total h is = grind (arith, nat_tests)

indicator_step : (c total : ℕ) → IsHigh c → is_in_range 0x1F1E6 0x1F1FF c ≡ false → step false c (total, before states.RegionalIndicator) ≡ added total (alone false c)
unfolding step past_emoji in_context past_selectors joins
indicator_step c total h is = grind (arith, nat_tests)

indicators_step : (c total : ℕ) → IsHigh c → is_in_range 0x1F1E6 0x1F1FF c ≡ false → step false c (total, before states.RegionalIndicators) ≡ added total (alone false c)
unfolding step past_emoji in_context past_selectors joins
indicators_step c total h is = grind (arith, nat_tests)

indicator_own : (c : ℕ) → is_in_range 0x1F1E6 0x1F1FF c ≡ true → alone false c ≡ (1, before states.RegionalIndicator)
indicator_own c h = own Indicators c (indicator_in c h)

-- ---- a character that joins what follows

joined_pictograph : (c total : ℕ) → is_pictograph c ≡ true → step false c (total, before states.ZwjEmoji) ≡ (total + 0, before states.Emoji)
unfolding step past_emoji in_context past_selectors joins
joined_pictograph c total h = let k = kind_pictograph c h in grind (arith, nat_tests)

joined_modifier : (c total : ℕ) → is_in_range 0x1F3FB 0x1F3FF c ≡ true → step false c (total, before states.ZwjEmoji) ≡ (total + 0, before states.EmojiModifier)
unfolding step past_emoji in_context past_selectors joins
joined_modifier c total h = grind (arith, nat_tests)

second_indicator : (c total : ℕ) → is_in_range 0x1F1E6 0x1F1FF c ≡ true → step false c (total, before states.RegionalIndicator) ≡ (total + 1, before states.RegionalIndicators)
unfolding step past_emoji in_context past_selectors joins
second_indicator c total h = grind (arith, nat_tests)

later_indicator : (c total : ℕ) → is_in_range 0x1F1E6 0x1F1FF c ≡ true → step false c (total, before states.RegionalIndicators) ≡ (total + 1, before states.RegionalIndicators)
unfolding step past_emoji in_context past_selectors joins
later_indicator c total h = grind (arith, nat_tests)

pub emoji_base : (c total : ℕ) → is_emoji_variation_base c ≡ true → step false c (total, record plain { emoji = true }) ≡ (total + 2, before states.Emoji)
unfolding step
emoji_base c total h = grind (arith, nat_tests)

-- a base of a skin tone is no selector, and no character up to U+00A0
base_lies : (c : ℕ) → (not (is_emoji_modifier_base c) || in_ranges ((0xA1, 0xFDFF) ∷ (0xFE10, 0x10_FFFF) ∷ []) c) ≡ true
unfolding unicode_width
base_lies =
    Stepped-everywhere (λ c. not (is_emoji_modifier_base c) || in_ranges ((0xA1, 0xFDFF) ∷ (0xFE10, 0x10_FFFF) ∷ []) c)
    (zip_stepped (λ base inside. not base || inside) is_emoji_modifier_base (in_ranges ((0xA1, 0xFDFF) ∷ (0xFE10, 0x10_FFFF) ∷ []))
    is_emoji_modifier_base_stepped (of_ranges ((0xA1, 0xFDFF) ∷ (0xFE10, 0x10_FFFF) ∷ []) refl)) refl

base_is_high : (c : ℕ) → is_emoji_modifier_base c ≡ true → (0xA0 < c) × ((c < 0xFE00) ⊎ (0xFE0F < c))
unfolding in_ranges
base_is_high c h = let lies = base_lies c in grind (arith, nat_tests)

pub modifier_base : (c total : ℕ) → is_emoji_modifier_base c ≡ true → step false c (total, before states.EmojiModifier) ≡ (total + 0, before states.Emoji)
unfolding step past_emoji in_context past_selectors joins
modifier_base c total h = let high = base_is_high c h in grind (arith, nat_tests)

-- ---- U+200D, U+FE0F and U+20E3

same_total : (total : ℕ) (s : State) → ◌≡◌ {A = ℕ × State} (total, s) (total + 0, s)
same_total total s = let e : total ≡ total + 0 = omega arith in ap (λ n. (n, s)) e

joiner : (after : After) → IfSome (add_before parts.Joiner after) (IsStep 0x200D after)
unfolding unicode_width
joiner afters.Emoji = λ total. same_total total _
joiner afters.Modifier = λ total. same_total total _
joiner afters.Indicators = λ total. same_total total _
joiner _ = λ total. refl

selector : (after : After) → IfSome (add_before parts.Selector after) (IsStep 0xFE0F after)
unfolding unicode_width
selector afters.Other = λ total. refl
selector afters.Selector = λ total. refl
selector afters.Joiner = tt
selector _ = λ total. same_total total _

keycap : (after : After) → IfSome (add_before parts.Keycap after) (IsStep 0x20E3 after)
unfolding unicode_width
keycap afters.Joiner = tt
keycap _ = λ total. refl

-- ---- each part before all that may follow

by_own : (c total : ℕ) (state : State) (own : ℕ × State) → step false c (total, state) ≡ added total (alone false c) → alone false c ≡ own → step false c (total, state) ≡ added total own
by_own c total state own e is = e ∙ ap (added total) is

-- what a pictograph or a skin tone adds, which joins what follows a joiner
abbrev emoji_before : After → After → ℕ × After
emoji_before begins afters.Joiner = (0, begins)
emoji_before begins _ = (2, begins)

-- the steps of both
emoji : (c : ℕ) (begins after : After) → IsHigh c → is_in_range 0x1F1E6 0x1F1FF c ≡ false → IsPlainly c after → alone false c ≡ (2, state_of begins) → ((total : ℕ) → step false c (total, before states.ZwjEmoji) ≡ (total + 0, state_of begins)) → IsStep c after (emoji_before begins after)
emoji c begins afters.Other high apart is own joined = λ total. by_own c total _ _ (plain_step c total high) own
emoji c begins afters.Emoji high apart is own joined = λ total. by_own c total _ _ (emoji_step c total high) own
emoji c begins afters.Modifier high apart is own joined = λ total. by_own c total _ _ (modifier_step c total high is) own
emoji c begins afters.Selector high apart is own joined = λ total. by_own c total _ _ (selector_step c total high is) own
emoji c begins afters.Joiner high apart is own joined = joined
emoji c begins afters.Indicator high apart is own joined = λ total. by_own c total _ _ (indicator_step c total high apart) own
emoji c begins afters.Indicators high apart is own joined = λ total. by_own c total _ _ (indicators_step c total high apart) own

pictograph : (c : ℕ) (after : After) → is_pictograph c ≡ true → IsPlainly c after → IfSome (add_before parts.Pictograph after) (IsStep c after)
pictograph c after h is =
    let added : add_before parts.Pictograph after ≡ Some (emoji_before afters.Emoji after) = grind arith in
    rw added (emoji c afters.Emoji after (grind (arith, nat_tests)) (grind (arith, nat_tests)) is (own Pictographs c (pictograph_in c h)) (λ total. joined_pictograph c total h))

modifier : (c : ℕ) (after : After) → is_in_range 0x1F3FB 0x1F3FF c ≡ true → IsPlainly c after → IfSome (add_before parts.Modifier after) (IsStep c after)
modifier c after h is =
    let added : add_before parts.Modifier after ≡ Some (emoji_before afters.Modifier after) = grind arith in
    rw added (emoji c afters.Modifier after (grind (arith, nat_tests)) (grind (arith, nat_tests)) is (own Modifiers c (modifier_in c h)) (λ total. joined_modifier c total h))

indicator : (c : ℕ) (after : After) → is_in_range 0x1F1E6 0x1F1FF c ≡ true → IsPlainly c after → IfSome (add_before parts.Indicator after) (IsStep c after)
indicator c after h is = all after (grind (arith, nat_tests)) is
  where
    all : (after : After) → IsHigh c → IsPlainly c after → IfSome (add_before parts.Indicator after) (IsStep c after)
    all afters.Other high is = λ total. by_own c total _ _ (plain_step c total high) (indicator_own c h)
    all afters.Emoji high is = λ total. by_own c total _ _ (emoji_step c total high) (indicator_own c h)
    all afters.Modifier high is = λ total. by_own c total _ _ (modifier_step c total high is) (indicator_own c h)
    all afters.Selector high is = λ total. by_own c total _ _ (selector_step c total high is) (indicator_own c h)
    all afters.Joiner high is = tt
    all afters.Indicator high is = λ total. second_indicator c total h
    all afters.Indicators high is = λ total. later_indicator c total h

ascii : (c : ℕ) (after : After) → is_in_range 0x20 0x7E c ≡ true → IsPlainly c after → IfSome (add_before parts.Printable after) (IsStep c after)
ascii c afters.Other h is = λ total. printable c total afters.Other h is
ascii c afters.Emoji h is = λ total. printable c total afters.Emoji h is
ascii c afters.Modifier h is = λ total. printable c total afters.Modifier h is
ascii c afters.Selector h is = λ total. printable c total afters.Selector h is
ascii c afters.Joiner h is = λ total. printable c total afters.Joiner h is
ascii c afters.Indicator h is = λ total. printable c total afters.Indicator h is
ascii c afters.Indicators h is = λ total. printable c total afters.Indicators h is

pub adds : (part : Part) (c : ℕ) (after : After) → part_of c ≡ Some part → IsPlainly c after → IfSome (add_before part after) (IsStep c after)
adds parts.Printable c after e is = ascii c after (lies parts.Printable c e) is
adds parts.Pictograph c after e is = pictograph c after (lies parts.Pictograph c e) is
adds parts.Indicator c after e is = indicator c after (lies parts.Indicator c e) is
adds parts.Modifier c after e is = modifier c after (lies parts.Modifier c e) is
adds parts.Joiner c after e is = subst (λ x. IfSome (add_before parts.Joiner after) (IsStep x after)) (sym (lies parts.Joiner c e)) (joiner after)
adds parts.Selector c after e is = subst (λ x. IfSome (add_before parts.Selector after) (IsStep x after)) (sym (lies parts.Selector c e)) (selector after)
adds parts.Keycap c after e is = subst (λ x. IfSome (add_before parts.Keycap after) (IsStep x after)) (sym (lies parts.Keycap c e)) (keycap after)
