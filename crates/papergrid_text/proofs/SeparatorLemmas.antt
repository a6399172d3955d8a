-- Separators: a step of `unicode_width` at one of them tells nothing to what stands before it.
use Rattle.std.proofs.Common.{◌≡◌, ◌∙◌, ap, sym, refl, ℕ, ◌+◌, ◌<◌, ◌≤◌, ◌&&◌, ◌||◌, Bool, true, false, not, is_some, ◌∷◌, Option, Some, None, arith, rules}
use Rattle.std.specs.Int.{is_in_range}
use Rattle.std.specs.List.{list_all, range_with_len}
use Rattle.std.proofs.lemmas.Bool.{and_parts, not-true, or_cases}
use Rattle.std.proofs.lemmas.Bool.Decides.{nat_tests}
use Rattle.unicode_width.specs.Kind.{is_ligature_transparent, is_text_presentation_base, kind}
use Rattle.unicode_width.specs.declared.state.After.{After}
use Rattle.unicode_width.specs.declared.state.After.TheVariants.{Nothing, LineFeed, EmojiModifier, RegionalIndicator, RegionalIndicators, Emoji, ZwjEmoji, KeycapZwjEmoji, IndicatorZwj, EvenIndicatorsZwj, OddIndicatorsZwj, TagEnd, TagDigit1, TagDigit2, TagDigit3, TagLetter1, TagLetter2, TagLetter3, TagLetter4, TagLetter5, TagLetter6, KiratE, KiratAi, Alef, Solidus, SolidusAlef, Lamed, ZwjLamed, Ya, ZwjYa, VowelZwjYa, Tifinagh, ZwjTifinagh, JoinerTifinagh, LisuTone, OrkhonI, ZwjOrkhonI, KhmerLetter}
use Rattle.unicode_width.specs.declared.state.State.{State}
use Rattle.unicode_width.specs.Width.{Reading, alone, before_alef, before_joiner, in_context, is_emoji_variation_base, is_lam, joins, past_emoji, past_selectors, plain, read_before, step, str_width}
use Rattle.unicode_width.proofs.Computing.{unicode_width}
use Rattle.papergrid_text.proofs.RangeLemmas.{Ones, has_kind, line_kind, own_alone}
use Rattle.papergrid_text.specs.Separators.{IsSeparator, begins_keycap, is_separator}
use Rattle.papergrid_text.proofs.TrimLemmas.{of_range, read-shifted}
use Rattle.papergrid_text.proofs.RunLemmas.{read_append}

-- ---- printable ASCII

-- what begins no keycap is no emoji under a selector
abbrev is_keycap_or_plain : ℕ → Bool
is_keycap_or_plain c = begins_keycap c || not (is_emoji_variation_base c)

ascii_plain : list_all is_keycap_or_plain (range_with_len 0x20 0x5F) ≡ true
unfolding unicode_width
ascii_plain = refl

ascii_step : (c total : ℕ) (s : State) → is_in_range 0x20 0x7E c ≡ true → is_emoji_variation_base c ≡ false → step false c (total, s) ≡ (total + 1, plain)
unfolding step past_emoji
ascii_step c total s low base = grind (arith, nat_tests)

ascii_separates : (c total : ℕ) (s : State) → is_in_range 0x20 0x7E c ≡ true → begins_keycap c ≡ false → step false c (total, s) ≡ (total + 1, plain)
ascii_separates c total s low keyless =
    let known : is_keycap_or_plain c ≡ true = of_range is_keycap_or_plain 0x20 0x5F c ascii_plain (grind (arith, nat_tests)) (grind (arith, nat_tests)) in
    let other = sym (ap (λ b. b || not (is_emoji_variation_base c)) keyless) ∙ known in
    ascii_step c total s low (not-true (is_emoji_variation_base c) other)

-- ---- the lines of boxes

abbrev are_lines : (ℕ → Bool) → Bool
are_lines test = list_all test (range_with_len 0x2500 0x80)

-- no emoji, no mark, no letter
abbrev is_line_alone : ℕ → Bool
is_line_alone c =
    not (is_emoji_variation_base c) && (not (is_text_presentation_base c) && (not (is_ligature_transparent c) && not (is_lam c)))

lines_alone : are_lines is_line_alone ≡ true
unfolding unicode_width is_text_presentation_base
lines_alone = refl

-- what is computed of each of them: that none joins what follows, but for what their kind tells
joins_by_number : After → ℕ → Bool
joins_by_number Alef c = false
joins_by_number ZwjEmoji c = false
joins_by_number after c = is_some (joins false after c)

lines_join_none : (after : After) → are_lines (λ c. not (joins_by_number after c)) ≡ true
unfolding unicode_width joins_by_number
lines_join_none Nothing = refl
lines_join_none LineFeed = refl
lines_join_none EmojiModifier = refl
lines_join_none RegionalIndicator = refl
lines_join_none RegionalIndicators = refl
lines_join_none Emoji = refl
lines_join_none ZwjEmoji = refl
lines_join_none KeycapZwjEmoji = refl
lines_join_none IndicatorZwj = refl
lines_join_none EvenIndicatorsZwj = refl
lines_join_none OddIndicatorsZwj = refl
lines_join_none TagEnd = refl
lines_join_none TagDigit1 = refl
lines_join_none TagDigit2 = refl
lines_join_none TagDigit3 = refl
lines_join_none TagLetter1 = refl
lines_join_none TagLetter2 = refl
lines_join_none TagLetter3 = refl
lines_join_none TagLetter4 = refl
lines_join_none TagLetter5 = refl
lines_join_none TagLetter6 = refl
lines_join_none KiratE = refl
lines_join_none KiratAi = refl
lines_join_none Alef = refl
lines_join_none Solidus = refl
lines_join_none SolidusAlef = refl
lines_join_none Lamed = refl
lines_join_none ZwjLamed = refl
lines_join_none Ya = refl
lines_join_none ZwjYa = refl
lines_join_none VowelZwjYa = refl
lines_join_none Tifinagh = refl
lines_join_none ZwjTifinagh = refl
lines_join_none JoinerTifinagh = refl
lines_join_none LisuTone = refl
lines_join_none OrkhonI = refl
lines_join_none ZwjOrkhonI = refl
lines_join_none KhmerLetter = refl

record IsLine (c : ℕ) : Type 0 where
  from : 0x2500 ≤ c
  to : c < 0x2580
  base : is_emoji_variation_base c ≡ false
  presented : is_text_presentation_base c ≡ false
  seen : is_ligature_transparent c ≡ false
  letter : is_lam c ≡ false
  kind_one : has_kind Ones (kind c) ≡ true
  own : alone false c ≡ (1, plain)

-- what a test tells of a line
of_lines : (test : ℕ → Bool) (c : ℕ) → are_lines test ≡ true → is_in_range 0x2500 0x257F c ≡ true → test c ≡ true
of_lines test c all inside = of_range test 0x2500 0x80 c all (grind (arith, nat_tests)) (grind (arith, nat_tests))

is_line : (c : ℕ) → is_in_range 0x2500 0x257F c ≡ true → IsLine c
is_line c inside =
    let known = and_parts _ _ (of_lines is_line_alone c lines_alone inside) in
    let more = and_parts _ _ known.1 in
    let last = and_parts _ _ more.1 in
    let from : 0x2500 ≤ c = grind (arith, nat_tests) in
    let to : c < 0x2580 = grind (arith, nat_tests) in
    let one = line_kind c from to in
    record {
      from = from;
      to = to;
      base = not-true (is_emoji_variation_base c) known.0;
      presented = not-true (is_text_presentation_base c) more.0;
      seen = not-true (is_ligature_transparent c) last.0;
      letter = not-true (is_lam c) last.1;
      kind_one = one;
      own = own_alone Ones c one;
    }

none_from : {A : Type 0} (found : Option A) → not (is_some found) ≡ true → found ≡ None
none_from None none = refl
none_from (Some a) none = cc

line_before_joiner : (c : ℕ) → IsLine c → before_joiner c ≡ None
line_before_joiner c line = grind (arith, nat_tests)

line_before_alef : (c : ℕ) → IsLine c → before_alef false c ≡ None
unfolding before_alef
line_before_alef c line = let letter = line.letter in let own = line.own in grind arith

line_joins_none : (c : ℕ) (after : After) → is_in_range 0x2500 0x257F c ≡ true → IsLine c → joins false after c ≡ None
unfolding joins joins_by_number
line_joins_none c Alef inside line = line_before_alef c line
line_joins_none c ZwjEmoji inside line = line_before_joiner c line
line_joins_none c after inside line = none_from (joins false after c) (of_lines (λ c. not (joins_by_number after c)) c (lines_join_none after) inside)

line_past_selectors : (c total : ℕ) (after : After) → IsLine c → joins false after c ≡ None → past_selectors false c total after ≡ (total + 1, plain)
unfolding past_selectors
line_past_selectors c total after line none = let seen = line.seen in let own = line.own in let from = line.from in let to = line.to in grind (arith, nat_tests)

line_in_context : (c total : ℕ) (s : State) → IsLine c → past_selectors false c total s.after ≡ (total + 1, plain) → in_context false c total s ≡ (total + 1, plain)
unfolding in_context
line_in_context c total s line past = let presented = line.presented in let from = line.from in let to = line.to in grind (arith, nat_tests)

line_past_emoji : (c total : ℕ) (s : State) → IsLine c → in_context false c total s ≡ (total + 1, plain) → past_emoji false c total s ≡ (total + 1, plain)
unfolding past_emoji
line_past_emoji c total s line past = let own = line.own in let from = line.from in let to = line.to in grind (arith, nat_tests)

line_separates : (c total : ℕ) (s : State) → is_in_range 0x2500 0x257F c ≡ true → step false c (total, s) ≡ (total + 1, plain)
unfolding step
line_separates c total s inside = grind (arith, is_line, line_past_emoji, line_in_context, line_past_selectors, line_joins_none)

-- ---- both

separator_step : (c total : ℕ) (s : State) → is_separator c ≡ true → step false c (total, s) ≡ (total + 1, plain)
separator_step c total s is = search (rules, or_cases, and_parts, ascii_separates, not-true, line_separates)

pub separates : (c : ℕ) → is_separator c ≡ true → IsSeparator c
unfolding str_width
separates c is front back =
    let r = read_before false back (0, plain) in
    ap (λ (r : Reading). r.0) (read_append front (c ∷ back) (0, plain))
    ∙ ap (λ (r : Reading). (read_before false front r).0) (separator_step c r.0 r.1 is)
    ∙ read-shifted front (r.0 + 1)
    ∙ omega arith
