-- Characters that stand apart from what follows them.
use Rattle.std.proofs.Common.{◌≡◌, ◌∙◌, inl, inr, ℕ, ◌+◌, ◌<◌, List, [], ◌∷◌, ◌++◌, None, true, false, not, ap, arith, refl}
use Rattle.std.specs.Prelude.{◌||◌}
use Rattle.std.proofs.lemmas.Bool.{not-true, or_cases}
use Rattle.std.proofs.lemmas.Bool.Decides.{nat_tests}
use Rattle.ucd_bidi.specs.JoiningGroup.{joining_group, joining_group_eq}
use Rattle.ucd_bidi.specs.declared.JoiningGroup.TheVariants.{Lam}
use Rattle.ucd_bidi.proofs.JoiningGroupLemmas.{joining_group_stepped}
use Rattle.ucd_emoji.proofs.BinaryLemmas.{is_emoji_modifier_base_stepped, is_emoji_variation_base_stepped}
use Rattle.ucd_emoji.specs.Binary.{is_emoji_modifier_base, is_emoji_variation_base}
use Rattle.ucd_table.specs.Rows.{Range, in_ranges}
use Rattle.ucd_table.proofs.Stepped.{map_stepped}
use Rattle.unicode_width.specs.declared.kind.Kind.{Kind}
use Rattle.unicode_width.specs.declared.state.After.{After}
use Rattle.unicode_width.specs.declared.state.After.TheVariants.{Nothing, LineFeed, EmojiModifier, RegionalIndicator, RegionalIndicators, Emoji, ZwjEmoji, KeycapZwjEmoji, IndicatorZwj, EvenIndicatorsZwj, OddIndicatorsZwj, TagEnd, TagDigit1, TagDigit2, TagDigit3, TagLetter1, TagLetter2, TagLetter3, TagLetter4, TagLetter5, TagLetter6, KiratE, KiratAi, Alef, Solidus, SolidusAlef, Lamed, ZwjLamed, Ya, ZwjYa, VowelZwjYa, Tifinagh, ZwjTifinagh, JoinerTifinagh, LisuTone, OrkhonI, ZwjOrkhonI, KhmerLetter}
use Rattle.unicode_width.specs.declared.state.State.{State}
use Rattle.unicode_width.specs.Kind.{is_ligature_transparent, is_text_presentation_base, kind}
use Rattle.unicode_width.specs.Width.{Reading, alone, before_alef, if_kept, in_context, is_emoji, is_lam, joins, past_emoji, past_selectors, plain, read_before, step, str_width}
use Rattle.unicode_width.proofs.Computing.{unicode_width}
use Rattle.unicode_width.proofs.KindLemmas.{is_ligature_transparent_stepped}
use Rattle.papergrid_text.proofs.RangeLemmas.{AllPass, Ones, Twos, all_pass, has_kind, kind_in, own, passes, ranges_of}
use Rattle.papergrid_text.specs.Separators.{is_separator}
use Rattle.papergrid_text.proofs.SeparatorLemmas.{separates}
use Rattle.papergrid_text.proofs.TrimLemmas.{read-shifted}
use Rattle.papergrid_text.proofs.Widths.{str_width-nil}
use Rattle.papergrid_csv.specs.ForProofs.Cuts.{is_apart, is_narrow_letter, is_wide_letter}
use Rattle.papergrid_text.proofs.RunLemmas.{read_append}

-- the widths of a text up to this character and of what stands after it add up
abbrev pub StandsApart : ℕ → Type 0
StandsApart c = (front back : List ℕ) → str_width false (front ++ c ∷ back) ≡ str_width false (front ++ c ∷ []) + str_width false back

ellipsis-read : step false 0x2026 (0, plain) ≡ (1, plain)
unfolding unicode_width
ellipsis-read = refl

-- an ellipsis takes a column after whatever stands before it
pub ellipsis-adds : (cs : List ℕ) → str_width false (cs ++ 0x2026 ∷ []) ≡ str_width false cs + 1
unfolding str_width
ellipsis-adds cs =
    ap (λ (r : Reading). r.0) (read_append cs (0x2026 ∷ []) (0, plain)) ∙ ap (λ (r : Reading). (read_before false cs r).0) ellipsis-read ∙ read-shifted cs 1

separator-apart : (c : ℕ) → is_separator c ≡ true → StandsApart c
separator-apart c is front back =
    let all = separates c is front back in
    let first = separates c is front [] in
    let none = str_width-nil in
    omega arith

-- ---- letters of Latin, Greek and Cyrillic, kana, ideographs and Hangul

abbrev letters : List Range
letters = (0xC0, 0x2FF) ∷ (0x370, 0x47F) ∷ (0x3041, 0x3096) ∷ (0x30A0, 0x30FF) ∷ (0x3400, 0x9FFF) ∷ (0xAC00, 0xD77F) ∷ []

none-selected : AllPass letters (λ c. not (is_emoji_variation_base c))
unfolding unicode_width
none-selected = all_pass letters (λ c. not (is_emoji_variation_base c)) (map_stepped not is_emoji_variation_base is_emoji_variation_base_stepped) refl refl

none-toned : AllPass letters (λ c. not (is_emoji_modifier_base c))
unfolding unicode_width
none-toned = all_pass letters (λ c. not (is_emoji_modifier_base c)) (map_stepped not is_emoji_modifier_base is_emoji_modifier_base_stepped) refl refl

none-transparent : AllPass letters (λ c. not (is_ligature_transparent c))
unfolding unicode_width
none-transparent = all_pass letters (λ c. not (is_ligature_transparent c)) (map_stepped not is_ligature_transparent is_ligature_transparent_stepped) refl refl

no-lam : AllPass letters (λ c. not (is_lam c))
unfolding unicode_width
no-lam = all_pass letters (λ c. not (is_lam c)) (map_stepped (λ g. not (joining_group_eq g Lam)) joining_group joining_group_stepped) refl refl

inside : (c : ℕ) → (is_narrow_letter c || is_wide_letter c) ≡ true → in_ranges letters c ≡ true
unfolding in_ranges
inside c is = grind (arith, nat_tests)

narrow-inside : (c : ℕ) → is_narrow_letter c ≡ true → in_ranges (ranges_of Ones) c ≡ true
unfolding in_ranges
narrow-inside c is = grind (arith, nat_tests)

wide-inside : (c : ℕ) → is_wide_letter c ≡ true → in_ranges (ranges_of Twos) c ≡ true
unfolding in_ranges
wide-inside c is = grind (arith, nat_tests)

narrow-no_emoji : (k : Kind) → has_kind Ones k ≡ true → is_emoji k ≡ false
narrow-no_emoji k has = grind arith

wide-no_emoji : (k : Kind) → has_kind Twos k ≡ true → is_emoji k ≡ false
wide-no_emoji k has = grind arith

-- what is known of such a letter
record IsLetter (c : ℕ) : Type 0 where
  inside : (is_narrow_letter c || is_wide_letter c) ≡ true
  base : is_emoji_variation_base c ≡ false
  toned : is_emoji_modifier_base c ≡ false
  seen : is_ligature_transparent c ≡ false
  unlike : is_lam c ≡ false
  columns : ℕ
  some : 0 < columns
  own : alone false c ≡ (columns, plain)
  no_emoji : is_emoji (kind c) ≡ false

is-letter : (c columns : ℕ) → (is_narrow_letter c || is_wide_letter c) ≡ true → 0 < columns → alone false c ≡ (columns, plain) → is_emoji (kind c) ≡ false → IsLetter c
is-letter c columns is some own no_emoji =
    let within = inside c is in record {
      inside = is;
      base = not-true (is_emoji_variation_base c) (passes letters (λ c. not (is_emoji_variation_base c)) c none-selected within);
      toned = not-true (is_emoji_modifier_base c) (passes letters (λ c. not (is_emoji_modifier_base c)) c none-toned within);
      seen = not-true (is_ligature_transparent c) (passes letters (λ c. not (is_ligature_transparent c)) c none-transparent within);
      unlike = not-true (is_lam c) (passes letters (λ c. not (is_lam c)) c no-lam within);
      columns = columns;
      some = some;
      own = own;
      no_emoji = no_emoji;
    }

letter : (c : ℕ) → (is_narrow_letter c || is_wide_letter c) ≡ true → IsLetter c
letter c is = elim (or_cases (is_narrow_letter c) (is_wide_letter c) is) [
  | inl narrow ↦
      let within = narrow-inside c narrow in
      is-letter c 1 is (omega arith) (own Ones c within) (narrow-no_emoji (kind c) (kind_in Ones c within))
  | inr wide ↦
      let within = wide-inside c wide in
      is-letter c 2 is (omega arith) (own Twos c within) (wide-no_emoji (kind c) (kind_in Twos c within))
]

-- it joins nothing after it
alef-none : (c : ℕ) → IsLetter c → before_alef false c ≡ None
unfolding before_alef
alef-none c it = let unlike = it.unlike in let own = it.own in let some = it.some in grind (arith, nat_tests)

joins-none : (c : ℕ) (after : After) → IsLetter c → joins false after c ≡ None
unfolding joins
joins-none c EmojiModifier it = let toned = it.toned in let where_it_is = it.inside in grind (arith, nat_tests)
joins-none c ZwjEmoji it = let no_emoji = it.no_emoji in let where_it_is = it.inside in grind (arith, nat_tests)
joins-none c Alef it = alef-none c it
joins-none c Nothing it = let where_it_is = it.inside in grind (arith, nat_tests)
joins-none c LineFeed it = let where_it_is = it.inside in grind (arith, nat_tests)
joins-none c RegionalIndicator it = let where_it_is = it.inside in grind (arith, nat_tests)
joins-none c RegionalIndicators it = let where_it_is = it.inside in grind (arith, nat_tests)
joins-none c Emoji it = let where_it_is = it.inside in grind (arith, nat_tests)
joins-none c KeycapZwjEmoji it = let where_it_is = it.inside in grind (arith, nat_tests)
joins-none c IndicatorZwj it = let where_it_is = it.inside in grind (arith, nat_tests)
joins-none c EvenIndicatorsZwj it = let where_it_is = it.inside in grind (arith, nat_tests)
joins-none c OddIndicatorsZwj it = let where_it_is = it.inside in grind (arith, nat_tests)
joins-none c TagEnd it = let where_it_is = it.inside in grind (arith, nat_tests)
joins-none c TagDigit1 it = let where_it_is = it.inside in grind (arith, nat_tests)
joins-none c TagDigit2 it = let where_it_is = it.inside in grind (arith, nat_tests)
joins-none c TagDigit3 it = let where_it_is = it.inside in grind (arith, nat_tests)
joins-none c TagLetter1 it = let where_it_is = it.inside in grind (arith, nat_tests)
joins-none c TagLetter2 it = let where_it_is = it.inside in grind (arith, nat_tests)
joins-none c TagLetter3 it = let where_it_is = it.inside in grind (arith, nat_tests)
joins-none c TagLetter4 it = let where_it_is = it.inside in grind (arith, nat_tests)
joins-none c TagLetter5 it = let where_it_is = it.inside in grind (arith, nat_tests)
joins-none c TagLetter6 it = let where_it_is = it.inside in grind (arith, nat_tests)
joins-none c KiratE it = let where_it_is = it.inside in grind (arith, nat_tests)
joins-none c KiratAi it = let where_it_is = it.inside in grind (arith, nat_tests)
joins-none c Solidus it = let where_it_is = it.inside in grind (arith, nat_tests)
joins-none c SolidusAlef it = let where_it_is = it.inside in grind (arith, nat_tests)
joins-none c Lamed it = let where_it_is = it.inside in grind (arith, nat_tests)
joins-none c ZwjLamed it = let where_it_is = it.inside in grind (arith, nat_tests)
joins-none c Ya it = let where_it_is = it.inside in grind (arith, nat_tests)
joins-none c ZwjYa it = let where_it_is = it.inside in grind (arith, nat_tests)
joins-none c VowelZwjYa it = let where_it_is = it.inside in grind (arith, nat_tests)
joins-none c Tifinagh it = let where_it_is = it.inside in grind (arith, nat_tests)
joins-none c ZwjTifinagh it = let where_it_is = it.inside in grind (arith, nat_tests)
joins-none c JoinerTifinagh it = let where_it_is = it.inside in grind (arith, nat_tests)
joins-none c LisuTone it = let where_it_is = it.inside in grind (arith, nat_tests)
joins-none c OrkhonI it = let where_it_is = it.inside in grind (arith, nat_tests)
joins-none c ZwjOrkhonI it = let where_it_is = it.inside in grind (arith, nat_tests)
joins-none c KhmerLetter it = let where_it_is = it.inside in grind (arith, nat_tests)

letter-past_selectors : (c total : ℕ) (after : After) (it : IsLetter c) → joins false after c ≡ None → past_selectors false c total after ≡ (total + it.columns, plain)
unfolding past_selectors
letter-past_selectors c total after it none = let seen = it.seen in let own = it.own in let where_it_is = it.inside in grind (arith, nat_tests)

letter-in_context : (c total : ℕ) (s : State) (it : IsLetter c) → past_selectors false c total s.after ≡ (total + it.columns, plain) → in_context false c total s ≡ (total + it.columns, plain)
unfolding in_context is_text_presentation_base
letter-in_context c total s it past = let base = it.base in let where_it_is = it.inside in grind (arith, nat_tests)

letter-past_emoji : (c total : ℕ) (s : State) (it : IsLetter c) → in_context false c total s ≡ (total + it.columns, plain) → past_emoji false c total s ≡ (total + it.columns, plain)
unfolding past_emoji
letter-past_emoji c total s it past = let own = it.own in let where_it_is = it.inside in grind (arith, nat_tests)

letter-step : (c total : ℕ) (s : State) (it : IsLetter c) → step false c (total, s) ≡ (total + it.columns, plain)
unfolding step
letter-step c total s it =
    let base = it.base in
    let in_place : (s : State) → past_emoji false c total s ≡ (total + it.columns, plain) = λ (s : State).
    letter-past_emoji c total s it (letter-in_context c total s it (letter-past_selectors c total s.after it (joins-none c s.after it))) in
    let here = in_place s in
    let kept = in_place (record (if_kept s) { emoji = false }) in
    grind arith

letter-adds : (c : ℕ) (it : IsLetter c) (front back : List ℕ) → str_width false (front ++ c ∷ back) ≡ str_width false front + it.columns + str_width false back
unfolding str_width
letter-adds c it front back =
    let r = read_before false back (0, plain) in
    ap (λ (r : Reading). r.0) (read_append front (c ∷ back) (0, plain))
    ∙ ap (λ (r : Reading). (read_before false front r).0) (letter-step c r.0 r.1 it)
    ∙ read-shifted front (r.0 + it.columns)
    ∙ omega arith

letter-apart : (c : ℕ) → (is_narrow_letter c || is_wide_letter c) ≡ true → StandsApart c
letter-apart c is front back =
    let it = letter c is in
    let all = letter-adds c it front back in
    let first = letter-adds c it front [] in
    let none = str_width-nil in
    omega arith

-- ---- both

pub apart : (c : ℕ) → is_apart c ≡ true → StandsApart c
apart c is = elim (or_cases (is_separator c) (is_narrow_letter c || is_wide_letter c) is) [ inl one ↦ separator-apart c one | inr other ↦ letter-apart c other ]
