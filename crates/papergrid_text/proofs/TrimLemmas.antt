-- Without the white space at its ends no text is wider.
use Rattle.std.proofs.Common.{◌≡◌, ◌⊎◌, inl, inr, ◌∙◌, ap, sym, refl, subst, ℕ, zero, suc, ◌+◌, ◌<◌, ◌≤◌, ◌==◌, ◌&&◌, ◌||◌, Bool, true, false, cond, not, nat_lt, List, [], ◌∷◌, ◌++◌, Some, None, length, replicate, arith, append_assoc, append-nil, rules}
use Rattle.std.specs.Char.{is_whitespace}
use Rattle.std.specs.List.{list_all, range_with_len}
use Rattle.std.specs.Str.{chars, drop_trailing_whitespace, skip_leading_whitespace, trim, trim_end, trim_start}
use Rattle.std.proofs.lemmas.Bool.{and_parts, cases_eq, cases_lt, eqb-true, ltb-true, or_cases}
use Rattle.std.proofs.lemmas.Bool.Decides.{nat_tests}
use Rattle.std.proofs.lemmas.List.{length-replicate, nil_from_length}
use Rattle.unicode_width.specs.declared.state.After.{After}
use Rattle.unicode_width.specs.declared.state.After.TheVariants.{Nothing, LineFeed, EmojiModifier, RegionalIndicator, RegionalIndicators, Emoji, ZwjEmoji, KeycapZwjEmoji, IndicatorZwj, EvenIndicatorsZwj, OddIndicatorsZwj, TagEnd, TagDigit1, TagDigit2, TagDigit3, TagLetter1, TagLetter2, TagLetter3, TagLetter4, TagLetter5, TagLetter6, KiratE, KiratAi, Alef, Solidus, SolidusAlef, Lamed, ZwjLamed, Ya, ZwjYa, VowelZwjYa, Tifinagh, ZwjTifinagh, JoinerTifinagh, LisuTone, OrkhonI, ZwjOrkhonI, KhmerLetter}
use Rattle.unicode_width.specs.declared.state.Change.TheVariants.{Same}
use Rattle.unicode_width.specs.declared.state.State.{State}
use Rattle.unicode_width.specs.Width.{Reading, added, alone, before, before_alef, in_context, is_indicator, is_plain, is_tifinagh, joined_or, joins, past_emoji, past_selectors, plain, read_before, step, str_width}
use Rattle.unicode_width.proofs.Computing.{unicode_width}
use Rattle.unicode_width.proofs.Rules.{str_width-append_simple, str_width-printable}
use Rattle.unicode_width.proofs.WidthLemmas.{read_before-printable}
use Rattle.papergrid_text.specs.Text.{width_of}
use Rattle.papergrid_text.proofs.ReadBack.{chars-back}
use Rattle.papergrid_text.proofs.RunLemmas.{all_simple, all_spaces, read_append}

-- ---- white space, character by character

-- where one test or the other is passed
either : (a b : Bool) (P : Type 0) → (a ≡ true → P) → (b ≡ true → P) → (a || b) ≡ true → P
either a b P first second passes = elim (or_cases a b passes) [ inl one ↦ first one | inr other ↦ second other ]

-- what holds of each control character, space and separator
of_white : (P : ℕ → Type 0) (c : ℕ) → ((8 < c) × (c < 14) → P c) → P 32 → P 133 → P 160 → P 5760 → ((8191 < c) × (c < 8203) → P c) →
    P 8232 → P 8233 → P 8239 → P 8287 → P 12288 → is_whitespace c ≡ true → P c
of_white P c low k32 k133 k160 k5760 between k8232 k8233 k8239 k8287 k12288 =
    either _ _ (P c) (either _ _ (P c) (either _ _ (P c) (either _ _ (P c) (either _ _ (P c) (either _ _ (P c)
    (either _ _ (P c) (either _ _ (P c) (either _ _ (P c) (either _ _ (P c)
    (λ t. let parts = and_parts (nat_lt 8 c) (nat_lt c 14) t in low (ltb-true 8 c parts.0, ltb-true c 14 parts.1))
    (at 32 k32)) (at 133 k133)) (at 160 k160)) (at 5760 k5760))
    (λ t. let parts = and_parts (nat_lt 8191 c) (nat_lt c 8203) t in between (ltb-true 8191 c parts.0, ltb-true c 8203 parts.1)))
    (at 8232 k8232)) (at 8233 k8233)) (at 8239 k8239)) (at 8287 k8287)) (at 12288 k12288)
  where
    at : (k : ℕ) → P k → (c == k) ≡ true → P c
    at k holds same = subst P (sym (eqb-true c k same)) holds

-- what a test tells of each number of a range
pub of_range : (test : ℕ → Bool) (a n c : ℕ) → list_all test (range_with_len a n) ≡ true → a ≤ c → c < a + n → test c ≡ true
of_range test a zero c all from below = absurd (omega (arith, from, below))
of_range test a (suc n) c all from below =
    let parts = and_parts (test a) (list_all test (range_with_len (a + 1) n)) all in
    elim (cases_eq c a) [
      | inl here ↦ ap test here ∙ parts.0
      | inr later ↦ of_range test (a + 1) n c parts.1 (omega (arith, from, later)) (omega (arith, below))
    ]

-- ---- before a text

-- no character of the joins that take a column away
abbrev takes_none : ℕ → Bool
takes_none c = not (c == 0x17D2) && (not (is_tifinagh c) && not (is_indicator c))

white-takes_none : (c : ℕ) → is_whitespace c ≡ true → takes_none c ≡ true
white-takes_none c white = search (rules, of_white, of_range, white)

-- what joins the text after it takes nothing away, where it is no such character
record IsSafe (c : ℕ) : Type 0 where
  coeng : (c == 0x17D2) ≡ false
  tifinagh : is_tifinagh c ≡ false
  indicator : is_indicator c ≡ false

is-safe : (c : ℕ) → takes_none c ≡ true → IsSafe c
is-safe c none = grind arith

alef-rises : (lam mark : Bool) (total : ℕ) (own : ℕ × State) →
    total ≤ (joined_or total (cond lam (Some (Same, Nothing)) (cond mark (Some (Same, Alef)) None)) own).0
alef-rises true mark total own = omega arith
alef-rises false true total own = omega arith
alef-rises false false total own = omega arith

joined-rises : (c total : ℕ) (after : After) (own : ℕ × State) → (c == 0x17D2) ≡ false → is_tifinagh c ≡ false → is_indicator c ≡ false →
    total ≤ (joined_or total (joins false after c) own).0
unfolding joins before_alef
joined-rises c total Nothing own _ _ _ = grind arith
joined-rises c total LineFeed own _ _ _ = grind arith
joined-rises c total EmojiModifier own _ _ _ = grind arith
joined-rises c total RegionalIndicator own _ _ _ = grind arith
joined-rises c total RegionalIndicators own _ _ _ = grind arith
joined-rises c total Emoji own _ _ _ = grind arith
joined-rises c total ZwjEmoji own _ _ _ = grind arith
joined-rises c total KeycapZwjEmoji own _ _ _ = grind arith
joined-rises c total IndicatorZwj own _ _ indicator = grind arith
joined-rises c total EvenIndicatorsZwj own _ _ _ = grind arith
joined-rises c total OddIndicatorsZwj own _ _ indicator = grind arith
joined-rises c total TagEnd own _ _ _ = grind arith
joined-rises c total TagDigit1 own _ _ _ = grind arith
joined-rises c total TagDigit2 own _ _ _ = grind arith
joined-rises c total TagDigit3 own _ _ _ = grind arith
joined-rises c total TagLetter1 own _ _ _ = grind arith
joined-rises c total TagLetter2 own _ _ _ = grind arith
joined-rises c total TagLetter3 own _ _ _ = grind arith
joined-rises c total TagLetter4 own _ _ _ = grind arith
joined-rises c total TagLetter5 own _ _ _ = grind arith
joined-rises c total TagLetter6 own _ _ _ = grind arith
joined-rises c total KiratE own _ _ _ = grind arith
joined-rises c total KiratAi own _ _ _ = grind arith
joined-rises c total Alef own _ _ _ = alef-rises _ _ total own
joined-rises c total Solidus own _ _ _ = grind arith
joined-rises c total SolidusAlef own _ _ _ = grind arith
joined-rises c total Lamed own _ _ _ = grind arith
joined-rises c total ZwjLamed own _ _ _ = grind arith
joined-rises c total Ya own _ _ _ = grind arith
joined-rises c total ZwjYa own _ _ _ = grind arith
joined-rises c total VowelZwjYa own _ _ _ = grind arith
joined-rises c total Tifinagh own _ _ _ = grind arith
joined-rises c total ZwjTifinagh own _ _ _ = grind arith
joined-rises c total JoinerTifinagh own _ tifinagh _ = grind arith
joined-rises c total LisuTone own _ _ _ = grind arith
joined-rises c total OrkhonI own _ _ _ = grind arith
joined-rises c total ZwjOrkhonI own _ _ _ = grind arith
joined-rises c total KhmerLetter own coeng _ _ = grind arith

selectors-rise : (c total : ℕ) (after : After) → takes_none c ≡ true → total ≤ (past_selectors false c total after).0
unfolding past_selectors
selectors-rise c total after none = grind (arith, is-safe, joined-rises)

context-rises : (c total : ℕ) (s : State) → takes_none c ≡ true → total ≤ (in_context false c total s).0
unfolding in_context
context-rises c total s none = let past = selectors-rise c total s.after none in grind arith

emoji-rises : (c total : ℕ) (s : State) → takes_none c ≡ true → total ≤ (past_emoji false c total s).0
unfolding past_emoji
emoji-rises c total s none = let past = context-rises c total s none in grind arith

-- such a character takes no column of the text after it
step-rises : (c : ℕ) (r : Reading) → takes_none c ≡ true → r.0 ≤ (step false c r).0
unfolding step
step-rises c (total, s) none = grind (arith, emoji-rises)

skipped-no_wider : (cs : List ℕ) → str_width false (skip_leading_whitespace cs) ≤ str_width false cs
unfolding str_width
skipped-no_wider [] = omega arith
skipped-no_wider (c ∷ cs) =
    elim (is_whitespace c) as (λ b. is_whitespace c ≡ b →
    (read_before false (cond b (skip_leading_whitespace cs) (c ∷ cs)) (0, plain)).0 ≤ (read_before false (c ∷ cs) (0, plain)).0) [
      | true ↦ λ white.
          let rest : (read_before false (skip_leading_whitespace cs) (0, plain)).0 ≤ (read_before false cs (0, plain)).0 = skipped-no_wider cs in
          omega (arith, step-rises c (read_before false cs (0, plain)) (white-takes_none c white))
      | false ↦ λ black. omega arith
    ] refl

-- ---- after a text

-- what stands before n columns adds its width to them
pub read-shifted : (cs : List ℕ) (n : ℕ) → (read_before false cs (n, plain)).0 ≡ str_width false cs + n
unfolding str_width
read-shifted cs n =
    let ys : List ℕ = replicate n 32 in
    let many : length ys ≡ n = length-replicate n 32 in
    let read : (n, plain) ≡ read_before false ys (0, plain) =
    ap (λ m. (m, plain)) (sym (omega arith)) ∙ read_before-printable false ys [] 0 (all_spaces n) refl
    ∙ ap (λ l. read_before false l (0, plain)) (append-nil ys) in
    ap (λ r. (read_before false cs r).0) read ∙ ap (λ r. r.0) (sym (read_append cs ys (0, plain)))
    ∙ str_width-append_simple false cs ys (all_simple n)
    ∙ ap (λ m. str_width false cs + m) (str_width-printable false ys (all_spaces n) ∙ many)

-- all white space but the line feed is as plain as a space to what stands before it
abbrev stays_plain : ℕ → Bool
stays_plain c = is_plain (step false c (0, plain)).1

white-plain : (c : ℕ) → is_whitespace c ≡ true → (c ≡ 10) ⊎ (stays_plain c ≡ true)
unfolding unicode_width
white-plain c white =
    of_white (λ k. (k ≡ 10) ⊎ (stays_plain k ≡ true)) c
    (λ within. elim (cases_lt c 10) [
      | inl below ↦ inr (of_range stays_plain 9 1 c refl (omega (arith, within.0)) (omega (arith, below)))
      | inr from ↦ elim (cases_eq c 10) [
        | inl line ↦ inl line
        | inr past ↦ inr (of_range stays_plain 11 3 c refl (omega (arith, from, past)) (omega (arith, within.1)))
      ]
    ])
    (inr refl) (inr refl) (inr refl) (inr refl)
    (λ within. inr (of_range stays_plain 8192 11 c refl (omega (arith, within.0)) (omega (arith, within.1))))
    (inr refl) (inr refl) (inr refl) (inr refl) (inr refl) white

plain-from_test : (s : State) → is_plain s ≡ true → s ≡ plain
plain-from_test s passes = grind arith

-- before a line feed a carriage return has no column, and all else is as at the end of a text
selector-own : (k : ℕ) (s : State) → alone false k ≡ (0, s) → (total : ℕ) → (total, s) ≡ added total (alone false k)
selector-own k s own total = ap (λ n. (n, s)) (let e : total ≡ total + 0 = omega arith in e) ∙ ap (added total) (sym own)

emoji-selector : alone false 0xFE0F ≡ (0, record plain { emoji = true })
unfolding unicode_width
emoji-selector = refl

quote-selector : alone false 0xFE01 ≡ (0, record plain { quote = true })
unfolding unicode_width
quote-selector = refl

text-selector : alone false 0xFE0E ≡ (0, record plain { text = true })
unfolding unicode_width
text-selector = refl

other-before_line : (c total : ℕ) → (c ≡ 13 → ⊥) → (c ≡ 0xFE0F → ⊥) → (c ≡ 0xFE01 → ⊥) → (c ≡ 0xFE0E → ⊥) →
    step false c (total, before LineFeed) ≡ step false c (total, plain)
unfolding step past_emoji in_context past_selectors joins
other-before_line c total no_return no_emoji no_quote no_text = grind (arith, nat_tests)

before-line : (c total : ℕ) → (c ≡ 13) ⊎ (step false c (total, before LineFeed) ≡ step false c (total, plain))
unfolding step past_emoji in_context
before-line c total = grind (arith, cases_eq, selector-own, emoji-selector, quote-selector, text-selector, other-before_line)

abbrev IsAsPlain : List ℕ → Type 0
IsAsPlain cs = (read_before false cs (1, before LineFeed) ≡ read_before false cs (1, plain))
    ⊎ (read_before false cs (1, before LineFeed) ≡ read_before false cs (0, plain))

return-line : step false 13 (1, before LineFeed) ≡ step false 13 (0, plain)
unfolding step past_emoji
return-line = refl

one-before_line : (c : ℕ) → IsAsPlain (c ∷ [])
one-before_line c = grind (arith, before-line, return-line)

all-before_line : (c : ℕ) (cs : List ℕ) → IsAsPlain (c ∷ cs)
all-before_line c [] = one-before_line c
all-before_line c (d ∷ cs) = grind (arith, all-before_line d cs)

line_feed : step false 10 (0, plain) ≡ (1, before LineFeed)
unfolding step past_emoji
line_feed = refl

before-line_feed : (cs : List ℕ) → str_width false cs ≤ (read_before false cs (1, before LineFeed)).0
unfolding str_width
before-line_feed [] = omega arith
before-line_feed (c ∷ cs) = elim (all-before_line c cs) [
  | inl same ↦ (let by = ap (λ (r : Reading). r.0) same in omega (arith, by, read-shifted (c ∷ cs) 1))
  | inr same ↦ (let by = ap (λ (r : Reading). r.0) same in omega (arith, by))
]

-- one more white character
more-no_narrower : (cs : List ℕ) (w : ℕ) → is_whitespace w ≡ true → str_width false cs ≤ str_width false (cs ++ w ∷ [])
unfolding str_width
more-no_narrower cs w white =
    let all = ap (λ (r : Reading). r.0) (read_append cs (w ∷ []) (0, plain)) in
    elim (white-plain w white) [
      | inl line ↦ grind (arith, line_feed, all, before-line_feed)
      | inr stays ↦ grind (arith, plain-from_test, all, read-shifted)
    ]

longer-no_narrower : (cs ws : List ℕ) → list_all is_whitespace ws ≡ true → str_width false cs ≤ str_width false (cs ++ ws)
longer-no_narrower cs [] white = let e = ap (str_width false) (append-nil cs) in omega arith
longer-no_narrower cs (w ∷ ws) white =
    let parts = and_parts (is_whitespace w) (list_all is_whitespace ws) white in
    let rest = longer-no_narrower (cs ++ w ∷ []) ws parts.1 in
    let e = ap (str_width false) (append_assoc cs (w ∷ []) ws) in
    omega (arith, more-no_narrower cs w parts.0)

-- what is dropped from the end is white
record IsCut (cs kept : List ℕ) : Type 0 where
  white : List ℕ
  whole : cs ≡ kept ++ white
  all : list_all is_whitespace white ≡ true

dropped : (cs : List ℕ) → IsCut cs (drop_trailing_whitespace cs)
dropped [] = record { white = []; whole = refl; all = refl }
dropped (c ∷ cs) =
    let rest = dropped cs in
    elim (is_whitespace c && length (drop_trailing_whitespace cs) == 0) as (λ b.
    (is_whitespace c && length (drop_trailing_whitespace cs) == 0) ≡ b → IsCut (c ∷ cs) (cond b [] (c ∷ drop_trailing_whitespace cs))) [
      | true ↦ λ both.
          let parts = and_parts (is_whitespace c) (length (drop_trailing_whitespace cs) == 0) both in
          let none = nil_from_length (drop_trailing_whitespace cs) (eqb-true _ 0 parts.1) in
          record {
            white = c ∷ rest.white;
            whole = ap (λ l. c ∷ l) (rest.whole ∙ ap (λ l. l ++ rest.white) none);
            all = ap (λ b. b && list_all is_whitespace rest.white) parts.0 ∙ rest.all;
          }
      | false ↦ λ some. record { white = rest.white; whole = ap (λ l. c ∷ l) rest.whole; all = rest.all }
    ] refl

dropped-no_wider : (cs : List ℕ) → str_width false (drop_trailing_whitespace cs) ≤ str_width false cs
dropped-no_wider cs =
    let cut = dropped cs in
    let longer = longer-no_narrower (drop_trailing_whitespace cs) cut.white cut.all in
    let e = ap (str_width false) cut.whole in
    omega arith

-- ---- both

trimmed-chars : (text : List ℕ) → chars (trim text) ≡ drop_trailing_whitespace (skip_leading_whitespace (chars text))
unfolding trim_start trim_end
trimmed-chars text = grind (arith, chars-back)

pub trimmed-no_wider : (text : List ℕ) → width_of (trim text) ≤ width_of text
trimmed-no_wider text = grind (arith, trimmed-chars, dropped-no_wider, skipped-no_wider)
