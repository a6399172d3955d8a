-- What a simple character adds to the width of a text of such characters after it.
use Rattle.std.proofs.Common.{◌≡◌, ◌≢◌, ◌⊎◌, ℕ, ◌+◌, ◌<◌, ◌≤◌, ◌&&◌, ◌||◌, ◌==◌, Bool, true, false, not, cond, List, [], ◌∷◌, Some, None, refl, sym, ap, ◌∙◌, ap₂, subst, arith, inl, inr, rules}
use Rattle.std.specs.Int.{is_in_range}
use Rattle.std.proofs.lemmas.Bool.{cases_eq, cases_lt}
use Rattle.std.proofs.lemmas.Bool.Decides.{nat_tests}
use Rattle.ucd_table.specs.Rows.{Range, in_ranges}
use Rattle.ucd_table.proofs.Stepped.{map_stepped, of_ranges, zip_stepped}
use Rattle.ucd_bidi.specs.JoiningGroup.{joining_group, joining_group_eq}
use Rattle.ucd_bidi.specs.JoiningType.{joining_type, joining_type_eq}
use Rattle.ucd_bidi.specs.declared.JoiningGroup.TheVariants.{Lam}
use Rattle.ucd_bidi.specs.declared.JoiningType.TheVariants.{Transparent}
use Rattle.ucd_bidi.proofs.JoiningGroupLemmas.{joining_group_stepped}
use Rattle.unicode_width.specs.declared.state.After.TheVariants.{Alef, Lamed}
use Rattle.unicode_width.specs.declared.state.State.{State}
use Rattle.unicode_width.specs.Kind.{kind, is_ligature_transparent}
use Rattle.unicode_width.specs.Width.{Reading, added, alone, before, before_alef, in_context, is_lam, joins, past_emoji, past_selectors, plain, step}
use Rattle.unicode_width.proofs.Computing.{unicode_width}
use Rattle.unicode_width.proofs.KindLemmas.{is_ligature_transparent_stepped, kind_stepped}
use Rattle.papergrid_text.proofs.RangeLemmas.{AllPass, Group, Alefs, Marks, Ones, Twos, all_pass, has_kind, own, own_alone, own_by_kind, own_of, ranges_of}
use Rattle.papergrid_text.specs.ForProofs.Simple.{AtAlef, AtLamed, IsQuiet, Plain, Reads, columns_of_brahmic, columns_of_three, is_alef, is_devanagari_mark, is_one_column, is_semitic_letter, is_thai_mark, is_two_columns, may_join_lam}

-- before each text of simple characters the character adds so many columns
abbrev pub TakesColumns : ℕ → ℕ → Type 0
TakesColumns c columns = (first total : ℕ) (r : Reading) → Reads first total r → Reads c (total + columns) (step false c r)

-- ---- what the tables tell

-- scripts whose marks are among the marks
abbrev marked : List Range
marked = (0x900, 0x97F) ∷ (0xE00, 0xE7F) ∷ []

-- above U+00A0 all but lams, U+200D and the variation selectors, as far as simple characters go
abbrev high : List Range
high = (0xA1, 0x643) ∷ (0x645, 0x64A) ∷ (0x900, 0x200C) ∷ (0x200E, 0xFDFF) ∷ (0xFE10, 0x10_FFFF) ∷ []

-- but for the marks
marked_take_one : AllPass marked (λ c. in_ranges (ranges_of Marks) c || has_kind Ones (kind c))
unfolding unicode_width
marked_take_one =
    all_pass marked (λ c. in_ranges (ranges_of Marks) c || has_kind Ones (kind c))
    (zip_stepped (λ mark k. mark || has_kind Ones k) (in_ranges (ranges_of Marks)) kind (of_ranges (ranges_of Marks) refl) kind_stepped) refl refl

no_lam : AllPass high (λ c. not (is_lam c))
unfolding unicode_width
no_lam = all_pass high (λ c. not (is_lam c)) (map_stepped (λ g. not (joining_group_eq g Lam)) joining_group joining_group_stepped) refl refl

transparent_take_none : AllPass high (λ c. not (is_ligature_transparent c) || has_kind Marks (kind c))
unfolding unicode_width
transparent_take_none =
    all_pass high (λ c. not (is_ligature_transparent c) || has_kind Marks (kind c))
    (zip_stepped (λ t k. not t || has_kind Marks k) is_ligature_transparent kind is_ligature_transparent_stepped kind_stepped) refl refl

-- ---- one step back

-- no lam, joiner or selector, and above U+00A0
record IsHigh (c : ℕ) : Type 0 where
  above : 0xA0 < c
  unjoined : c ≢ 0x200D
  unselected : (c < 0xFE00) ⊎ (0xFE0F < c)
  unlike : is_lam c ≡ false
  none : is_ligature_transparent c ≡ true → has_kind Marks (kind c) ≡ true

is_high : (c : ℕ) → in_ranges high c ≡ true → IsHigh c
unfolding in_ranges
is_high c h =
    let lam = no_lam c in
    let transparent = transparent_take_none c in
    record {
      above = grind (arith, nat_tests);
      unjoined = grind (arith, nat_tests);
      unselected = split (cases_lt c 0xFE00);
      unlike = grind (arith, nat_tests);
      none = λ is. grind (arith, nat_tests);
    }
  where
    split : (c < 0xFE00) ⊎ (0xFE00 ≤ c) → (c < 0xFE00) ⊎ (0xFE0F < c)
    split (inl low) = inl low
    split (inr past) = inr (grind (arith, nat_tests))

-- the character looks like a mark through which a lam sees an alef
abbrev is_see_through : ℕ → Bool
is_see_through c = ((alone false c).0 == 0) && joining_type_eq (joining_type c) Transparent

plain_step : (c total : ℕ) → IsHigh c → step false c (total, plain) ≡ added total (alone false c)
unfolding step past_emoji
plain_step c total h = let above = h.above in grind (arith, nat_tests)

lamed_step : (c total : ℕ) → IsHigh c → is_ligature_transparent c ≡ false → step false c (total, before Lamed) ≡ added total (alone false c)
unfolding step past_emoji in_context past_selectors joins
lamed_step c total h is = let above = h.above in let unjoined = h.unjoined in let unselected = h.unselected in grind (arith, nat_tests)

lamed_kept : (c total : ℕ) → IsHigh c → is_ligature_transparent c ≡ true → step false c (total, before Lamed) ≡ (total, before Lamed)
unfolding step past_emoji in_context past_selectors joins
lamed_kept c total h is = let above = h.above in let unjoined = h.unjoined in let unselected = h.unselected in grind (arith, nat_tests)

alef_step : (c total : ℕ) → IsHigh c → is_see_through c ≡ false → step false c (total, before Alef) ≡ added total (alone false c)
unfolding step past_emoji in_context past_selectors joins before_alef
alef_step c total h is = let above = h.above in let unjoined = h.unjoined in let unselected = h.unselected in let unlike = h.unlike in grind (arith, nat_tests)

alef_kept : (c total : ℕ) → IsHigh c → is_see_through c ≡ true → step false c (total, before Alef) ≡ (total, before Alef)
unfolding step past_emoji in_context past_selectors joins before_alef
alef_kept c total h is = let above = h.above in let unjoined = h.unjoined in let unselected = h.unselected in let unlike = h.unlike in grind (arith, nat_tests)

-- ---- what a character adds

at_state : (c t total : ℕ) (u s : State) → t ≡ total → u ≡ s → step false c (t, u) ≡ step false c (total, s)
at_state c t total u s counted is = ap₂ (λ t u. step false c (t, u)) counted is

adds : (c total columns : ℕ) (s : State) (r : Reading) → r ≡ added total (columns, s) → IsQuiet c s → Reads c (total + columns) r
adds c total columns s r is quiet = subst (Reads c (total + columns)) (sym is) (record { counted = refl; quiet = quiet })

stays : (c total : ℕ) (s : State) (r : Reading) → r ≡ (total, s) → IsQuiet c s → Reads c (total + 0) r
stays c total s r is quiet = let none : total ≡ total + 0 = omega arith in subst (Reads c (total + 0)) (sym is) (record { counted = none; quiet = quiet })

not_none : (n : ℕ) → 0 < n → (n == 0) ≡ false
not_none n some = grind (arith, nat_tests)

not_transparent : (c columns : ℕ) (s : State) (b : Bool) → is_ligature_transparent c ≡ b → IsHigh c → 0 < columns → alone false c ≡ (columns, s) → b ≡ false
unfolding alone
not_transparent c columns s false is h some own = refl
not_transparent c columns s true is h some own = absurd (omega (arith, ap (λ o. o.0) (sym own ∙ own_by_kind Marks c (kind c) (h.none is))))

not_see_through : (c columns : ℕ) (s : State) → 0 < columns → alone false c ≡ (columns, s) → is_see_through c ≡ false
not_see_through c columns s some own = grind (arith, own, not_none)

letter_step : (c columns first total : ℕ) (s : State) (r : Reading) → IsHigh c → 0 < columns → alone false c ≡ (columns, s) → Reads first total r → step false c r ≡ added total (columns, s)
letter_step c columns first total s (t, u) h some own reads = by reads.counted reads.quiet
  where
    by : t ≡ total → IsQuiet first u → step false c (t, u) ≡ added total (columns, s)
    by counted (Plain is) = at_state c t total u _ counted is ∙ plain_step c total h ∙ ap (added total) own
    by counted (AtLamed is) = at_state c t total u _ counted is ∙ lamed_step c total h (not_transparent c columns s (is_ligature_transparent c) refl h some own) ∙ ap (added total) own
    by counted (AtAlef is joins) = at_state c t total u _ counted is ∙ alef_step c total h (not_see_through c columns s some own) ∙ ap (added total) own

letter_own : (c columns : ℕ) (s : State) → IsHigh c → 0 < columns → alone false c ≡ (columns, s) → IsQuiet c s → TakesColumns c columns
letter_own c columns s h some own quiet first total r reads = adds c total columns s _ (letter_step c columns first total s r h some own reads) quiet

mark_own : (c : ℕ) → IsHigh c → alone false c ≡ (0, plain) → may_join_lam c ≡ true → TakesColumns c 0
mark_own c h own joins first total (t, u) reads = search (rules, by, by_lamed, stays, at_state, lamed_kept, adds, lamed_step, own)
  where
    by_lamed : (b : Bool) → is_ligature_transparent c ≡ b → t ≡ total → u ≡ before Lamed → Reads c (total + 0) (step false c (t, u))
    by_lamed true skips counted is = stays c total (before Lamed) _ (at_state c t total u _ counted is ∙ lamed_kept c total h skips) (AtLamed refl)
    by_lamed false skips counted is = adds c total 0 plain _ (at_state c t total u _ counted is ∙ lamed_step c total h skips ∙ ap (added total) own) (Plain refl)

    by_alef : (b : Bool) → is_see_through c ≡ b → t ≡ total → u ≡ before Alef → Reads c (total + 0) (step false c (t, u))
    by_alef true sees counted is = stays c total (before Alef) _ (at_state c t total u _ counted is ∙ alef_kept c total h sees) (AtAlef refl joins)
    by_alef false sees counted is = adds c total 0 plain _ (at_state c t total u _ counted is ∙ alef_step c total h sees ∙ ap (added total) own) (Plain refl)

    by : t ≡ total → IsQuiet first u → Reads c (total + 0) (step false c (t, u))
    by counted (Plain is) = adds c total 0 plain _ (at_state c t total u _ counted is ∙ plain_step c total h ∙ ap (added total) own) (Plain refl)
    by counted (AtLamed is) = by_lamed (is_ligature_transparent c) refl counted is
    by counted (AtAlef is _) = by_alef (is_see_through c) refl counted is

-- a letter that has columns of its own, by its group
group_own : (group : Group) (c : ℕ) → in_ranges high c ≡ true → in_ranges (ranges_of group) c ≡ true → 0 < (own_of group).0 → IsQuiet c (own_of group).1 → TakesColumns c (own_of group).0
group_own group c h inside some quiet = letter_own c (own_of group).0 (own_of group).1 (is_high c h) some (own group c inside) quiet

-- a mark adds nothing
none_own : (c : ℕ) → in_ranges high c ≡ true → in_ranges (ranges_of Marks) c ≡ true → may_join_lam c ≡ true → TakesColumns c 0
none_own c h inside joins = mark_own c (is_high c h) (own Marks c inside) joins

-- a letter of one column adds that
one_own : (c : ℕ) → in_ranges high c ≡ true → in_ranges (ranges_of Ones) c ≡ true → TakesColumns c 1
one_own c h inside = group_own Ones c h inside (omega arith) (Plain refl)

-- printable ASCII and the tab
abbrev is_low : ℕ → Bool
is_low c = is_in_range 0x20 0x7E c || (c == 9)

low_step : (c total : ℕ) (s : State) → is_low c ≡ true → s.emoji ≡ false → step false c (total, s) ≡ added total (1, plain)
unfolding step past_emoji
low_step c total s low none = grind (arith, nat_tests)

unasked : (first : ℕ) (s : State) → IsQuiet first s → s.emoji ≡ false
unasked first s (Plain is) = ap (λ s. s.emoji) is
unasked first s (AtLamed is) = ap (λ s. s.emoji) is
unasked first s (AtAlef is joins) = ap (λ s. s.emoji) is

low_own : (c : ℕ) → is_low c ≡ true → TakesColumns c 1
low_own c low first total (t, s) reads = grind (arith, adds, low_step, unasked)

-- ---- simple characters

pub of_ascii : (c : ℕ) → is_in_range 0x20 0x7E c ≡ true → TakesColumns c 1
of_ascii c h = low_own c (ap (λ b. b || (c == 9)) h)

pub of_tab : TakesColumns 9 1
of_tab = low_own 9 refl

-- the letters of two bytes, but for those of Hebrew and Arabic
abbrev pub is_letter : ℕ → Bool
is_letter c = is_in_range 0xC0 0x2FF c || is_in_range 0x370 0x47F c

pub of_letter : (c : ℕ) → is_letter c ≡ true → TakesColumns c 1
unfolding in_ranges
of_letter c h = one_own c (grind (arith, nat_tests)) (grind (arith, nat_tests))

pub of_two_columns : (c : ℕ) → is_two_columns c ≡ true → TakesColumns c 2
unfolding in_ranges
of_two_columns c h = group_own Twos c (grind (arith, nat_tests)) (grind (arith, nat_tests)) (omega arith) (Plain refl)

of_solidus : TakesColumns 0x338 0
unfolding unicode_width in_ranges
of_solidus = mark_own 0x338 (is_high 0x338 refl) refl refl

pub of_accent : (c : ℕ) → is_in_range 0x300 0x36F c ≡ true → TakesColumns c 0
unfolding in_ranges
of_accent c h = elim (cases_eq c 0x338) [
  | inl same ↦ subst (λ c. TakesColumns c 0) (sym same) of_solidus
  | inr other ↦ none_own c (grind (arith, nat_tests)) (grind (arith, nat_tests)) (grind (arith, nat_tests))
]

of_brahmic_mark : (c : ℕ) → (is_devanagari_mark c || is_thai_mark c) ≡ true → TakesColumns c 0
unfolding in_ranges
of_brahmic_mark c h = none_own c (grind (arith, nat_tests)) (grind (arith, nat_tests)) (grind (arith, nat_tests))

of_brahmic_letter : (c : ℕ) → (is_devanagari_mark c || is_thai_mark c) ≡ false → (is_in_range 0x900 0x97F c || is_in_range 0xE00 0xE7F c) ≡ true → TakesColumns c 1
unfolding in_ranges
of_brahmic_letter c mark h =
    let a = marked_take_one c in
    let k : has_kind Ones (kind c) ≡ true = grind (arith, nat_tests) in
    letter_own c 1 plain (is_high c (grind (arith, nat_tests))) (omega arith) (own_alone Ones c k) (Plain refl)

of_lamed : TakesColumns 0x5DC 1
unfolding unicode_width in_ranges
of_lamed = letter_own 0x5DC 1 (before Lamed) (is_high 0x5DC refl) (omega arith) refl (AtLamed refl)

alef_is_high : (c : ℕ) → is_alef c ≡ true → IsHigh c
unfolding in_ranges
alef_is_high c h = is_high c (grind (arith, nat_tests))

alef_own : (c : ℕ) → is_alef c ≡ true → alone false c ≡ (1, before Alef)
unfolding in_ranges
alef_own c h = own Alefs c (grind (arith, nat_tests))

pub of_semitic : (c : ℕ) → is_semitic_letter c ≡ true → c ≢ 0x644 → TakesColumns c 1
unfolding in_ranges
of_semitic c h unlike = elim (cases_eq c 0x5DC) [
  | inl same ↦ subst (λ c. TakesColumns c 1) (sym same) of_lamed
  | inr other ↦ by (is_alef c) refl other
]
  where
    by : (b : Bool) → is_alef c ≡ b → c ≢ 0x5DC → TakesColumns c 1
    by true is other = letter_own c 1 (before Alef) (alef_is_high c is) (omega arith) (alef_own c is) (AtAlef refl (grind (arith, nat_tests)))
    by false is other = one_own c (grind (arith, nat_tests)) (grind (arith, nat_tests))

-- ---- lam

lam_plain : (total : ℕ) → step false 0x644 (total, plain) ≡ added total (1, plain)
unfolding unicode_width
lam_plain total = refl

lam_lamed : (total : ℕ) → step false 0x644 (total, before Lamed) ≡ added total (1, plain)
unfolding unicode_width
lam_lamed total = refl

lam_alef : (total : ℕ) → step false 0x644 (total, before Alef) ≡ (total, plain)
unfolding unicode_width
lam_alef total = refl

-- where no alef may follow it has its column
pub of_lam : (first total : ℕ) (r : Reading) → may_join_lam first ≡ false → Reads first total r → Reads 0x644 (total + 1) (step false 0x644 r)
of_lam first total (t, u) apart reads = search (rules, by, adds, at_state, lam_plain, lam_lamed)
  where
    by : t ≡ total → IsQuiet first u → Reads 0x644 (total + 1) (step false 0x644 (t, u))
    by counted (Plain is) = adds 0x644 total 1 plain _ (at_state 0x644 t total u _ counted is ∙ lam_plain total) (Plain refl)
    by counted (AtLamed is) = adds 0x644 total 1 plain _ (at_state 0x644 t total u _ counted is ∙ lam_lamed total) (Plain refl)
    by counted (AtAlef is joins) = cc

-- an alef that follows at once has the one column of both
pub of_lam_alef : (c first total : ℕ) (r : Reading) → is_alef c ≡ true → Reads first total r → Reads 0x644 (total + 1) (step false 0x644 (step false c r))
of_lam_alef c first total r is reads =
    let alef = letter_step c 1 first total (before Alef) r (alef_is_high c is) (omega arith) (alef_own c is) reads in
    adds 0x644 total 1 plain _ (ap (step false 0x644) alef ∙ lam_alef (total + 1)) (Plain refl)

-- ---- characters of three bytes

-- a character of three bytes takes no more columns
pub record TakesFew (c columns : ℕ) : Type 0 where
  pub adds : TakesColumns c columns
  pub bound : columns ≤ 3

takes_few : (c n columns : ℕ) → TakesColumns c n → n ≤ 3 → Some n ≡ Some columns → TakesFew c columns
takes_few c n columns takes few same = subst (TakesFew c) (some_is n columns same) (record { adds = takes; bound = few })
  where
    some_is : (n m : ℕ) → Some n ≡ Some m → n ≡ m
    some_is n m h = cc

-- of two choices the one that was taken
chosen : (first second : Bool) (n m c columns : ℕ) → (first ≡ true → TakesFew c n) → (first ≡ false → second ≡ true → TakesFew c m) → cond first (Some n) (cond second (Some m) None) ≡ Some columns → TakesFew c columns
chosen true second n m c columns one other told = let takes = one refl in takes_few c n columns takes.adds takes.bound told
chosen false true n m c columns one other told = let takes = other refl refl in takes_few c m columns takes.adds takes.bound told
chosen false false n m c columns one other told = cc

pub by_three : (c columns : ℕ) → columns_of_three c ≡ Some columns → TakesFew c columns
unfolding in_ranges
by_three c columns =
    chosen (is_two_columns c) (is_one_column c) 2 1 c columns (λ two. record { adds = of_two_columns c two; bound = omega arith }) (λ _ one. record { adds = one_own c (grind (arith, nat_tests)) (grind (arith, nat_tests)); bound = omega arith })

pub by_brahmic : (c columns : ℕ) → columns_of_brahmic c ≡ Some columns → TakesFew c columns
by_brahmic c columns =
    chosen (is_devanagari_mark c || is_thai_mark c) (is_in_range 0x900 0x97F c || is_in_range 0xE00 0xE7F c) 0 1 c columns
    (λ mark. record { adds = of_brahmic_mark c mark; bound = omega arith })
    (λ mark letter. record { adds = of_brahmic_letter c mark letter; bound = omega arith })
