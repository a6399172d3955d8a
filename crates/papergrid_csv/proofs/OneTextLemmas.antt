-- A text has one run: one end, and one output.
use Rattle.std.proofs.Common.{◌≡◌, ◌≢◌, ◌⊎◌, ◌∙◌, ◌+◌, ◌<◌, ◌≤◌, ◌++◌, ℕ, true, List, [], ◌∷◌, All, Option, None, Some, ap, arith, inl, inr, length, map, refl, subst, sym}
use Rattle.std.specs.List.{AllZip, join_with_byte}
use Rattle.std.proofs.lemmas.Bool.{cases_lt, false≢true}
use Rattle.std.proofs.lemmas.List.{take_all}
use Rattle.std.proofs.lemmas.List.Elements.{All-cons, All-head, All-nil, All-tail}
use Rattle.std.proofs.lemmas.Option.{same_Some}
use Rattle.csv.specs.Machine.{Read, next_record}
use Rattle.csv.specs.Reading.{Reached, strip_bom}
use Rattle.csv.specs.Records.{AllText}
use Rattle.csv.specs.declared.parser.Config.{Config}
use Rattle.csv.specs.declared.parser.State.{State}
use Rattle.csv.specs.declared.parser.State.TheVariants as states
use Rattle.papergrid_text.specs.Text.{split_lines}
use Rattle.papergrid_values.specs.declared.position.Position.{Position}
use Rattle.papergrid_csv.specs.Cutting.{IsCut, IsCutLine, IsShortened, shortened}
use Rattle.papergrid_csv.specs.Judging.{IsFieldHidden, first_missing}
use Rattle.papergrid_csv.specs.Pictures.{HasNoColumn, HidesAt, IsCsvTable}
use Rattle.papergrid_csv.specs.Requests.{first_row}
use Rattle.papergrid_draw.specs.Tiles.{IsFirstPosition}
use Rattle.papergrid_csv.specs.Rows.{AllAsLong, AreRowsOf, HasBadRecord, HasRaggedRecord, IsUnclosedFrom, IsUnread, MayBeShown, config_of, first_length, greatest_length, is_quoted, state_after, with_empty_fields}
use Rattle.papergrid_csv.specs.Shown.{AreCut}
use Rattle.papergrid_csv.specs.Spelling.{spelled}
use Rattle.papergrid_csv.specs.declared.reading.Reading.{Reading}
use Rattle.papergrid_csv.specs.declared.reading.RowsError.{RowsError}
use Rattle.papergrid_csv.specs.declared.reading.RowsError.TheVariants.{Memory, NotText, Ragged, Unclosed}
use Rattle.papergrid_csv.specs.declared.request.Request.{Request}
use Rattle.papergrid_draw.proofs.OneLemmas.{one-first}

-- ---- the records of a text

module _ (cfg : Config) where
  -- what is next does not depend on how it was come to
  moved : (s t : State) (xs ys : List ℕ) (found : Option Read) → s ≡ t → xs ≡ ys → next_record cfg t [] [] ys ≡ found → next_record cfg s [] [] xs ≡ found
  moved s t xs ys found states texts next = (λ i. next_record cfg (states i) [] [] (texts i)) ∙ next

  one-read : (found : Option Read) (p q : Read) → found ≡ Some p → found ≡ Some q → p ≡ q
  one-read found p q a b = same_Some p q (sym a ∙ b)

  none-read : (found : Option Read) (p : Read) → found ≡ Some p → found ≡ None → ⊥
  none-read found p a b = cc (a, b)

  -- all records are the same
  pub one-records : (s : State) (xs : List ℕ) (rows other : List (List (List ℕ))) (s2 t2 : State) (ys zs : List ℕ) → Reached cfg s xs rows s2 ys → next_record cfg s2 [] [] ys ≡ None →
      Reached cfg s xs other t2 zs → next_record cfg t2 [] [] zs ≡ None → rows ≡ other
  unfolding Reached
  one-records s xs [] [] s2 t2 ys zs a none b end = refl
  one-records s xs [] (o ∷ os) s2 t2 ys zs a none b end = absurd (none-read (next_record cfg s [] [] xs) b.0 b.1 (moved s s2 xs ys None a.0 a.1 none))
  one-records s xs (r ∷ rs) [] s2 t2 ys zs a none b end = absurd (none-read (next_record cfg s [] [] xs) a.0 a.1 (moved s t2 xs zs None b.0 b.1 end))
  one-records s xs (r ∷ rs) (o ∷ os) s2 t2 ys zs a none b end =
      let same : a.0 ≡ b.0 = one-read (next_record cfg s [] [] xs) a.0 b.0 a.1 b.1 in
      let first : r ≡ o = a.2 ∙ ap (λ (p : Read). p.0) same ∙ sym b.2 in
      let rest : rs ≡ os = one-records b.0.1 b.0.2 rs os s2 t2 ys zs (subst (λ (p : Read). Reached cfg p.1 p.2 rs s2 ys) same a.3) none b.3 end in
      λ i. first i ∷ rest i

  -- a record right after some of them is the next of all
  pub next-among : (s : State) (xs : List ℕ) (before rows : List (List (List ℕ))) (s1 s2 : State) (ys zs : List ℕ) (p : Read) → Reached cfg s xs before s1 ys → next_record cfg s1 [] [] ys ≡ Some p →
      Reached cfg s xs rows s2 zs → next_record cfg s2 [] [] zs ≡ None → (rest : List (List (List ℕ))) × (rows ≡ before ++ p.0 ∷ rest)
  unfolding Reached
  next-among s xs [] [] s1 s2 ys zs p a some b none = absurd (none-read (next_record cfg s [] [] xs) p (moved s s1 xs ys (Some p) a.0 a.1 some) (moved s s2 xs zs None b.0 b.1 none))
  next-among s xs [] (r ∷ rs) s1 s2 ys zs p a some b none =
      let same : b.0 ≡ p = one-read (next_record cfg s [] [] xs) b.0 p b.1 (moved s s1 xs ys (Some p) a.0 a.1 some) in
      let first : r ≡ p.0 = b.2 ∙ ap (λ (q : Read). q.0) same in
      (rs, λ i. first i ∷ rs)
  next-among s xs (x ∷ before) [] s1 s2 ys zs p a some b none = absurd (none-read (next_record cfg s [] [] xs) a.0 a.1 (moved s s2 xs zs None b.0 b.1 none))
  next-among s xs (x ∷ before) (r ∷ rs) s1 s2 ys zs p a some b none =
      let same : a.0 ≡ b.0 = one-read (next_record cfg s [] [] xs) a.0 b.0 a.1 b.1 in
      let first : r ≡ x = b.2 ∙ ap (λ (q : Read). q.0) (sym same) ∙ sym a.2 in
      let more = next-among b.0.1 b.0.2 before rs s1 s2 ys zs p (subst (λ (q : Read). Reached cfg q.1 q.2 before s1 ys) same a.3) some b.3 none in
      let rest = more.1 in
      (more.0, λ i. first i ∷ rest i)

  -- of two records one comes first, or they are the same
  pub next-or-next : (s : State) (xs : List ℕ) (before other : List (List (List ℕ))) (s1 t1 : State) (ys zs : List ℕ) (p q : Read) → Reached cfg s xs before s1 ys → next_record cfg s1 [] [] ys ≡ Some p →
      Reached cfg s xs other t1 zs → next_record cfg t1 [] [] zs ≡ Some q →
      ((before ≡ other) × (p ≡ q)) ⊎ (((rest : List (List (List ℕ))) × (other ≡ before ++ p.0 ∷ rest)) ⊎ ((rest : List (List (List ℕ))) × (before ≡ other ++ q.0 ∷ rest)))
  unfolding Reached
  next-or-next s xs [] [] s1 t1 ys zs p q a some b found =
      inl (refl, one-read (next_record cfg s [] [] xs) p q (moved s s1 xs ys (Some p) a.0 a.1 some) (moved s t1 xs zs (Some q) b.0 b.1 found))
  next-or-next s xs [] (o ∷ os) s1 t1 ys zs p q a some b found =
      let same : b.0 ≡ p = one-read (next_record cfg s [] [] xs) b.0 p b.1 (moved s s1 xs ys (Some p) a.0 a.1 some) in
      let first : o ≡ p.0 = b.2 ∙ ap (λ (r : Read). r.0) same in
      inr (inl (os, λ i. first i ∷ os))
  next-or-next s xs (x ∷ before) [] s1 t1 ys zs p q a some b found =
      let same : a.0 ≡ q = one-read (next_record cfg s [] [] xs) a.0 q a.1 (moved s t1 xs zs (Some q) b.0 b.1 found) in
      let first : x ≡ q.0 = a.2 ∙ ap (λ (r : Read). r.0) same in
      inr (inr (before, λ i. first i ∷ before))
  next-or-next s xs (x ∷ before) (o ∷ os) s1 t1 ys zs p q a some b found =
      let same : a.0 ≡ b.0 = one-read (next_record cfg s [] [] xs) a.0 b.0 a.1 b.1 in
      let first : x ≡ o = a.2 ∙ ap (λ (r : Read). r.0) same ∙ sym b.2 in
      longer x o before os p q first
      (next-or-next b.0.1 b.0.2 before os s1 t1 ys zs p q (subst (λ (r : Read). Reached cfg r.1 r.2 before s1 ys) same a.3) some b.3 found)
    where
      longer : (x o : List (List ℕ)) (before os : List (List (List ℕ))) (p q : Read) → x ≡ o →
          ((before ≡ os) × (p ≡ q)) ⊎ (((rest : List (List (List ℕ))) × (os ≡ before ++ p.0 ∷ rest)) ⊎ ((rest : List (List (List ℕ))) × (before ≡ os ++ q.0 ∷ rest))) →
          ((x ∷ before ≡ o ∷ os) × (p ≡ q)) ⊎ (((rest : List (List (List ℕ))) × (o ∷ os ≡ (x ∷ before) ++ p.0 ∷ rest)) ⊎ ((rest : List (List (List ℕ))) × (x ∷ before ≡ (o ∷ os) ++ q.0 ∷ rest)))
      longer x o before os p q first (inl same) = let rest = same.0 in inl ((λ i. first i ∷ rest i), same.1)
      longer x o before os p q first (inr (inl more)) = let rest = more.1 in inr (inl (more.0, λ i. sym first i ∷ rest i))
      longer x o before os p q first (inr (inr more)) = let rest = more.1 in inr (inr (more.0, λ i. first i ∷ rest i))

-- ---- records that may be shown

text-among : (before : List (List (List ℕ))) (fields : List (List ℕ)) (rest : List (List (List ℕ))) → All AllText (before ++ fields ∷ rest) → AllText fields
text-among [] fields rest all = All-head AllText fields rest all
text-among (x ∷ before) fields rest all = text-among before fields rest (All-tail AllText x (before ++ fields ∷ rest) all)

all-front : (P : List (List ℕ) → Type 0) (before : List (List (List ℕ))) (fields : List (List ℕ)) (rest : List (List (List ℕ))) → All P (before ++ fields ∷ rest) → All P (before ++ fields ∷ [])
all-front P [] fields rest all = All-cons P fields [] (All-head P fields rest all) (All-nil P)
all-front P (x ∷ before) fields rest all =
    All-cons P x (before ++ fields ∷ []) (All-head P x (before ++ fields ∷ rest) all) (all-front P before fields rest (All-tail P x (before ++ fields ∷ rest) all))

long-among : (before : List (List (List ℕ))) (fields : List (List ℕ)) (rest : List (List (List ℕ))) → AllAsLong (before ++ fields ∷ rest) → AllAsLong (before ++ fields ∷ [])
long-among [] fields rest all = All-nil (λ (f : List (List ℕ)). length f ≡ length fields)
long-among (x ∷ before) fields rest all = all-front (λ f. length f ≡ length x) before fields rest all

-- so a record among them is a text, and as long as the first
module _ (reading : Reading) (records before : List (List (List ℕ))) (fields : List (List ℕ)) (rest : List (List (List ℕ))) (are : records ≡ before ++ fields ∷ rest) (may : MayBeShown reading records) where
  is-text : AllText fields
  is-text = text-among before fields rest (subst (All AllText) are may.texts)

  is-long : reading.strict ≡ true → AllAsLong (before ++ fields ∷ [])
  is-long strict = long-among before fields rest (subst AllAsLong are (may.long strict))

module _ (reading : Reading) (input : List ℕ) where
  abbrev text : List ℕ
  text = strip_bom input

  -- ---- rows, or why there are none

  pub one-rows : (m n : ℕ) (rows other : List (List (List ℕ))) → AreRowsOf reading input m rows → AreRowsOf reading input n other → (m ≡ n) × (rows ≡ other)
  one-rows m n rows other a b =
      let same : a.records ≡ b.records = one-records (config_of reading) states.StartRecord text a.records b.records a.read.0 b.read.0 a.read.1 b.read.1 a.read.2 a.read.3 b.read.2 b.read.3 in
      let columns : m ≡ n = a.widest ∙ ap greatest_length same ∙ sym b.widest in
      (columns, a.shown ∙ (λ i. map (λ fields. with_empty_fields (columns i) (map (spelled reading) fields)) (same i)) ∙ sym b.shown)

  rows-or-bad : (m count : ℕ) (rows : List (List (List ℕ))) → AreRowsOf reading input m rows → HasBadRecord reading input count → ⊥
  rows-or-bad m count rows are bad =
      let next = bad.next in
      let more = next-among (config_of reading) states.StartRecord text bad.before are.records next.state are.read.0 next.rest are.read.1 next.next next.read next.found are.read.2 are.read.3 in
      bad.is_bad (subst AllText (sym next.fields_are) (is-text reading are.records bad.before next.next.0 more.0 more.1 are.may))

  rows-or-ragged : (m count fields first : ℕ) (rows : List (List (List ℕ))) → AreRowsOf reading input m rows → HasRaggedRecord reading input count fields first → ⊥
  rows-or-ragged m count fields first rows are ragged =
      let next = ragged.next in
      let more = next-among (config_of reading) states.StartRecord text ragged.before are.records next.state are.read.0 next.rest are.read.1 next.next next.read next.found are.read.2 are.read.3 in
      ragged.is_ragged (subst (λ f. AllAsLong (ragged.before ++ f ∷ [])) (sym next.fields_are) (is-long reading are.records ragged.before next.next.0 more.0 more.1 are.may ragged.strict))

  pub rows-or-unread : (m : ℕ) (rows : List (List (List ℕ))) (e : RowsError) → e ≢ Memory → AreRowsOf reading input m rows → IsUnread reading input e → ⊥
  rows-or-unread m rows (NotText count) some are why = rows-or-bad m count rows are why
  rows-or-unread m rows (Unclosed count) some are why = are.closed why.unclosed
  rows-or-unread m rows (Ragged count fields first) some are why = rows-or-ragged m count fields first rows are why
  rows-or-unread m rows Memory some are why = some refl

  one-bad : (c d : ℕ) → HasBadRecord reading input c → HasBadRecord reading input d → c ≡ d
  one-bad c d a b = elim (next-or-next (config_of reading) states.StartRecord text a.before b.before a.next.state b.next.state a.next.rest b.next.rest a.next.next b.next.next a.next.read a.next.found b.next.read b.next.found) [
    | inl same ↦ a.counted ∙ ap length same.0 ∙ sym b.counted
    | inr (inl more) ↦ absurd (a.is_bad (subst AllText (sym a.next.fields_are) (is-text reading b.before a.before a.next.next.0 more.0 more.1 b.next.may)))
    | inr (inr more) ↦ absurd (b.is_bad (subst AllText (sym b.next.fields_are) (is-text reading a.before b.before b.next.next.0 more.0 more.1 a.next.may)))
  ]

  bad-or-ragged : (c d fields first : ℕ) → HasBadRecord reading input c → HasRaggedRecord reading input d fields first → ⊥
  bad-or-ragged c d fields first a b = elim (next-or-next (config_of reading) states.StartRecord text a.before b.before a.next.state b.next.state a.next.rest b.next.rest a.next.next b.next.next a.next.read a.next.found b.next.read b.next.found) [
    | inl same ↦ a.is_bad (subst AllText (b.next.fields_are ∙ ap (λ (p : Read). p.0) (sym same.1) ∙ sym a.next.fields_are) b.is_text)
    | inr (inl more) ↦ a.is_bad (subst AllText (sym a.next.fields_are) (is-text reading b.before a.before a.next.next.0 more.0 more.1 b.next.may))
    | inr (inr more) ↦ b.is_ragged (subst (λ f. AllAsLong (b.before ++ f ∷ [])) (sym b.next.fields_are) (is-long reading a.before b.before b.next.next.0 more.0 more.1 a.next.may b.strict))
  ]

  one-ragged : (c d m n x y : ℕ) → HasRaggedRecord reading input c m x → HasRaggedRecord reading input d n y → Ragged c m x ≡ Ragged d n y
  one-ragged c d m n x y a b = elim (next-or-next (config_of reading) states.StartRecord text a.before b.before a.next.state b.next.state a.next.rest b.next.rest a.next.next b.next.next a.next.read a.next.found b.next.read b.next.found) [
    | inl same ↦ (let count : c ≡ d = a.counted ∙ ap length same.0 ∙ sym b.counted in
        let fields : a.fields ≡ b.fields = a.next.fields_are ∙ ap (λ (p : Read). p.0) same.1 ∙ sym b.next.fields_are in
        let many : m ≡ n = a.fields_counted ∙ ap length fields ∙ sym b.fields_counted in
        let first : x ≡ y = a.first_counted ∙ ap first_length same.0 ∙ sym b.first_counted in
        λ i. Ragged (count i) (many i) (first i))
    | inr (inl more) ↦ absurd (a.is_ragged (subst (λ f. AllAsLong (a.before ++ f ∷ [])) (sym a.next.fields_are) (is-long reading b.before a.before a.next.next.0 more.0 more.1 b.next.may a.strict)))
    | inr (inr more) ↦ absurd (b.is_ragged (subst (λ f. AllAsLong (b.before ++ f ∷ [])) (sym b.next.fields_are) (is-long reading a.before b.before b.next.next.0 more.0 more.1 a.next.may b.strict)))
  ]

  -- a quote that is not closed begins in the text
  quote-within : (c : ℕ) (u : IsUnclosedFrom reading input c) → u.before ≤ length text
  quote-within c u = elim (cases_lt (length text) u.before) [
    | inl past ↦ absurd (false≢true (sym u.outside
        ∙ ap (λ bytes. is_quoted (state_after (config_of reading) states.StartRecord bytes)) (take_all u.before text (omega (arith, past))) ∙ ap is_quoted u.unclosed))
    | inr within ↦ within
  ]

  quote-first : (c d : ℕ) (u : IsUnclosedFrom reading input c) (v : IsUnclosedFrom reading input d) → u.before < v.before → ⊥
  quote-first c d u v before = false≢true (sym v.outside ∙ u.inside v.before before (quote-within d v))

  one-unclosed : (c d : ℕ) → IsUnclosedFrom reading input c → IsUnclosedFrom reading input d → c ≡ d
  one-unclosed c d u v = elim (cases_lt u.before v.before) [
    | inl first ↦ absurd (quote-first c d u v first)
    | inr from ↦ elim (cases_lt v.before u.before) [
      | inl first ↦ absurd (quote-first d c v u first)
      | inr to ↦ (let one = u.mark in let other = v.mark in omega (arith, from, to, one, other))
    ]
  ]

  -- there is one reason why there are none
  pub one-unread : (e f : RowsError) → e ≢ Memory → f ≢ Memory → IsUnread reading input e → IsUnread reading input f → e ≡ f
  one-unread Memory f some other a b = absurd (some refl)
  one-unread e Memory some other a b = absurd (other refl)
  one-unread (NotText c) (NotText d) some other a b = ap NotText (one-bad c d a b)
  one-unread (NotText c) (Unclosed d) some other a b = absurd (a.next.closed b.unclosed)
  one-unread (NotText c) (Ragged d n y) some other a b = absurd (bad-or-ragged c d n y a b)
  one-unread (Unclosed c) (NotText d) some other a b = absurd (b.next.closed a.unclosed)
  one-unread (Unclosed c) (Unclosed d) some other a b = ap Unclosed (one-unclosed c d a b)
  one-unread (Unclosed c) (Ragged d n y) some other a b = absurd (b.next.closed a.unclosed)
  one-unread (Ragged c m x) (NotText d) some other a b = absurd (bad-or-ragged d c m x b a)
  one-unread (Ragged c m x) (Unclosed d) some other a b = absurd (a.next.closed b.unclosed)
  one-unread (Ragged c m x) (Ragged d n y) some other a b = one-ragged c d m n x y a b

-- ---- fields as they are shown

one-zip : {A B : Type 0} (R : A → B → Type 0) → ((x : A) (y z : B) → R x y → R x z → y ≡ z) → (xs : List A) (ys zs : List B) → AllZip R xs ys → AllZip R xs zs → ys ≡ zs
one-zip R one [] [] [] a b = refl
one-zip R one [] [] (z ∷ zs) a b = absurd b
one-zip R one [] (y ∷ ys) zs a b = absurd a
one-zip R one (x ∷ xs) [] zs a b = absurd a
one-zip R one (x ∷ xs) (y ∷ ys) [] a b = absurd b
one-zip R one (x ∷ xs) (y ∷ ys) (z ∷ zs) a b =
    let first = one x y z a.0 b.0 in
    let rest = one-zip R one xs ys zs a.1 b.1 in
    λ i. first i ∷ rest i

module _ (columns : ℕ) where
  shorter : (line shown other : List ℕ) (a : IsShortened columns line shown) (b : IsShortened columns line other) → a.count < b.count → ⊥
  shorter line shown other a b less = let fits = b.fits (a.count + 1) (omega arith) (omega (arith, less)) in let more = a.next in omega (arith, fits, more)

  one-line : (line shown other : List ℕ) → IsCutLine columns line shown → IsCutLine columns line other → shown ≡ other
  one-line line shown other (inl a) (inl b) = a.1 ∙ sym b.1
  one-line line shown other (inl a) (inr b) = let narrow = a.0 in let wide = b.wide in absurd (omega (arith, narrow, wide))
  one-line line shown other (inr a) (inl b) = let narrow = b.0 in let wide = a.wide in absurd (omega (arith, narrow, wide))
  one-line line shown other (inr a) (inr b) = elim (cases_lt a.count b.count) [
    | inl less ↦ absurd (shorter line shown other a b less)
    | inr from ↦ elim (cases_lt b.count a.count) [
      | inl less ↦ absurd (shorter line other shown b a less)
      | inr to ↦ a.is ∙ ap (λ n. shortened n line) (omega (arith, from, to)) ∙ sym b.is
    ]
  ]

  one-text : (text shown other : List ℕ) → IsCut columns text shown → IsCut columns text other → shown ≡ other
  one-text text shown other a b = a.joined ∙ ap (join_with_byte 10) (one-zip (IsCutLine columns) one-line (split_lines text) a.lines b.lines a.each b.each) ∙ sym b.joined

  one-row : (row shown other : List (List ℕ)) → AllZip (IsCut columns) row shown → AllZip (IsCut columns) row other → shown ≡ other
  one-row = one-zip (IsCut columns) one-text

pub one-cut : (cut : Option ℕ) (rows shown other : List (List (List ℕ))) → AreCut cut rows shown → AreCut cut rows other → shown ≡ other
one-cut None rows shown other a b = a ∙ sym b
one-cut (Some columns) rows shown other a b = one-zip (AllZip (IsCut columns)) (one-row columns) rows shown other a b

-- ---- the table of a text

module _ (request : Request) (input : List ℕ) where
  -- what two tables of it have
  pub record AreOneTable (t u : IsCsvTable request input) : Type 0 where
    pub columns : t.columns ≡ u.columns
    pub rows : t.rows ≡ u.rows
    pub shown : t.shown ≡ u.shown

  pub one-table : (t u : IsCsvTable request input) → AreOneTable t u
  one-table t u =
      let same = one-rows request.reading input t.columns u.columns t.rows u.rows t.are u.are in record {
        columns = same.0;
        rows = same.1;
        shown = one-cut request.cut u.rows t.shown u.shown (subst (λ rows. AreCut request.cut rows t.shown) same.1 t.cut) u.cut;
      }

  pub table-or-hidden : (t : IsCsvTable request input) (p : Position) → HidesAt request input p → ⊥
  table-or-hidden t p hides =
      t.seen hides.forbidden p (subst (λ rows. IsFieldHidden request.spans.items rows p) (one-rows request.reading input hides.columns t.columns hides.rows t.rows hides.are t.are).1 hides.first.it)

  missing-same : (m n : ℕ) (rows other : List (List (List ℕ))) → AreRowsOf request.reading input m rows → AreRowsOf request.reading input n other →
      first_missing (first_row rows) request.columns.items ≡ first_missing (first_row other) request.columns.items
  missing-same m n rows other a b = ap (λ rows. first_missing (first_row rows) request.columns.items) (one-rows request.reading input m n rows other a b).1

  pub table-or-no-column : (t : IsCsvTable request input) (entry : ℕ) → HasNoColumn request input entry → ⊥
  table-or-no-column t entry none =
      let same = missing-same t.columns none.columns t.rows none.rows t.are none.are in
      let named = t.named in
      let missing = none.missing in
      cc (same, named, missing)

  pub hidden-or-no-column : (p : Position) (entry : ℕ) → HidesAt request input p → HasNoColumn request input entry → ⊥
  hidden-or-no-column p entry hides none =
      let same = missing-same hides.columns none.columns hides.rows none.rows hides.are none.are in
      let named = hides.named in
      let missing = none.missing in
      cc (same, named, missing)

  pub one-hidden : (p q : Position) → HidesAt request input p → HidesAt request input q → p ≡ q
  one-hidden p q a b =
      one-first (IsFieldHidden request.spans.items b.rows) p q
      (subst (λ rows. IsFirstPosition (IsFieldHidden request.spans.items rows) p) (one-rows request.reading input a.columns b.columns a.rows b.rows a.are b.are).1 a.first) b.first

  pub one-no-column : (m n : ℕ) → HasNoColumn request input m → HasNoColumn request input n → m ≡ n
  one-no-column m n a b = same_Some m n (sym a.missing ∙ missing-same a.columns b.columns a.rows b.rows a.are b.are ∙ b.missing)
