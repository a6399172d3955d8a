-- Which bytes of a text stand between quotes, by contexts and by the states of the machine that reads it.
use Rattle.std.proofs.Common.{inl, inr, ◌≡◌, ◌≢◌, ◌∙◌, ◌+◌, ◌<◌, ◌≤◌, ◌-◌, ◌^◌, ℕ, suc, List, [], ◌∷◌, ◌++◌, Bool, true, false, cond, not, ap, arith, drop, get_or, length, refl, subst, sym, take}
use Rattle.std.specs.Prelude.{◌==◌, ◌||◌, ◌↔◌, IsTrue}
use Rattle.std.specs.Cmp.Lexicographic.{pointwise}
use Rattle.std.specs.List.{list_any, position_or_len}
use Rattle.std.proofs.lemmas.List.{drop_more, length-drop, length-take, take-append-drop, take_all, take_more}
use Rattle.std.proofs.lemmas.List.Sums.{passes_at_first}
use Rattle.std.proofs.lemmas.Bool.{cases_lt}
use Rattle.std.proofs.lemmas.Bool.Decides.{nat_tests}
use Rattle.csv.specs.Machine.{step}
use Rattle.csv.specs.Reading.{strip_bom}
use Rattle.csv.specs.declared.parser.Config.{Config}
use Rattle.csv.specs.declared.parser.State.{State}
use Rattle.csv.specs.declared.parser.State.TheVariants as states
use Rattle.papergrid_csv.specs.Rows.{IsUnclosed, IsUnclosedFrom, config_by, config_of, is_quoted, state_after}
use Rattle.papergrid_csv.specs.ForProofs.Contexts.{IsLastOutside, is_between, context_after, context_behind, plain_context}
use Rattle.papergrid_csv.specs.declared.quotes.Context.{Context}
use Rattle.papergrid_csv.specs.declared.quotes.Context.TheVariants.{Field, Quote, Quoted, Start}
use Rattle.papergrid_csv.specs.declared.reading.Format.{Format}
use Rattle.papergrid_csv.specs.declared.reading.Format.TheVariants.{Csv, Tsv}
use Rattle.papergrid_csv.specs.declared.reading.Reading.{Reading}

-- where a byte stands in a state; in the states after an escape and in a comment there is none
abbrev pub context_of : State → Context
context_of states.StartRecord = Start
context_of states.StartField = Start
context_of states.AfterCr = Start
context_of states.InField = Field
context_of states.InQuoted = Quoted
context_of states.AfterQuote = Quote
context_of states.InEscape = Quoted
context_of states.InComment = Field

-- a state that a text without escapes and comments may be in
abbrev IsUsual : State → Type 0
IsUsual s = (s ≢ states.InEscape) × (s ≢ states.InComment)

module _ (delimiter : ℕ) where
  abbrev config : Config
  config = config_by (Csv delimiter)

  one-step : (s : State) (byte : ℕ) → IsUsual s → (context_of (step config s byte).0 ≡ context_after delimiter (context_of s) byte) × IsUsual (step config s byte).0
  one-step states.StartRecord byte usual = grind (arith, nat_tests)
  one-step states.StartField byte usual = grind (arith, nat_tests)
  one-step states.InField byte usual = grind (arith, nat_tests)
  one-step states.InQuoted byte usual = grind (arith, nat_tests)
  one-step states.AfterQuote byte usual = grind (arith, nat_tests)
  one-step states.InEscape byte usual = absurd (usual.0 refl)
  one-step states.InComment byte usual = absurd (usual.1 refl)
  one-step states.AfterCr byte usual = grind (arith, nat_tests)

  all-steps : (s : State) (bytes : List ℕ) → IsUsual s → (context_of (state_after config s bytes) ≡ context_behind delimiter (context_of s) bytes) × IsUsual (state_after config s bytes)
  unfolding state_after context_behind
  all-steps s [] usual = (refl, usual)
  all-steps s (byte ∷ bytes) usual =
      let first = one-step s byte usual in
      let rest = all-steps (step config s byte).0 bytes first.1 in
      (rest.0 ∙ ap (λ p. context_behind delimiter p bytes) first.0, rest.1)

  is-quoted : (s : State) → IsUsual s → context_of s ≡ Quoted → s ≡ states.InQuoted
  is-quoted states.StartRecord usual is = cc
  is-quoted states.StartField usual is = cc
  is-quoted states.InField usual is = cc
  is-quoted states.InQuoted usual is = refl
  is-quoted states.AfterQuote usual is = cc
  is-quoted states.InEscape usual is = absurd (usual.0 refl)
  is-quoted states.InComment usual is = cc
  is-quoted states.AfterCr usual is = cc

  usual-start : IsUsual states.StartRecord
  usual-start = (λ is. cc, λ is. cc)

  -- a text ends between quotes by its contexts where it does by its states
  ends-alike : (bytes : List ℕ) → (context_behind delimiter Start bytes ≡ Quoted) ↔ (state_after config states.StartRecord bytes ≡ states.InQuoted)
  ends-alike bytes =
      let all = all-steps states.StartRecord bytes usual-start in (
        (λ is. is-quoted (state_after config states.StartRecord bytes) all.1 (all.0 ∙ is)),
        (λ is. sym all.0 ∙ ap context_of is),
      )

  same-quoted : (s : State) → IsUsual s → is_quoted s ≡ is_between (context_of s)
  same-quoted states.StartRecord usual = refl
  same-quoted states.StartField usual = refl
  same-quoted states.InField usual = refl
  same-quoted states.InQuoted usual = refl
  same-quoted states.AfterQuote usual = refl
  same-quoted states.InEscape usual = absurd (usual.0 refl)
  same-quoted states.InComment usual = refl
  same-quoted states.AfterCr usual = refl

  -- it ends between quotes, or behind one, by both
  quoted-alike : (bytes : List ℕ) → is_quoted (state_after config states.StartRecord bytes) ≡ is_between (context_behind delimiter Start bytes)
  quoted-alike bytes =
      let all = all-steps states.StartRecord bytes usual-start in
      same-quoted (state_after config states.StartRecord bytes) all.1 ∙ ap is_between all.0

  -- ---- a text without quotes

  no-quote : (context : Context) (bytes : List ℕ) → list_any (λ b. b == 34) bytes ≡ false → context ≢ Quoted → context_behind delimiter context bytes ≢ Quoted
  unfolding context_behind
  no-quote context [] none other = other
  no-quote context (byte ∷ bytes) none other =
      let first : (byte == 34) ≡ false = grind (arith, nat_tests) in
      let rest : list_any (λ b. b == 34) bytes ≡ false = grind (arith, nat_tests) in
      no-quote (context_after delimiter context byte) bytes rest (after context first other)
    where
      after : (context : Context) → (byte == 34) ≡ false → context ≢ Quoted → context_after delimiter context byte ≢ Quoted
      after Start first other = λ is. grind (arith, nat_tests)
      after Field first other = λ is. grind (arith, nat_tests)
      after Quoted first other = absurd (other refl)
      after Quote first other = λ is. grind (arith, nat_tests)

-- ---- a byte order mark

abbrev mark : List ℕ
mark = 0xEF ∷ 0xBB ∷ 0xBF ∷ []

pub after-mark : (input rest : List ℕ) → pointwise (λ a b. a == b) (take 3 input) mark ≡ true → rest ≡ drop 3 input → rest ≡ strip_bom input
unfolding strip_bom
after-mark [] rest is from = cc
after-mark (a ∷ []) rest is from = grind (arith, nat_tests)
after-mark (a ∷ b ∷ []) rest is from = grind (arith, nat_tests)
after-mark (a ∷ b ∷ c ∷ more) rest is from = grind (arith, nat_tests)

pub without-mark : (input : List ℕ) → pointwise (λ a b. a == b) (take 3 input) mark ≡ false → input ≡ strip_bom input
unfolding strip_bom
without-mark [] none = refl
without-mark (a ∷ []) none = refl
without-mark (a ∷ b ∷ []) none = refl
without-mark (a ∷ b ∷ c ∷ more) none = grind (arith, nat_tests)

pub short-unmarked : (input text : List ℕ) → text ≡ strip_bom input → length text ≤ length input
unfolding strip_bom
short-unmarked [] text is = rw is (omega arith)
short-unmarked (a ∷ []) text is = rw is (omega arith)
short-unmarked (a ∷ b ∷ []) text is = rw is (omega arith)
short-unmarked (a ∷ b ∷ c ∷ rest) text is = grind (arith, nat_tests)

-- ---- what is told

-- by the contexts of a text without its mark, of a format with this byte between fields
module _ (reading : Reading) (delimiter : ℕ) (input text : List ℕ) (is : reading.format ≡ Csv delimiter) (stripped : text ≡ strip_bom input) where
  pub tells-quoted : (told : Bool) → IsTrue told ↔ (context_behind delimiter Start text ≡ Quoted) → IsTrue told ↔ IsUnclosed reading input
  tells-quoted told tells =
      let alike = ends-alike delimiter (strip_bom input) in
      let by = λ (f : Format). state_after (config_by f) states.StartRecord (strip_bom input) ≡ states.InQuoted in
      let at = λ (t : List ℕ). context_behind delimiter Start t ≡ Quoted in (
        (λ yes. subst by (sym is) (alike.0 (subst at stripped (tells.0 yes)))),
        (λ unclosed. tells.1 (subst at (sym stripped) (alike.1 (subst by is unclosed)))),
      )

  by-contexts : (k : ℕ) (v : Bool) → is_between (context_behind delimiter Start (take k text)) ≡ v →
      is_quoted (state_after (config_of reading) states.StartRecord (take k (strip_bom input))) ≡ v
  by-contexts k v so =
      ap (λ f. is_quoted (state_after (config_by f) states.StartRecord (take k (strip_bom input)))) is
      ∙ quoted-alike delimiter (take k (strip_bom input)) ∙ ap (λ t. is_between (context_behind delimiter Start (take k t))) (sym stripped) ∙ so

  pub unclosed-from : (last count : ℕ) → length text ≤ length input → count ≡ (length input - length text) + last → IsUnclosed reading input → IsLastOutside delimiter text last → IsUnclosedFrom reading input count
  unclosed-from last count shorter counted unclosed found =
      let long : length text ≡ length (strip_bom input) = ap length stripped in
      record {
        unclosed = unclosed;
        before = last;
        mark = omega arith;
        outside = by-contexts last false found.outside;
        inside = λ k past within. by-contexts k true (found.inside k past (omega arith));
      }

-- ---- a text between tabs

abbrev IsUnquoted : State → Type 0
IsUnquoted s = (s ≢ states.InQuoted) × (s ≢ states.InEscape)

one-unquoted : (s : State) (byte : ℕ) → IsUnquoted s → IsUnquoted (step (config_by Tsv) s byte).0
one-unquoted states.StartRecord byte so = (λ is. grind (arith, nat_tests), λ is. grind (arith, nat_tests))
one-unquoted states.StartField byte so = (λ is. grind (arith, nat_tests), λ is. grind (arith, nat_tests))
one-unquoted states.InField byte so = (λ is. grind (arith, nat_tests), λ is. grind (arith, nat_tests))
one-unquoted states.InQuoted byte so = absurd (so.0 refl)
one-unquoted states.AfterQuote byte so = (λ is. grind (arith, nat_tests), λ is. grind (arith, nat_tests))
one-unquoted states.InEscape byte so = absurd (so.1 refl)
one-unquoted states.InComment byte so = (λ is. grind (arith, nat_tests), λ is. grind (arith, nat_tests))
one-unquoted states.AfterCr byte so = (λ is. grind (arith, nat_tests), λ is. grind (arith, nat_tests))

all-unquoted : (s : State) (bytes : List ℕ) → IsUnquoted s → IsUnquoted (state_after (config_by Tsv) s bytes)
unfolding state_after
all-unquoted s [] so = so
all-unquoted s (byte ∷ bytes) so = all-unquoted (step (config_by Tsv) s byte).0 bytes (one-unquoted s byte so)

pub tsv-closed : (reading : Reading) (input : List ℕ) → reading.format ≡ Tsv → IsUnclosed reading input → ⊥
tsv-closed reading input is unclosed =
    let by = λ (f : Format). state_after (config_by f) states.StartRecord (strip_bom input) ≡ states.InQuoted in
    (all-unquoted states.StartRecord (strip_bom input) (λ same. cc, λ same. cc)).0 (subst by is unclosed)

-- ---- byte by byte

pub context-start : (delimiter : ℕ) → Start ≡ context_behind delimiter Start []
unfolding context_behind
context-start delimiter = refl

context-more : (delimiter : ℕ) (context : Context) (bytes : List ℕ) (byte : ℕ) → context_behind delimiter context (bytes ++ byte ∷ []) ≡ context_after delimiter (context_behind delimiter context bytes) byte
unfolding context_behind
context-more delimiter context [] byte = refl
context-more delimiter context (b ∷ bytes) byte = context-more delimiter (context_after delimiter context b) bytes byte

-- the context behind one more byte of a text
pub context-next : (delimiter : ℕ) (text : List ℕ) (at : ℕ) (context : Context) → context ≡ context_behind delimiter Start (take at text) → at < length text →
    context_after delimiter context (get_or text at 0) ≡ context_behind delimiter Start (take (at + 1) text)
context-next delimiter text at context is within =
    ap (λ p. context_after delimiter p (get_or text at 0)) is ∙ sym (context-more delimiter Start (take at text) (get_or text at 0)) ∙ sym (ap (context_behind delimiter Start) (take_more text at 0 within))

-- ---- the last context outside of quotes

module _ (delimiter : ℕ) (text : List ℕ) where
  abbrev between-at : ℕ → Bool
  between-at k = is_between (context_behind delimiter Start (take k text))

  pub outside-first : between-at 0 ≡ false
  unfolding context_behind
  outside-first = refl

  -- of one more byte, which stands in this context
  module _ (context : Context) (at last next : ℕ) (is : context ≡ context_behind delimiter Start (take at text)) where
    pub moves : is_between context ≡ false → next ≡ at → (between-at next ≡ false) × ((k : ℕ) → next < k → k < at + 1 → between-at k ≡ true)
    moves outside moved = (ap between-at moved ∙ ap is_between (sym is) ∙ outside, λ k past within. absurd (omega arith))

    pub stays : is_between context ≡ true → next ≡ last → between-at last ≡ false → ((k : ℕ) → last < k → k < at → between-at k ≡ true) →
        (between-at next ≡ false) × ((k : ℕ) → next < k → k < at + 1 → between-at k ≡ true)
    stays between kept outside inside = (
      ap between-at kept ∙ outside,
      λ k past within. elim (cases_lt k at) [
        | inl before ↦ inside k (omega arith) before
        | inr behind ↦ let same : k ≡ at = omega arith in ap between-at same ∙ ap is_between (sym is) ∙ between
      ],
    )

  -- of a text that ends between quotes
  pub last-of : (at last : ℕ) → context_behind delimiter Start text ≡ Quoted → length text ≤ at → between-at last ≡ false → ((k : ℕ) → last < k → k < at → between-at k ≡ true) →
      IsLastOutside delimiter text last
  last-of at last quoted long outside inside = record {
    outside = outside;
    inside = λ k past within. elim (cases_lt k (length text)) [
      | inl before ↦ inside k past (omega arith)
      | inr behind ↦ ap (λ t. is_between (context_behind delimiter Start t)) (take_all k text behind) ∙ ap is_between quoted
    ];
  }

-- ---- from quote to quote

abbrev pub quote-at : List ℕ → ℕ
quote-at bs = position_or_len (λ b. b == 34) bs

pub none-before : (bs : List ℕ) → list_any (λ b. b == 34) (take (quote-at bs) bs) ≡ false
none-before [] = refl
none-before (b ∷ bs) = by (b == 34) refl (none-before bs)
  where
    by : (v : Bool) → (b == 34) ≡ v → list_any (λ b. b == 34) (take (quote-at bs) bs) ≡ false → list_any (λ b. b == 34) (take (cond (not (b == 34)) (1 + quote-at bs) 0) (b ∷ bs)) ≡ false
    by true is more = ap (λ v. list_any (λ b. b == 34) (take (cond (not v) (1 + quote-at bs) 0) (b ∷ bs))) is
    by false is more =
        let next : 1 + quote-at bs ≡ suc (quote-at bs) = omega arith in
        ap (λ v. list_any (λ b. b == 34) (take (cond (not v) (1 + quote-at bs) 0) (b ∷ bs))) is ∙ ap (λ k. list_any (λ b. b == 34) (take k (b ∷ bs))) next
        ∙ ap (λ v. v || list_any (λ b. b == 34) (take (quote-at bs) bs)) is ∙ more

pub none-at_all : (bs : List ℕ) (at : ℕ) → at ≡ quote-at bs → length bs ≤ at → list_any (λ b. b == 34) bs ≡ false
none-at_all bs at is past = ap (list_any (λ b. b == 34)) (sym (take_all (quote-at bs) bs (omega arith))) ∙ none-before bs

quote-found : (bs : List ℕ) → quote-at bs < length bs → bs ≡ take (quote-at bs) bs ++ (34 ∷ drop (quote-at bs + 1) bs)
quote-found bs within =
    let found : get_or bs (quote-at bs) 0 ≡ 34 = let passes = passes_at_first (λ b. b == 34) bs 0 within in grind (arith, nat_tests) in
    sym (take-append-drop (quote-at bs) bs) ∙ ap (λ t. take (quote-at bs) bs ++ t) (drop_more bs (quote-at bs) 0 within) ∙ ap (λ c. take (quote-at bs) bs ++ (c ∷ drop (quote-at bs + 1) bs)) found

context-append : (delimiter : ℕ) (context : Context) (xs ys : List ℕ) → context_behind delimiter context (xs ++ ys) ≡ context_behind delimiter (context_behind delimiter context xs) ys
unfolding context_behind
context-append delimiter context [] ys = refl
context-append delimiter context (x ∷ xs) ys = context-append delimiter (context_after delimiter context x) xs ys

stays-quoted : (delimiter : ℕ) (bs : List ℕ) → list_any (λ b. b == 34) bs ≡ false → Quoted ≡ context_behind delimiter Quoted bs
unfolding context_behind
stays-quoted delimiter [] none = refl
stays-quoted delimiter (b ∷ bs) none =
    let first : (b == 34) ≡ false = grind (arith, nat_tests) in
    let rest : list_any (λ b. b == 34) bs ≡ false = grind (arith, nat_tests) in
    stays-quoted delimiter bs rest ∙ ap (λ v. context_behind delimiter (cond v Quote Quoted) bs) (sym first)

pub quoted-stays : (delimiter : ℕ) (context : Context) (bs : List ℕ) → list_any (λ b. b == 34) bs ≡ false → context ≡ Quoted → context ≡ context_behind delimiter context bs
quoted-stays delimiter context bs none is = is ∙ stays-quoted delimiter bs none ∙ ap (λ p. context_behind delimiter p bs) (sym is)

pub context-kept : (delimiter : ℕ) (context : Context) (bs : List ℕ) → length bs ≡ 0 → context ≡ context_behind delimiter context bs
unfolding context_behind
context-kept delimiter context [] none = refl
context-kept delimiter context (b ∷ bs) none = absurd (omega arith)

plain-after : (delimiter : ℕ) (context : Context) (byte : ℕ) → context ≢ Quoted → (byte == 34) ≡ false → plain_context delimiter byte ≡ context_after delimiter context byte
plain-after delimiter Start byte other is = rw is refl
plain-after delimiter Field byte other is = refl
plain-after delimiter Quoted byte other is = absurd (other refl)
plain-after delimiter Quote byte other is = rw is refl

any-last : (xs : List ℕ) (b : ℕ) → list_any (λ b. b == 34) (xs ++ b ∷ []) ≡ false → (list_any (λ b. b == 34) xs ≡ false) × ((b == 34) ≡ false)
any-last [] b none = (refl, grind (arith, nat_tests))
any-last (x ∷ xs) b none =
    let first : (x == 34) ≡ false = grind (arith, nat_tests) in
    let rest : list_any (λ b. b == 34) (xs ++ b ∷ []) ≡ false = grind (arith, nat_tests) in
    let more = any-last xs b rest in
    (ap (λ v. v || list_any (λ b. b == 34) xs) first ∙ more.0, more.1)

pub past-last : (delimiter : ℕ) (context : Context) (bs : List ℕ) (last : ℕ) → list_any (λ b. b == 34) bs ≡ false → context ≢ Quoted → 0 < length bs → last ≡ get_or bs (length bs - 1) 0 →
    plain_context delimiter last ≡ context_behind delimiter context bs
past-last delimiter context bs last none other some is =
    let k : ℕ = length bs - 1 in
    let whole : bs ≡ take k bs ++ last ∷ [] =
    sym (take_all (k + 1) bs (omega arith)) ∙ take_more bs k 0 (omega arith) ∙ ap (λ c. take k bs ++ c ∷ []) (sym is) in
    let parts = any-last (take k bs) last (sym (ap (list_any (λ b. b == 34)) whole) ∙ none) in
    plain-after delimiter (context_behind delimiter context (take k bs)) last (no-quote delimiter context (take k bs) parts.0 other) parts.1
    ∙ sym (context-more delimiter context (take k bs) last) ∙ sym (ap (context_behind delimiter context) whole)

step-34 : (delimiter : ℕ) (p : Context) (left : List ℕ) → context_behind delimiter p (34 ∷ left) ≡ context_behind delimiter (context_after delimiter p 34) left
unfolding context_behind
step-34 delimiter p left = refl

pub quote-next : (delimiter : ℕ) (rest : List ℕ) (context before next : Context) (left : List ℕ) (at : ℕ) → at ≡ quote-at rest → at < length rest → left ≡ take (length rest - (at + 1)) (drop (at + 1) rest) →
    before ≡ context_behind delimiter context (take at rest) → next ≡ context_after delimiter before 34 → context_behind delimiter context rest ≡ context_behind delimiter next left
quote-next delimiter rest context before next left at is within left_is before_is next_is =
    let long = length-drop (at + 1) rest in
    let whole : left ≡ drop (at + 1) rest = left_is ∙ take_all (length rest - (at + 1)) (drop (at + 1) rest) (omega arith) in
    let split : rest ≡ take at rest ++ (34 ∷ left) =
    quote-found rest (omega arith) ∙ ap (λ k. take k rest ++ (34 ∷ drop (k + 1) rest)) (sym is) ∙ ap (λ t. take at rest ++ (34 ∷ t)) (sym whole) in
    ap (context_behind delimiter context) split ∙ context-append delimiter context (take at rest) (34 ∷ left) ∙ ap (λ p. context_behind delimiter p (34 ∷ left)) (sym before_is)
    ∙ step-34 delimiter before left ∙ ap (λ p. context_behind delimiter p left) (sym next_is)

pub left-short : (bs : List ℕ) (n k : ℕ) → length bs < 2 ^ 64 → length (take n (drop k bs)) < 2 ^ 64
left-short bs n k short =
    let first = length-take n (drop k bs) in
    let second = length-drop k bs in
    omega arith
