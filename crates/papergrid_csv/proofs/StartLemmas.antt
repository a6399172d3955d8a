-- Where a record of a text begins, by contexts and by the states of the machine that reads it.
use Rattle.std.proofs.Common.{◌≡◌, ◌≢◌, ◌∙◌, ◌⊎◌, ◌+◌, ◌-◌, ◌<◌, ◌≤◌, ℕ, suc, List, [], ◌∷◌, ◌++◌, Bool, None, Some, true, false, ap, arith, drop, get_or, inl, inr, length, refl, sym, take}
use Rattle.std.specs.Prelude.{◌==◌}
use Rattle.std.specs.List.{prefix_len}
use Rattle.std.proofs.lemmas.List.{drop_all, drop_more, length-append, length-drop, take_all}
use Rattle.std.proofs.lemmas.Bool.Decides.{nat_tests}
use Rattle.csv.specs.Machine.{Read, ends_at_end, field_after, fields_after, is_end, next_record, step}
use Rattle.csv.specs.declared.parser.Action.TheVariants as actions
use Rattle.csv.specs.Reading.{Reached, strip_bom}
use Rattle.csv.specs.declared.parser.State.{State}
use Rattle.csv.specs.declared.parser.State.TheVariants as states
use Rattle.csv.proofs.ReadFacts.{reached-more}
use Rattle.papergrid_csv.specs.Rows.{config_by, config_of}
use Rattle.papergrid_csv.specs.Starts.{HasNoRecord, IsRecordStart, after_line_ends, is_line_end}
use Rattle.papergrid_csv.specs.ForProofs.Contexts.{behind_record, ends_record, context_by}
use Rattle.papergrid_csv.specs.declared.quotes.Context.{Context}
use Rattle.papergrid_csv.specs.declared.quotes.Context.TheVariants.{Start}
use Rattle.papergrid_csv.specs.declared.reading.Format.{Format}
use Rattle.papergrid_csv.specs.declared.reading.Format.TheVariants.{Csv, Tsv}
use Rattle.papergrid_csv.specs.declared.reading.Reading.{Reading}
use Rattle.papergrid_csv.proofs.QuoteLemmas.{context_of}

-- ---- a record, to its end

-- a state within a record of a text
abbrev is_in : Format → State → Bool
is_in format states.StartField = true
is_in format states.InField = true
is_in (Csv delimiter) states.InQuoted = true
is_in (Csv delimiter) states.AfterQuote = true
is_in format s = false

-- a state before a record
abbrev pub is_before : State → Bool
is_before states.StartRecord = true
is_before states.AfterCr = true
is_before s = false

-- by one byte a record ends, or goes on
abbrev IsStep : Format → State → ℕ → Type 0
IsStep format s byte =
    (is_end (step (config_by format) s byte).1 ≡ ends_record format (context_of s) byte)
    × (ends_record format (context_of s) byte ≡ true → is_before (step (config_by format) s byte).0 ≡ true)
    × (ends_record format (context_of s) byte ≡ false → is_in format (step (config_by format) s byte).0 ≡ true)
    × (ends_record format (context_of s) byte ≡ false → context_of (step (config_by format) s byte).0 ≡ context_by format (context_of s) byte)

one-step : (format : Format) (s : State) (byte : ℕ) → is_in format s ≡ true → IsStep format s byte
one-step (Csv delimiter) states.StartField byte is = (grind (arith, nat_tests), λ e. grind (arith, nat_tests), λ e. grind (arith, nat_tests), λ e. grind (arith, nat_tests))
one-step (Csv delimiter) states.InField byte is = (grind (arith, nat_tests), λ e. grind (arith, nat_tests), λ e. grind (arith, nat_tests), λ e. grind (arith, nat_tests))
one-step (Csv delimiter) states.InQuoted byte is = (grind (arith, nat_tests), λ e. grind (arith, nat_tests), λ e. grind (arith, nat_tests), λ e. grind (arith, nat_tests))
one-step (Csv delimiter) states.AfterQuote byte is = (grind (arith, nat_tests), λ e. grind (arith, nat_tests), λ e. grind (arith, nat_tests), λ e. grind (arith, nat_tests))
one-step Tsv states.StartField byte is = (grind (arith, nat_tests), λ e. grind (arith, nat_tests), λ e. grind (arith, nat_tests), λ e. grind (arith, nat_tests))
one-step Tsv states.InField byte is = (grind (arith, nat_tests), λ e. grind (arith, nat_tests), λ e. grind (arith, nat_tests), λ e. grind (arith, nat_tests))
one-step Tsv states.InQuoted byte is = cc
one-step Tsv states.AfterQuote byte is = cc
one-step format states.StartRecord byte is = cc
one-step format states.InEscape byte is = cc
one-step format states.InComment byte is = cc
one-step format states.AfterCr byte is = cc

in-ends : (format : Format) (s : State) → is_in format s ≡ true → ends_at_end s ≡ true
in-ends format states.StartRecord is = cc
in-ends format states.StartField is = refl
in-ends format states.InField is = refl
in-ends format states.InQuoted is = refl
in-ends format states.AfterQuote is = refl
in-ends format states.InEscape is = refl
in-ends format states.InComment is = refl
in-ends format states.AfterCr is = cc

-- a record is read, and what is left stands behind it
abbrev IsReadTo : Format → State → List (List ℕ) → List ℕ → List ℕ → List ℕ → Type 0
IsReadTo format s fields field text rest =
    (p : Read) × (next_record (config_by format) s fields field text ≡ Some p) × (is_before p.1 ≡ true) × (p.2 ≡ rest)

read-to : (format : Format) (s : State) (fields : List (List ℕ)) (field text : List ℕ) → is_in format s ≡ true → IsReadTo format s fields field text (behind_record format (context_of s) text)
unfolding next_record behind_record
read-to format s fields field [] is = ((fields ++ field ∷ [], states.StartRecord, []), rw (in-ends format s is) refl, refl, refl)
read-to format s fields field (byte ∷ text) is = by (ends_record format (context_of s) byte) refl (λ goes_on. read-to format next fields_next field_next text goes_on)
  where
    one : IsStep format s byte
    one = one-step format s byte is

    next : State
    next = (step (config_by format) s byte).0

    fields_next : List (List ℕ)
    fields_next = fields_after (step (config_by format) s byte).1 fields field

    field_next : List ℕ
    field_next = field_after (step (config_by format) s byte).1 byte field

    by : (ends : Bool) → ends_record format (context_of s) byte ≡ ends → (is_in format next ≡ true → IsReadTo format next fields_next field_next text (behind_record format (context_of next) text)) →
        IsReadTo format s fields field (byte ∷ text) (behind_record format (context_of s) (byte ∷ text))
    by true ends more = ((fields_next, next, text), rw (one.0 ∙ ends) refl, one.1 ends, rw ends refl)
    by false ends more =
        let (p, found, before, left) = more (one.2 ends) in
        (p, rw (one.0 ∙ ends) found, before, rw ends (left ∙ ap (λ context. behind_record format context text) (one.3 ends)))

-- ---- line ends before a record

-- a text has only line ends left, or a record begins behind them
abbrev IsBehindEnds : Format → State → List ℕ → Type 0
IsBehindEnds format s text =
    ((after_line_ends text ≡ []) × (next_record (config_by format) s [] [] text ≡ None))
    ⊎ ((after_line_ends text ≢ []) × (next_record (config_by format) s [] [] text ≡ next_record (config_by format) states.StartField [] [] (after_line_ends text)))

-- a line end before a record changes nothing, and another byte is its first
one-before : (format : Format) (s : State) (byte : ℕ) → is_before s ≡ true →
    (is_line_end byte ≡ true → (step (config_by format) s byte ≡ (states.StartRecord, actions.Skip)))
    × (is_line_end byte ≡ false → (step (config_by format) s byte ≡ step (config_by format) states.StartField byte))
one-before (Csv delimiter) states.StartRecord byte is = (λ e. grind (arith, nat_tests), λ e. grind (arith, nat_tests))
one-before (Csv delimiter) states.AfterCr byte is = (λ e. grind (arith, nat_tests), λ e. grind (arith, nat_tests))
one-before Tsv states.StartRecord byte is = (λ e. grind (arith, nat_tests), λ e. grind (arith, nat_tests))
one-before Tsv states.AfterCr byte is = (λ e. grind (arith, nat_tests), λ e. grind (arith, nat_tests))
one-before format states.StartField byte is = cc
one-before format states.InField byte is = cc
one-before format states.InQuoted byte is = cc
one-before format states.AfterQuote byte is = cc
one-before format states.InEscape byte is = cc
one-before format states.InComment byte is = cc

before-ends : (s : State) → is_before s ≡ true → ends_at_end s ≡ false
before-ends states.StartRecord is = refl
before-ends states.AfterCr is = refl
before-ends states.StartField is = cc
before-ends states.InField is = cc
before-ends states.InQuoted is = cc
before-ends states.AfterQuote is = cc
before-ends states.InEscape is = cc
before-ends states.InComment is = cc

-- the first line end stands before the text without those
one-end : (byte : ℕ) (text : List ℕ) → is_line_end byte ≡ true → after_line_ends (byte ∷ text) ≡ after_line_ends text
one-end byte text is =
    let on : 1 + prefix_len is_line_end text ≡ suc (prefix_len is_line_end text) = omega arith in
    rw is (ap (λ n. drop n (byte ∷ text)) on)

behind-ends : (format : Format) (s : State) (text : List ℕ) → is_before s ≡ true → IsBehindEnds format s text
unfolding next_record
behind-ends format s [] is = inl (refl, rw (before-ends s is) refl)
behind-ends format s (byte ∷ text) is = by (is_line_end byte) refl (behind-ends format states.StartRecord text refl)
  where
    one : (is_line_end byte ≡ true → (step (config_by format) s byte ≡ (states.StartRecord, actions.Skip)))
        × (is_line_end byte ≡ false → (step (config_by format) s byte ≡ step (config_by format) states.StartField byte))
    one = one-before format s byte is

    by : (b : Bool) → is_line_end byte ≡ b → IsBehindEnds format states.StartRecord text → IsBehindEnds format s (byte ∷ text)
    by true e (inl none) = inl (one-end byte text e ∙ none.0, rw (one.0 e) none.1)
    by true e (inr some) =
        inr (
          (λ nothing. some.0 (sym (one-end byte text e) ∙ nothing)),
          rw (one.0 e) (some.1 ∙ sym (ap (next_record (config_by format) states.StartField [] []) (one-end byte text e))),
        )
    by false e more = inr (rw e (λ none. cc), rw (e, one.1 e) refl)

-- ---- the records before one

-- this is left of a text behind so many records, or there are fewer and nothing is left
pub record IsLeft (reading : Reading) (input : List ℕ) (count : ℕ) (left : List ℕ) : Type 0 where
  pub before : List (List (List ℕ))
  pub state : State
  pub rest : List ℕ
  pub read : Reached (config_of reading) states.StartRecord (strip_bom input) before state rest
  pub between : is_before state ≡ true
  pub is : left ≡ after_line_ends rest
  pub counted : (length before ≡ count) ⊎ ((length before < count) × (left ≡ []))

pub left-first : (reading : Reading) (input left : List ℕ) → left ≡ after_line_ends (strip_bom input) → IsLeft reading input 0 left
unfolding Reached
left-first reading input left is = record {
  before = [];
  state = states.StartRecord;
  rest = strip_bom input;
  read = (refl, refl);
  between = refl;
  is = is;
  counted = inl refl;
}

behind-none : (format : Format) → behind_record format Start [] ≡ []
unfolding behind_record
behind-none format = refl

pub left-next : (reading : Reading) (input : List ℕ) (count : ℕ) (left behind next : List ℕ) → IsLeft reading input count left → behind ≡ behind_record reading.format Start left → next ≡ after_line_ends behind →
    IsLeft reading input (count + 1) next
left-next reading input count left behind next so behind_is next_is =
    elim (behind-ends reading.format so.state so.rest so.between) [
      | inl none ↦
          let nothing : left ≡ [] = so.is ∙ none.0 in
          let ended : next ≡ [] = next_is ∙ ap after_line_ends (behind_is ∙ ap (behind_record reading.format Start) nothing ∙ behind-none reading.format) in
          record {
            before = so.before;
            state = so.state;
            rest = so.rest;
            read = so.read;
            between = so.between;
            is = ended ∙ sym none.0;
            counted = inr (few so.counted, ended);
          }
      | inr some ↦
          let (p, found, before, behind_it) = read-to reading.format states.StartField [] [] (after_line_ends so.rest) refl in
          let same = so.is in
          let there : behind ≡ p.2 = behind_is ∙ ap (behind_record reading.format Start) same ∙ sym behind_it in
          record {
            before = so.before ++ p.0 ∷ [];
            state = p.1;
            rest = p.2;
            read = reached-more (config_of reading) states.StartRecord so.state (strip_bom input) so.rest so.before p so.read (some.1 ∙ found);
            between = before;
            is = next_is ∙ ap after_line_ends there;
            counted = inl (more p.0 (λ nothing. some.0 (sym same ∙ nothing)) so.counted);
          }
    ]
  where
    few : (length so.before ≡ count) ⊎ ((length so.before < count) × (left ≡ [])) → length so.before < count + 1
    few (inl all) = omega (arith, all)
    few (inr less) = let fewer = less.0 in omega (arith, fewer)

    more : (fields : List (List ℕ)) → left ≢ [] → (length so.before ≡ count) ⊎ ((length so.before < count) × (left ≡ [])) → length (so.before ++ fields ∷ []) ≡ count + 1
    more fields some (inl all) = let long = length-append so.before (fields ∷ []) in omega (arith, long, all)
    more fields some (inr less) = absurd (some less.1)

pub left-none : (reading : Reading) (input : List ℕ) (count : ℕ) (left : List ℕ) → IsLeft reading input count left → left ≡ [] → HasNoRecord reading input count
left-none reading input count left so nothing =
    elim (behind-ends reading.format so.state so.rest so.between) [
      | inl none ↦ record {
        records = so.before;
        read = (so.state, so.rest, so.read, none.1);
        few = elim so.counted [ inl all ↦ omega (arith, all) | inr less ↦ let fewer = less.0 in omega (arith, fewer) ];
      }
      | inr some ↦ absurd (some.0 (sym so.is ∙ nothing))
    ]

pub left-some : (reading : Reading) (input : List ℕ) (count start : ℕ) (left : List ℕ) → IsLeft reading input count left → left ≢ [] → length left ≤ length input → start ≡ length input - length left →
    IsRecordStart reading input count start
left-some reading input count start left so some shorter is =
    elim (behind-ends reading.format so.state so.rest so.between) [
      | inl none ↦ absurd (some (so.is ∙ none.0))
      | inr there ↦
          let (p, found, before, behind_it) = read-to reading.format states.StartField [] [] (after_line_ends so.rest) refl in
          let long : length left ≡ length (after_line_ends so.rest) = ap length so.is in
          record {
            before = so.before;
            state = so.state;
            rest = so.rest;
            next = p;
            counted = elim so.counted [ inl all ↦ all | inr less ↦ absurd (some less.1) ];
            read = so.read;
            found = there.1 ∙ found;
            begins = omega (arith, long);
          }
    ]

-- ---- byte by byte

module _ (format : Format) (text : List ℕ) (context : Context) (at : ℕ) (within : at < length text) (so_far : behind_record format Start text ≡ behind_record format context (drop at text)) where
  first : behind_record format Start text ≡ behind_record format context (get_or text at 0 ∷ drop (at + 1) text)
  first = so_far ∙ ap (behind_record format context) (drop_more text at 0 within)

  pub behind-here : ends_record format context (get_or text at 0) ≡ true → take (length text - (at + 1)) (drop (at + 1) text) ≡ behind_record format Start text
  unfolding behind_record
  behind-here ends =
      let long : length (drop (at + 1) text) ≡ length text - (at + 1) = length-drop (at + 1) text in
      take_all (length text - (at + 1)) (drop (at + 1) text) (omega (arith, long)) ∙ sym (first ∙ (rw ends refl))

  pub behind-next : ends_record format context (get_or text at 0) ≡ false → behind_record format Start text ≡ behind_record format (context_by format context (get_or text at 0)) (drop (at + 1) text)
  unfolding behind_record
  behind-next goes_on = first ∙ (rw goes_on refl)

pub behind-end : (format : Format) (text : List ℕ) (context : Context) (at : ℕ) → length text ≤ at → behind_record format Start text ≡ behind_record format context (drop at text) → [] ≡ behind_record format Start text
unfolding behind_record
behind-end format text context at past so_far = sym (so_far ∙ ap (behind_record format context) (drop_all at text past))

-- ---- lengths

pub shorter-ends : (text : List ℕ) → length (after_line_ends text) ≤ length text
shorter-ends text = let long = length-drop (prefix_len is_line_end text) text in omega (arith, long)

pub shorter-behind : (format : Format) (context : Context) (text : List ℕ) → length (behind_record format context text) ≤ length text
unfolding behind_record
shorter-behind format context [] = omega arith
shorter-behind format context (byte ∷ text) = by (ends_record format context byte) refl (shorter-behind format (context_by format context byte) text)
  where
    by : (ends : Bool) → ends_record format context byte ≡ ends → length (behind_record format (context_by format context byte) text) ≤ length text → length (behind_record format context (byte ∷ text)) ≤ length (byte ∷ text)
    by true is rest = rw is (omega arith)
    by false is rest = rw is (omega (arith, rest))

pub none-left : (text : List ℕ) → (length text == 0) ≡ true → text ≡ []
none-left [] is = refl
none-left (byte ∷ text) is = grind (arith, nat_tests)

pub some-left : (text : List ℕ) → (length text == 0) ≡ false → text ≢ []
some-left [] is = λ none. grind (arith, nat_tests)
some-left (byte ∷ text) is = λ none. cc
