-- Runs of printable ASCII within a text: what stands before them and what stands after them add up.
use Rattle.std.proofs.Common.{◌≡◌, ◌≢◌, ℕ, zero, suc, ◌+◌, Bool, true, false, not, ◌&&◌, cond, List, [], ◌∷◌, ◌++◌, ◌<◌, ◌==◌, nat_le, length, replicate, get_or, take, drop, chars, IsUtf8, encode_utf8_all, refl, sym, ap, subst, ◌∙◌, arith, Option, Some, None, zero-add, rules}
use Rattle.std.specs.Int.{is_in_range}
use Rattle.std.specs.List.{list_all, prefix_len}
use Rattle.std.proofs.lemmas.Bool.{and_parts, ne_eqb}
use Rattle.std.proofs.lemmas.Bool.Decides.{nat_tests}
use Rattle.std.proofs.lemmas.List.{length-replicate, append-nil, length-take-le, take-append-drop, drop-drop}
use Rattle.std.proofs.lemmas.List.Sums.{prefix_len-le-length}
use Rattle.std.proofs.lemmas.Str.{IsUtf8-from_ascii, chars-append, chars-IsAscii, encodes-chars}
use Rattle.unicode_width.specs.declared.kind.Kind.{Kind}
use Rattle.unicode_width.specs.declared.kind.Kind.TheVariants as kinds
use Rattle.unicode_width.specs.declared.state.After.{After}
use Rattle.unicode_width.specs.declared.state.After.TheVariants.{Emoji, LineFeed}
use Rattle.ucd_emoji.specs.Binary.{is_emoji_variation_base}
use Rattle.unicode_width.specs.declared.state.State.{State}
use Rattle.unicode_width.specs.declared.state.Change.{Change}
use Rattle.unicode_width.specs.Kind.{kind}
use Rattle.unicode_width.specs.Width.{Reading, before, plain, alone, of_kind, single, added, joined_or, if_kept, is_joined_emoji, is_line_feed, is_plain, past_selectors, in_context, past_emoji, step, read_before, str_width}
use Rattle.unicode_width.proofs.WidthLemmas.{read_before-printable}
use Rattle.unicode_width.proofs.Rules.{is_simple, str_width-append_simple, str_width-printable}
use Rattle.unicode_width.proofs.Computing.{unicode_width}
use Rattle.papergrid_text.specs.ForProofs.Runs.{IsSplitAtRun}
use Rattle.papergrid_text.proofs.PrintableLemmas.{ascii, front_printable}

-- ---- only U+FE0F asks for an emoji

record NoEmoji (r : Reading) : Type 0 where
  none : r.1.emoji ≡ false

chosen : (b : Bool) (r u : Reading) → NoEmoji r → NoEmoji u → NoEmoji (cond b r u)
chosen true r u p q = p
chosen false r u p q = q

passed : (b : Bool) (r u : Reading) → b ≡ false → NoEmoji u → NoEmoji (cond b r u)
passed true r u p q = cc
passed false r u p q = q

given : (t : ℕ) (s : State) → s.emoji ≡ false → NoEmoji (t, s)
given t s h = record { none = h }

kept : (s : State) → s.emoji ≡ false → (if_kept s).emoji ≡ false
kept s h = search (rules, kept_if)
  where
    kept_if : (b : Bool) (s : State) → s.emoji ≡ false → (cond b s plain).emoji ≡ false
    kept_if true s h = h
    kept_if false s h = refl

single_asks : (c : ℕ) → c ≢ 0xFE0F → (single false c).1.emoji ≡ false
single_asks c other = grind (arith, nat_tests)

kind_asks : (c : ℕ) (k : Kind) → c ≢ 0xFE0F → (of_kind false c k).1.emoji ≡ false
kind_asks c kinds.Zero other = refl
kind_asks c kinds.Narrow other = refl
kind_asks c kinds.Wide other = refl
kind_asks c kinds.Ambiguous other = refl
kind_asks c kinds.Alef other = refl
kind_asks c kinds.KhmerLetter other = refl
kind_asks c kinds.TifinaghConsonant other = refl
kind_asks c kinds.LisuTone other = refl
kind_asks c kinds.RegionalIndicator other = refl
kind_asks c kinds.EmojiModifier other = refl
kind_asks c kinds.Emoji other = refl
kind_asks c kinds.Single other = single_asks c other

alone_asks : (c t : ℕ) → c ≢ 0xFE0F → NoEmoji (added t (alone false c))
unfolding alone
alone_asks c t other = record { none = kind_asks c (kind c) other }

joined_asks : (c t : ℕ) (j : Option (Change × After)) → c ≢ 0xFE0F → NoEmoji (joined_or t j (alone false c))
joined_asks c t None other = alone_asks c t other
joined_asks c t (Some j) other = given _ _ refl

selectors_ask : (c t : ℕ) (after : After) → c ≢ 0xFE0F → NoEmoji (past_selectors false c t after)
unfolding past_selectors
selectors_ask c t after other = grind (arith, chosen, given, joined_asks)

context_asks : (c t : ℕ) (s : State) → c ≢ 0xFE0F → s.emoji ≡ false → NoEmoji (in_context false c t s)
unfolding in_context
context_asks c t s other none = grind (arith, passed, ne_eqb, chosen, given, kept, none, selectors_ask)

emoji_asks : (c t : ℕ) (s : State) → c ≢ 0xFE0F → s.emoji ≡ false → NoEmoji (past_emoji false c t s)
unfolding past_emoji
emoji_asks c t s other none =
    chosen (c == 0x0A) _ _ (given (t + 1) (before LineFeed) refl)
    (chosen ((c == 0x0D) && is_line_feed s.after) _ _ (given t plain refl)
    (chosen (nat_le c 0xA0) _ _ (given (t + 1) plain refl)
    (chosen (is_plain s) _ _ (alone_asks c t other) (context_asks c t s other none))))

by_emoji : (b : Bool) (c t : ℕ) (s : State) → s.emoji ≡ b → c ≢ 0xFE0F
    → NoEmoji (cond (not b) (past_emoji false c t s) (cond (is_emoji_variation_base c) (t + cond (is_joined_emoji s.after) 0 2, before Emoji) (past_emoji false c t (record (if_kept s) { emoji = false }))))
by_emoji false c t s is other = emoji_asks c t s other is
by_emoji true c t s is other = grind (arith, chosen, given, emoji_asks)

step_asks : (c : ℕ) (r : Reading) → c ≢ 0xFE0F → NoEmoji (step false c r)
unfolding step
step_asks c (t, s) other = by_emoji s.emoji c t s refl other

-- U+FE0F does not stand first
abbrev pub IsUnselected : List ℕ → Type 0
IsUnselected [] = Unit {0}
IsUnselected (c ∷ cs) = c ≢ 0xFE0F

read_asks : (cs : List ℕ) → IsUnselected cs → NoEmoji (read_before false cs (0, plain))
read_asks [] other = given _ _ refl
read_asks (c ∷ cs) other = step_asks c (read_before false cs (0, plain)) other

-- ---- a run of printable ASCII

step_run : (c t : ℕ) (s : State) → is_in_range 0x20 0x7E c ≡ true → s.emoji ≡ false → step false c (t, s) ≡ (t + 1, plain)
unfolding step past_emoji
step_run c t s printable none = grind (arith, nat_tests)

read_run : (run ys : List ℕ) (t : ℕ) (s : State) → list_all (is_in_range 0x20 0x7E) run ≡ true → 0 < length run
    → read_before false ys (0, plain) ≡ (t, s) → s.emoji ≡ false → read_before false (run ++ ys) (0, plain) ≡ (t + length run, plain)
read_run [] ys t s printable some read none = absurd (omega arith)
read_run (c ∷ []) ys t s printable some read none = grind (arith, and_parts, step_run, none)
read_run (c ∷ d ∷ run) ys t s printable some read none =
    let parts = and_parts (is_in_range 0x20 0x7E c) (list_all (is_in_range 0x20 0x7E) (d ∷ run)) printable in
    grind (arith, read_run (d ∷ run) ys t s parts.1 (omega arith) read none, none, step_run)

-- ---- what is read before a plain state adds up

pub read_append : (xs ys : List ℕ) (r : Reading) → read_before false (xs ++ ys) r ≡ read_before false xs (read_before false ys r)
read_append [] ys r = refl
read_append (x ∷ xs) ys r = ap (step false x) (read_append xs ys r)

pub all_spaces : (n : ℕ) → list_all (is_in_range 0x20 0x7E) (replicate n 32) ≡ true
all_spaces zero = refl
all_spaces (suc n) = all_spaces n

pub all_simple : (n : ℕ) → list_all is_simple (replicate n 32) ≡ true
all_simple zero = refl
all_simple (suc n) = all_simple n

spaces_long : (n : ℕ) → length {A = ℕ} (replicate n 32) ≡ n
spaces_long n = length-replicate {A = ℕ} n 32

-- spaces give each total
shifted : (xs : List ℕ) (n : ℕ) → (read_before false xs (n, plain)).0 ≡ str_width false xs + n
unfolding str_width
shifted xs n =
    let long = spaces_long n in
    let spaces : (n, plain) ≡ read_before false (replicate n 32) (0, plain) =
    ap (λ m. (m, plain)) (sym long ∙ sym (zero-add _)) ∙ read_before-printable false (replicate n 32) [] 0 (all_spaces n) refl ∙ ap (λ cs. read_before false cs (0, plain)) (append-nil (replicate n 32)) in
    ap (λ r. (read_before false xs r).0) spaces ∙ ap (λ r. r.0) (sym (read_append xs (replicate n 32) (0, plain)))
    ∙ str_width-append_simple false xs (replicate n 32) (all_simple n)
    ∙ ap (λ w. str_width false xs + w) (str_width-printable false (replicate n 32) (all_spaces n) ∙ long)

-- what stands before a run and what stands after it add up, where no emoji is asked for
pub width-run : (xs run ys : List ℕ) → list_all (is_in_range 0x20 0x7E) run ≡ true → 0 < length run → IsUnselected ys
    → str_width false (xs ++ (run ++ ys)) ≡ str_width false xs + length run + str_width false ys
unfolding str_width
width-run xs run ys printable some other =
    let r = read_before false ys (0, plain) in
    ap (λ r. r.0) (read_append xs (run ++ ys) (0, plain)) ∙ ap (λ r. (read_before false xs r).0) (read_run run ys r.0 r.1 printable some refl (read_asks ys other).none)
    ∙ shifted xs (r.0 + length run) ∙ omega arith

-- ---- a text that is cut at a run

-- no text that begins otherwise begins with U+FE0F
unselected : (cs bytes : List ℕ) → encode_utf8_all cs ≡ bytes → get_or bytes 0 0 ≢ 0xEF → IsUnselected cs
unfolding unicode_width
unselected [] bytes is other = tt
unselected (c ∷ cs) bytes is other = grind arith

pub width_parted : (text before after : List ℕ) (count : ℕ) → IsSplitAtRun text before count after → IsUtf8 before → IsUtf8 after
    → str_width false (chars text) ≡ str_width false (chars before) + count + str_width false (chars after)
width_parted text before after count split utf8_before utf8_after =
    let is_ascii = ascii split.run split.printable in
    grind (arith, chars-append, IsUtf8-from_ascii, chars-IsAscii, width-run, unselected, encodes-chars)

pub split_there : (text : List ℕ) (start n : ℕ) → n ≡ prefix_len (is_in_range 0x20 0x7E) (drop start text) → 0 < n → get_or (drop (start + n) text) 0 0 ≢ 0xEF
    → IsSplitAtRun text (take start text) n (drop (start + n) text)
split_there text start n is some other =
    let bound = prefix_len-le-length (is_in_range 0x20 0x7E) (drop start text) in
    record {
      run = take n (drop start text);
      whole = sym (take-append-drop start text)
          ∙ ap (λ rest. take start text ++ rest) (sym (take-append-drop n (drop start text)) ∙ ap (λ rest. take n (drop start text) ++ rest) (drop-drop n start text));
      counted = length-take-le n (drop start text) (omega arith);
      some = some;
      printable = subst (λ k. list_all (is_in_range 0x20 0x7E) (take k (drop start text)) ≡ true) (sym is) (front_printable (drop start text));
      unselected = other;
    }
