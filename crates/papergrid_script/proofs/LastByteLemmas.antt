-- The parts of a text around the last of some bytes.
use Rattle.std.proofs.Common.{◌≡◌, ◌≢◌, ◌<◌, ◌≤◌, ◌+◌, ◌-◌, ℕ, List, true, false, not, Some, None, cond, nat_lt, length, get_or, take, drop, Option, inl, inr, sym, ap, ◌∙◌, arith}
use Rattle.std.specs.Prelude.{◌==◌}
use Rattle.std.specs.List.{after_last, before_last, position_or_len, suffix_len}
use Rattle.std.proofs.lemmas.Bool.{cases_lt, eq-eqb, le-ltb, lt-ltb, ne_eqb, true≢false}
use Rattle.std.proofs.lemmas.List.Sums.{fails_before_first, position_or_len_is, suffix_len_is}
use Rattle.papergrid_script.specs.Grammar.{parted_at_last}

module _ (text : List ℕ) (byte at : ℕ) (within : at < length text) (there : get_or text at 0 ≡ byte)
    (none : (k : ℕ) → at + 1 ≤ k → k < length text → get_or text k 0 ≢ byte) where
  passes : (get_or text at 0 == byte) ≡ true
  passes = eq-eqb _ _ there

  first : position_or_len (λ b. b == byte) text < length text
  first = within_or (position_or_len (λ b. b == byte) text) (fails_before_first (λ b. b == byte) text at 0)
    where
      within_or : (n : ℕ) → (at < n → (get_or text at 0 == byte) ≡ false) → n < length text
      within_or n fails = elim (cases_lt at n) [
        | inl past ↦ absurd (true≢false (sym passes ∙ fails past))
        | inr le ↦ omega (arith, le, within)
      ]

  behind : suffix_len (λ b. not (b == byte)) text ≡ length text - (at + 1)
  behind = suffix_len_is (λ b. not (b == byte)) text (at + 1) 0 (omega arith)
      (λ k from to. ap not (ne_eqb _ _ (none k from to)))
      (λ some. let one : at + 1 - 1 ≡ at = omega arith in ap (λ k. not (get_or text k 0 == byte)) one ∙ ap not passes)

  abbrev parts : ℕ → ℕ → Option (List ℕ × List ℕ)
  parts i j = Some (take i text, drop j text)

  around : (n : ℕ) → n ≡ length text - (at + 1) → parts at (at + 1) ≡ parts (length text - n - 1) (length text - n)
  around n e = grind arith

  pub last_there : parts at (at + 1) ≡ parted_at_last byte text
  last_there = around _ behind ∙ sym (ap (λ b. cond b (Some (before_last (λ b. b == byte) text, after_last (λ b. b == byte) text)) None) (lt-ltb _ _ first))

pub last_missing : (text : List ℕ) (byte : ℕ) → ((k : ℕ) → k < length text → get_or text k 0 ≢ byte) → None ≡ parted_at_last byte text
last_missing text byte none =
    let all : position_or_len (λ b. b == byte) text ≡ length text = position_or_len_is (λ b. b == byte) text (length text) 0 (omega arith) (λ k l. ne_eqb _ _ (none k l)) (λ l. absurd (omega arith)) in
    let not_less : nat_lt (position_or_len (λ b. b == byte) text) (length text) ≡ false = ap (λ n. nat_lt n (length text)) all ∙ le-ltb _ _ (omega arith) in
    sym (ap (λ b. cond b (Some (before_last (λ b. b == byte) text, after_last (λ b. b == byte) text)) None) not_less)
