-- Equality, order and hash of measured texts: by the text that is lent, then the width, then the
-- lines kept. Each line goes by its text and its width.
use Rattle.std.specs.Prelude.{ℕ, List, Bool, ◌++◌, nat_eq}
use Rattle.std.specs.Cmp.Lexicographic.{pointwise, slice_cmp}
use Rattle.std.specs.Hash as fed
use Rattle.std.specs.Ordering.{on, eq_of_both, then_cmp, nat_cmp}
use Rattle.std.specs.declared.cmp.Ordering.{Ordering}
use Rattle.papergrid_text.specs.Measured.{Measured}

-- a line with its width
abbrev pub Line : Type 0
Line = List ℕ × ℕ

-- whether texts and widths are equal
abbrev pub line_eq : Line → Line → Bool
line_eq = eq_of_both (on (λ l. l.0) (pointwise nat_eq)) (on (λ l. l.1) nat_eq)

-- by the text, and then by the width
abbrev pub line_cmp : Line → Line → Ordering
line_cmp = then_cmp (on (λ l. l.0) (slice_cmp nat_cmp)) (on (λ l. l.1) nat_cmp)

-- the text, and then the width
abbrev pub line_hash : Line → fed.HashWrites
line_hash l = fed.str l.0 ++ fed.usize l.1

-- what is compared of a measured text: the text that is lent, the width and the lines
abbrev pub Key : Type 0
Key = List ℕ × ℕ × List Line

-- that of a measured text
abbrev pub key : {S : Type 0} → (S → List ℕ) → Measured S → Key
key text t = (text t.text, t.width, t.lines)

-- whether texts, widths and lines are equal
abbrev pub key_eq : Key → Key → Bool
key_eq = eq_of_both (on (λ k. k.0) (pointwise nat_eq)) (eq_of_both (on (λ k. k.1) nat_eq) (on (λ k. k.2) (pointwise line_eq)))

-- by the text, then by the width, then by the lines
abbrev pub key_cmp : Key → Key → Ordering
key_cmp = then_cmp (on (λ k. k.0) (slice_cmp nat_cmp)) (then_cmp (on (λ k. k.1) nat_cmp) (on (λ k. k.2) (slice_cmp line_cmp)))

-- the text, then the width, then the lines
abbrev pub key_hash : Key → fed.HashWrites
key_hash k = fed.str k.0 ++ (fed.usize k.1 ++ fed.slice line_hash k.2)
