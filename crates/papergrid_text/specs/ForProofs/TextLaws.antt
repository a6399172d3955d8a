-- That equality, order and hash of measured texts are lawful and go together.
use Rattle.std.specs.Prelude.{◌≡◌}
use Rattle.std.specs.Cmp.{IsEquivalence, IsTotalOrder, unsigned_Decides, unsigned_ties, both_tied}
use Rattle.std.specs.Cmp.Lexicographic.{lists_ties, texts_ties, bytes_decides}
use Rattle.std.specs.Cmp.Rules.{comparing}
use Rattle.std.specs.Hash as fed
use Rattle.std.specs.Hash.{Alike, same_Alike, on_Alike, and-Alike, items_Alike}
use Rattle.std.specs.Ordering.{eq_by_cmp}
use Rattle.std.proofs.Common.{rules}
use Rattle.papergrid_text.specs.TextOrder.{Key, Line, key_cmp, key_eq, key_hash, line_cmp, line_eq, line_hash}

line_equiv : IsEquivalence line_eq
line_equiv = search (comparing, rules)

line_total : IsTotalOrder line_cmp
line_total = search (comparing, rules)

pub line_ties : (x y : Line) → line_eq x y ≡ eq_by_cmp line_cmp x y
line_ties x y = both_tied _ _ _ _ (texts_ties x.0 y.0) (unsigned_ties x.1 y.1)

line_alike : Alike line_eq line_hash
line_alike = and-Alike (on_Alike (λ l. l.0) (same_Alike fed.str bytes_decides)) (on_Alike (λ l. l.1) (same_Alike fed.usize unsigned_Decides))

pub key_equiv : IsEquivalence key_eq
key_equiv = search (line_equiv, comparing, rules)

pub key_total : IsTotalOrder key_cmp
key_total = search (line_total, comparing, rules)

pub key_ties : (x y : Key) → key_eq x y ≡ eq_by_cmp key_cmp x y
key_ties x y = both_tied _ _ _ _ (texts_ties x.0 y.0) (both_tied _ _ _ _ (unsigned_ties x.1 y.1) (lists_ties line_cmp line_ties x.2 y.2))

pub key_alike : Alike key_eq key_hash
key_alike = and-Alike (on_Alike (λ k. k.0) (same_Alike fed.str bytes_decides)) (and-Alike (on_Alike (λ k. k.1) (same_Alike fed.usize unsigned_Decides)) (on_Alike (λ k. k.2) (items_Alike line_alike)))
