use Rattle.std.proofs.Common.{◌≡◌, string_bytes}
use Rattle.std.specs.Str.{encode_utf8_all}
use Rattle.papergrid_text.proofs.Tabs.{replaced, last_of}
use Rattle.papergrid_text.proofs.string.replace_tab.Given as goal

abbrev pub invariant-chars : goal.invariant-chars
invariant-chars l =
    (goal.iterator-chars).can_next l.c-iterator ×
    (goal.iterator-chars).is_finite l.c-iterator ×
    (string_bytes l.out ≡ encode_utf8_all (replaced l.n 0 l.yielded)) ×
    (l.left ≡ last_of 0 l.yielded)
