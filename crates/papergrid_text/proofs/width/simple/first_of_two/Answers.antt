use Rattle.std.proofs.Common.{◌≡◌, get_or, true, IsUtf8, List, ℕ, arith, ◌∙◌, subst, sym}
use Rattle.std.specs.Int.{is_in_range}
use Rattle.papergrid_text.proofs.SimpleLemmas.{IsOfTwo, is_of_two, code_of_two}
use Rattle.papergrid_text.proofs.width.simple.first_of_two.Goals as goal

two : (text bytes : List ℕ) → IsUtf8 text → is_in_range 0xC2 0xDF (get_or text 0 0) ≡ true → bytes ≡ text → IsOfTwo bytes
two text bytes utf8 h is = subst IsOfTwo (sym is) (is_of_two text utf8 h)

pub continuation-requires : goal.continuation-requires
continuation-requires c = let t = two _ _ c.utf8.text c.requires c.as_bytes-bytes.ensures.value in omega (arith, t.bytes.second)

pub returns : goal.returns
returns c = λ first rest spelled. code_of_two c.as_bytes-bytes.result.now first _ rest (two _ _ c.utf8.text c.requires c.as_bytes-bytes.ensures.value) c.continuation.ensures (c.as_bytes-bytes.ensures.value ∙ spelled)
