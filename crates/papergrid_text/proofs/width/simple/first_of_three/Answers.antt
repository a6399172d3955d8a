use Rattle.std.proofs.Common.{◌≡◌, get_or, true, IsUtf8, List, ℕ, arith, ◌∙◌, subst, sym}
use Rattle.std.specs.Int.{is_in_range}
use Rattle.papergrid_text.proofs.SimpleLemmas.{IsOfThree, is_of_three, code_of_three}
use Rattle.papergrid_text.proofs.width.simple.first_of_three.Goals as goal

three : (text bytes : List ℕ) → IsUtf8 text → is_in_range 0xE0 0xEF (get_or text 0 0) ≡ true → bytes ≡ text → IsOfThree bytes
three text bytes utf8 h is = subst IsOfThree (sym is) (is_of_three text utf8 h)

pub continuation-requires : goal.continuation-requires
continuation-requires c = let t = three _ _ c.utf8.text c.requires c.as_bytes-bytes.ensures.value in omega (arith, t.bytes.second)

pub continuation-requires-2 : goal.continuation-requires-2
continuation-requires-2 c = let t = three _ _ c.utf8.text c.requires c.as_bytes-bytes.ensures.value in omega (arith, t.bytes.third)

pub returns : goal.returns
returns c = λ first rest spelled. code_of_three c.as_bytes-bytes.result.now first _ _ rest (three _ _ c.utf8.text c.requires c.as_bytes-bytes.ensures.value) c.continuation.ensures c.continuation-2.ensures (c.as_bytes-bytes.ensures.value ∙ spelled)
