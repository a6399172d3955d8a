use Rattle.std.proofs.Common.{◌≡◌, ◌≤◌, ℕ, nat_eq, true, arith}
use Rattle.std.proofs.lemmas.Bool.Decides.{nat_tests}
use Rattle.papergrid_text.proofs.SimpleLemmas.{front_is_printable}
use Rattle.papergrid_text.proofs.width.simple.has_printable_front.Goals as goal

as_many : (n count : ℕ) → nat_eq n count ≡ true → count ≤ n
as_many n count same = grind (arith, nat_tests)

pub returns-then-count-text : goal.returns-then-count-text
returns-then-count-text c = grind (arith, front_is_printable, as_many)
