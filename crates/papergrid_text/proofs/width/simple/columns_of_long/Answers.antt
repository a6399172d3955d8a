use Rattle.std.proofs.Common.{◌≤◌, get_or, subst, arith}
use Rattle.papergrid_text.proofs.SimpleLemmas.{passed, starts_ideograph, is_three_lead, is_of_three, starts_long}
use Rattle.papergrid_text.proofs.width.simple.columns_of_long.Goals as goal

pub returns-then-is_in_range : goal.returns-then-is_in_range
returns-then-is_in_range c = grind (arith, starts_ideograph, passed)

pub returns : goal.returns
returns c =
    let lead = subst (λ bs. get_or bs 0 0 ≤ 0xEF) c.as_bytes.ensures.value c.if-lead-gt239.false in
    starts_long _ c.first_of_three.result _ c.utf8.text (is_of_three _ c.utf8.text (is_three_lead _ c.requires lead)) c.first_of_three.ensures c.columns_of_three.ensures
