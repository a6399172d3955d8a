use Rattle.papergrid_draw.proofs.OneLemmas.{drawn-or-refused, one-refusal}
use Rattle.papergrid_draw.proofs.laws.one_answer.Goals as goal

pub returns-clause-drawn : goal.returns-clause-drawn
returns-clause-drawn c = drawn-or-refused

pub returns-clause-refused : goal.returns-clause-refused
returns-clause-refused c = one-refusal
