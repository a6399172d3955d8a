-- The last part decides alone, as it does before an empty rest.
use Rattle.std.proofs.Math.Bool.{and-true}
use Rattle.papergrid_values.proofs.laws.equal_by_parts.Goals as goal

pub returns-clause-borders : goal.returns-clause-borders
returns-clause-borders g c = λ x y. simp and-true

pub returns-clause-frames : goal.returns-clause-frames
returns-clause-frames g c = λ x y. simp and-true
