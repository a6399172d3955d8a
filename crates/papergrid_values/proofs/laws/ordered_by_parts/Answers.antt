-- The order of the last part decides alone, as it does before an empty rest.
use Rattle.std.proofs.Common.{◌≡◌, refl}
use Rattle.std.specs.Ordering.{ordering_then}
use Rattle.std.specs.declared.cmp.Ordering.{Ordering}
use Rattle.std.specs.declared.cmp.Ordering.TheVariants.{Less, Equal, Greater}
use Rattle.papergrid_values.proofs.laws.ordered_by_parts.Goals as goal

then-equal : (o : Ordering) → ordering_then o Equal ≡ o
then-equal Less = refl
then-equal Equal = refl
then-equal Greater = refl

pub returns-clause-borders : goal.returns-clause-borders
returns-clause-borders g c = λ x y. simp then-equal

pub returns-clause-frames : goal.returns-clause-frames
returns-clause-frames g c = λ x y. simp then-equal
