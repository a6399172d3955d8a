-- One more anchor is passed.
use Rattle.std.proofs.Common.{arith, ℕ, ◌/◌, ◌≤◌}
use Rattle.papergrid_walk.specs.declared.max_tree.MaxTree.{MaxTree}
use Rattle.papergrid_walk.specs.declared.max_tree.MaxTree.TheVariants.{Top, Level'}
use Rattle.papergrid_walk.specs.ForProofs.MaxTree.{HasLevels}
use Rattle.papergrid_walk.specs.ForProofs.Swept.{lesser}

pub fits-less : (max_tree : MaxTree) (m n : ℕ) → m ≤ n → HasLevels max_tree n → HasLevels max_tree m
fits-less Top m n h f = omega (arith, f)
fits-less (Level' ends p above) m n h f = (omega (arith, f.0), fits-less above (m / 2) (n / 2) (omega arith) f.1)

pub least-most : (a b : ℕ) → lesser a b ≤ b
least-most a b = grind (arith)
