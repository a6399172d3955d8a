-- A clone is made of clones of the parts.
use Rattle.std.proofs.Common.{rules}
use Rattle.std.specs.contracts.prelude.OptionClone.TheImpl.{by_variants}
use Rattle.papergrid_values.proofs.CloneLemmas.{cloned_border, cloned_frame}
use Rattle.papergrid_values.proofs.laws.equal_clones.Goals as goal

pub returns-clause-borders : goal.returns-clause-borders
returns-clause-borders g c =
    cloned_border (by_variants g.row.T g.T.Clone g.T.Clone-dict g.T.Destruct-dict) (λ x y clone. search rules)

pub returns-clause-frames : goal.returns-clause-frames
returns-clause-frames g c =
    cloned_frame (by_variants g.row.T g.T.Clone g.T.Clone-dict g.T.Destruct-dict) (λ x y clone. search rules)
