use Rattle.std.proofs.Common.{◌∙◌, sym}
use Rattle.papergrid_maps.proofs.MapSearch.{effective_value}
use Rattle.papergrid_maps.proofs.EffectiveCallLemmas.{IsEffective-only, effective_value-IsEffective}
use Rattle.papergrid_maps.proofs.laws.one_effective_value.Goals as goal

pub returns-clause-some : goal.returns-clause-some
returns-clause-some g c given calls p = (effective_value given calls p, effective_value-IsEffective calls given p)

pub returns-clause-only : goal.returns-clause-only
returns-clause-only g c given calls p v w one other = IsEffective-only calls given p v one ∙ sym (IsEffective-only calls given p w other)
