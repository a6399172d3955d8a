use Rattle.std.proofs.Common.{◌≡◌, subst, sym, true, arith}
use Rattle.std.specs.Prelude.{◌≢◌, AllPairs, Decides}
use Rattle.std.proofs.lemmas.Map.Made.{AllPairs-from_IsDistinct, is_some-lookup}
use Rattle.std.proofs.lemmas.Result.{IfOk-weaker}
use Rattle.papergrid_values.specs.declared.position.Position.{Position}
use Rattle.papergrid_values.specs.MapKeys.{position_eq}
use Rattle.papergrid_values.proofs.KeyLemmas.{exact_position_eq, get_at_position, position_equiv}
use Rattle.papergrid_maps.proofs.entity_map.EntityMap.held_cells.Goals as goal

pub returns-clause-stored : goal.returns-clause-stored
returns-clause-stored g c = grind (arith, is_some-lookup, get_at_position)

position_decides : (p q : Position) → Decides (position_eq p q) (p ≡ q)
position_decides p q = (exact_position_eq p q, λ e. subst (λ r. position_eq p r ≡ true) e (position_equiv.refl p))

pub returns-clause-once : goal.returns-clause-once
returns-clause-once g c =
    IfOk-weaker c.keys_of_cells.result _ _
    (λ cells are. subst (λ ks. AllPairs (λ p q. p ≢ q) ks) (sym are) (AllPairs-from_IsDistinct position_decides _ c.keys_of_cells.ensures.once))
    c.keys_of_cells.ensures.keys
