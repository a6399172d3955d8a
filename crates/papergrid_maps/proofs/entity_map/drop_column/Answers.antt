use Rattle.std.proofs.Common.{rules, eqb}
use Rattle.std.specs.Prelude.{not}
use Rattle.std.proofs.lemmas.Map.Made.{filter_same_pairs}
use Rattle.papergrid_maps.proofs.entity_map.drop_column.Goals as goal

pub returns : goal.returns
returns g c = filter_same_pairs _ (λ e. not (eqb e.0.col c.args.col)) _ (λ k v b w f' t. search rules) _ _ c.retain.ensures.filtered
