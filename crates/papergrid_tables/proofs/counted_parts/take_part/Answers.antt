use Rattle.std.proofs.Common.{eqb, sym, ap, ◌∙◌}
use Rattle.std.specs.Prelude.{is_some}
use Rattle.papergrid_values.specs.Positions.{along}
use Rattle.papergrid_values.specs.MapKeys.{position_eq}
use Rattle.papergrid_tables.proofs.CountLemmas.{count_removed}
use Rattle.papergrid_values.proofs.KeyLemmas.{exact_position_eq}
use Rattle.papergrid_tables.proofs.counted_parts.take_part.Goals as goal

pub returns-clause-less : goal.returns-clause-less
returns-clause-less g c = λ direction n.
    count_removed (λ p. eqb (along direction p) n) (position_eq c.args.position) c.args.position (λ q h. sym (exact_position_eq c.args.position q h)) c.args.map.now.entries c.remove.new.self.entries c.is_some.result c.remove.ensures.entries (c.is_some.ensures ∙ ap is_some c.remove.ensures.value)
