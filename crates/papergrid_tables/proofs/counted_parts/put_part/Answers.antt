use Rattle.std.proofs.Common.{eqb}
use Rattle.papergrid_values.specs.Positions.{along}
use Rattle.papergrid_values.specs.MapKeys.{position_eq}
use Rattle.papergrid_tables.proofs.BorderFound.{unset}
use Rattle.papergrid_tables.proofs.CountLemmas.{count_put}
use Rattle.papergrid_tables.proofs.counted_parts.put_part.Goals as goal

pub returns-clause-more : goal.returns-clause-more
returns-clause-more g c = λ direction n.
    count_put (λ p. eqb (along direction p) n) position_eq c.args.map.now c.insert.new.self c.args.position c.in-Some.value c.in-Ok.old c.is_none.result c.in-Ok.ensures.entries (unset c.in-Ok.old c.is_none.result c.is_none.ensures)
