use Rattle.std.proofs.Common.{rules, Some, ap, ◌∙◌}
use Rattle.std.specs.Map.{lookup}
use Rattle.papergrid_values.specs.declared.entity.Entity.TheVariants.{Global, Column, Row}
use Rattle.papergrid_maps.specs.Keys.{entity_eq}
use Rattle.papergrid_maps.proofs.IntoMap.{cell_of, gathered, put_told}
use Rattle.papergrid_maps.proofs.entity_map.EntityMap.into_map.Goals as goal

pub returns : goal.returns
returns g c = rw (← c.self.view_is) (λ q.
    put_told c.put_all-3.new.all.entries c.write.new.map.entries Global (Some c.self.inside.global) c.in_ok-write.ensures.ok.0 q
    ∙ gathered c.self.inside.global c.put_all.ensures.unique c.put_all-2.ensures.unique c.put_all-3.ensures.unique (λ q. ap (lookup (entity_eq q)) c.new-all.ensures.empty)
    (record { each = c.in_ok-put_all.ensures.ok (λ k. Column k) (λ k e p. p) })
    (record { each = c.in_ok-put_all-2.ensures.ok (λ k. Row k) (λ k e p. p) })
    (record { each = c.in_ok-put_all-3.ensures.ok cell_of (λ k e p. search rules) }) q)
