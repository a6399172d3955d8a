use Rattle.papergrid_maps.proofs.IntoMap.{put_told, puts_more}
use Rattle.papergrid_maps.proofs.entity_map.put_all.Goals as goal

pub loop-key-preserved : goal.loop-key-preserved
loop-key-preserved g c = puts_more c.in-Some.key c.in-Some.value c.entity.result c.in-Some.ensures.steps c.entity.ensures (put_told _ _ _ _ c.in_ok-write.ensures.ok.0) c.loop-key.invariant
