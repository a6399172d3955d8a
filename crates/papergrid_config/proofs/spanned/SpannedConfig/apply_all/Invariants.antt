use Rattle.std.specs.Vec.Iter.{into_iter_items}
use Rattle.papergrid_maps.proofs.Applied.{AppliedSoFar}
use Rattle.papergrid_config.proofs.ChangedLemmas.{Applies}
use Rattle.papergrid_config.proofs.spanned.SpannedConfig.apply_all.Given as goal

abbrev pub invariant-loop-setting : goal.invariant-loop-setting
invariant-loop-setting l = AppliedSoFar (Applies l.initial.self l.self) l.yielded (into_iter_items l.setting-iterator) (into_iter_items l.initial.setting-iterator) l.done
