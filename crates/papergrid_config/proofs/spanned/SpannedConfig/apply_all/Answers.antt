use Rattle.std.proofs.Common.{◌≡◌, false}
use Rattle.papergrid_maps.proofs.Applied.{applied_more}
use Rattle.papergrid_config.specs.Applied.{is_free}
use Rattle.papergrid_config.proofs.ChangedLemmas.{applies_more, others_so_far}
use Rattle.papergrid_config.proofs.Reached.{found_reached, not_passed, reached}
use Rattle.papergrid_config.proofs.spanned.SpannedConfig.apply_all.Goals as goal

pub loop-setting-preserved : goal.loop-setting-preserved
loop-setting-preserved c = applied_more c.in-Some.setting c.in-Some.ensures.steps.0 (applies_more _ _ c.loop-setting.invariant.told c.in-Ok.ensures.ok c.in-Ok.ensures.others) c.loop-setting.invariant

pub returns-in-Err-clause-blamed : goal.returns-in-Err-clause-blamed
returns-in-Err-clause-blamed c = found_reached (λ setting. is_free setting ≡ false) (reached c.loop-setting.invariant c.in-Some.ensures.steps.0 c.into_iter-setting-iterator.ensures.into_iter_gives.0) (not_passed _ c.in-Err.ensures.free)

pub returns-in-Err-clause-others : goal.returns-in-Err-clause-others
returns-in-Err-clause-others c = rw (c.in-Err.ensures.err, ← c.into_iter-setting-iterator.ensures.into_iter_gives.0) (others_so_far c.loop-setting.invariant)
