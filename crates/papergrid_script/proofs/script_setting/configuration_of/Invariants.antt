use Rattle.std.proofs.Common.{◌≡◌, ◌++◌, map}
use Rattle.std.specs.Vec.Iter.{into_iter_items}
use Rattle.papergrid_config.specs.History.{HasSettingHistory}
use Rattle.papergrid_script.specs.Settings.{setting_told}
use Rattle.papergrid_script.proofs.script_setting.configuration_of.Given as goal

abbrev pub invariant-loop-setting : goal.invariant-loop-setting
invariant-loop-setting l = HasSettingHistory (map setting_told l.yielded) l.config × (l.yielded ++ into_iter_items l.setting-iterator ≡ into_iter_items l.initial.setting-iterator)
