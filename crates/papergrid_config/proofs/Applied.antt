-- Settings after settings.
use Rattle.std.proofs.Common.{List, ◌++◌, subst, append_assoc}
use Rattle.papergrid_config.specs.History.{HasSettingHistory, AppendsSettings}
use Rattle.papergrid_config.specs.declared.setting.Setting.{Setting}
use Rattle.papergrid_config.specs.declared.spanned.SpannedConfig.{SpannedConfig}

pub appends_more : {old between new : SpannedConfig} (xs ys : List Setting) → AppendsSettings old between xs → AppendsSettings between new ys → AppendsSettings old new (xs ++ ys)
appends_more {new = new} xs ys first next settings told = subst (λ zs. HasSettingHistory zs new) (append_assoc settings xs ys) (next (settings ++ xs) (first settings told))
