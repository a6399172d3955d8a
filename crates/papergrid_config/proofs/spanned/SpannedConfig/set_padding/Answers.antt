use Rattle.papergrid_config.specs.declared.setting.Setting.TheVariants.{SetPadding}
use Rattle.papergrid_config.proofs.Told.{ok_by_part}
use Rattle.papergrid_config.proofs.spanned.SpannedConfig.set_padding.Goals as goal

pub returns-clause-ok : goal.returns-clause-ok
returns-clause-ok c = ok_by_part c.insert.result (SetPadding c.args.entity c.args.padding) c.insert.ensures.ok (λ told before so_far kept. search (kept, told _ _ so_far.padding))
