use Rattle.papergrid_config.specs.declared.setting.Setting.TheVariants.{SetLineAlignment}
use Rattle.papergrid_config.proofs.Told.{ok_by_part}
use Rattle.papergrid_config.proofs.spanned.SpannedConfig.set_line_alignment.Goals as goal

pub returns-clause-ok : goal.returns-clause-ok
returns-clause-ok c = ok_by_part c.insert.result (SetLineAlignment c.args.entity c.args.on) c.insert.ensures.ok (λ told before so_far kept. search (kept, told _ _ so_far.line_alignment))
