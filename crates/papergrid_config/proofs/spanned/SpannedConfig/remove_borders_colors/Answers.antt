use Rattle.papergrid_config.proofs.Cleared.{colors_cleared}
use Rattle.papergrid_config.proofs.spanned.SpannedConfig.remove_borders_colors.Goals as goal

pub returns-clause-told : goal.returns-clause-told
returns-clause-told c = rw c.replace.ensures.after (colors_cleared c.args.self.now c.new.result c.new.ensures.cleared)
