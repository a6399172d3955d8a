use Rattle.std.proofs.Common.{[]}
use Rattle.papergrid_checks.proofs.settings.told.Goals as goal

pub returns : goal.returns
returns c = c.in_ok-apply_all.ensures.ok [] c.new-config.ensures
