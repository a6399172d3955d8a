use Rattle.std.proofs.Common.{[]}
use Rattle.papergrid.proofs.table_layout.configuration.Goals as goal

pub returns-in-Ok : goal.returns-in-Ok
returns-in-Ok c = c.in-Ok.ensures.ok [] c.new-config.ensures
