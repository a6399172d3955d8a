use Rattle.std.proofs.Common.{◌∙◌, sym}
use Rattle.papergrid_tables.proofs.Made.{borders_made}
use Rattle.papergrid_tables.proofs.MadeTables.{borders_made_history, same_borders}
use Rattle.papergrid_tables.proofs.laws.history_makes_borders.Goals as goal

pub returns-clause-some : goal.returns-clause-some
returns-clause-some g c calls = (borders_made calls, borders_made_history calls)

pub returns-clause-only : goal.returns-clause-only
returns-clause-only g c calls s t one other = same_borders s t (one ∙ sym other)
