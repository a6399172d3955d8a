use Rattle.std.proofs.Common.{rules}
use Rattle.papergrid_config.proofs.ViewLemmas.{anchors_of_config}
use Rattle.papergrid_config.proofs.view.SpannedConfigConfigView.anchors.Goals as goal

pub returns-clause-shows : goal.returns-clause-shows
returns-clause-shows c = search (rules, anchors_of_config)
