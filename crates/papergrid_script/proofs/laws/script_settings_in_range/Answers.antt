use Rattle.papergrid_script.proofs.RangeLemmas.{settings_in_range}
use Rattle.papergrid_script.proofs.laws.script_settings_in_range.Goals as goal

pub returns : goal.returns
returns c = settings_in_range
