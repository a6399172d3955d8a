use Rattle.papergrid_draw.proofs.SettingLemmas.{with-separators}
use Rattle.papergrid_draw.proofs.laws.settings_with_separators.Goals as goal

pub returns : goal.returns
returns c = with-separators
