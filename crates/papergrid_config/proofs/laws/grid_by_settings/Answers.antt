use Rattle.papergrid_config.proofs.Made.{grid_of}
use Rattle.papergrid_config.proofs.SettingGridLemmas.{grid-decided, is-grid, one-grid}
use Rattle.papergrid_config.proofs.laws.grid_by_settings.Goals as goal

pub returns : goal.returns
returns c = record { read = grid-decided; some = λ settings. (grid_of settings, is-grid settings); only = one-grid }
