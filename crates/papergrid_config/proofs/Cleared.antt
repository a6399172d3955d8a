-- A configuration whose table of characters, or of colours, is a new one.
use Rattle.std.proofs.Common.{arith, List, [], ◌∷◌, ◌++◌}
use Rattle.std.proofs.lemmas.Grind.{common_steps}
use Rattle.papergrid_values.specs.declared.ansi_buf.ANSIBuf.{ANSIBuf}
use Rattle.papergrid_tables.specs.BorderCalls.{BorderCall, Clear}
use Rattle.papergrid_tables.specs.StoredBorders.{StoredBorders}
use Rattle.papergrid_tables.specs.StoredBorders as lines
use Rattle.papergrid_config.specs.History.{AppendsSettings}
use Rattle.papergrid_config.specs.declared.setting.Setting.TheVariants.{RemoveBordersColors}
use Rattle.papergrid_config.specs.declared.spanned.SpannedConfig.{SpannedConfig}

pub colors_cleared : (config : SpannedConfig) (table : StoredBorders ANSIBuf) → ((calls : List (BorderCall ANSIBuf)) → lines.HasBorderHistory (calls ++ Clear ∷ []) table)
    → AppendsSettings config (record config { colors = table }) (RemoveBordersColors ∷ [])
colors_cleared config table cleared settings told = grind (arith, common_steps)
