use Rattle.std.proofs.Common.{Err, Global, IfOk, OnOk, Ok, Result, string_bytes, ◌≡◌}
use Rattle.std.specs.Prelude.{String}
use Rattle.papergrid_config.specs.declared.spanned.SpannedConfig.{SpannedConfig}
use Rattle.papergrid_draw.specs.Drawings.{Drawing}
use Rattle.papergrid_draw.specs.Faults.{IsDrawable}
use Rattle.papergrid_draw.specs.Margins.{printed}
use Rattle.papergrid_draw.specs.declared.error.DrawError.{DrawError}
use Rattle.papergrid_checks.proofs.drawn.picture.Goals as goal

-- what was drawn has this configuration
drawn-by : (d : Drawing) (config : SpannedConfig) (result : Result (String Global) DrawError) → OnOk result (IsDrawable d) → IfOk result (λ text. string_bytes text ≡ printed d) → d.config ≡ config →
    IfOk result (λ text. (x : Drawing) × (x.config ≡ config) × IsDrawable x × (string_bytes text ≡ printed x))
drawn-by d config (Ok text) drawable picture same = (d, same, drawable, picture)
drawn-by d config (Err e) drawable picture same = tt

pub returns-clause-picture : goal.returns-clause-picture
returns-clause-picture c = drawn-by _ c.args.config.now c.drawn_string.result c.drawn_string.ensures.drawable c.drawn_string.ensures.picture c.in_ok-table.ensures.2.0
