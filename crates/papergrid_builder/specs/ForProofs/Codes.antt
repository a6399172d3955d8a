-- How what is told of a table is told apart.
use Rattle.std.specs.Prelude.{ℕ, Bool, List, Option, refl}
use Rattle.std.specs.Coded.{Coded, code_by, coded×, coded_bool, coded_list, coded_option, coded_ℕ}
use Rattle.papergrid_values.specs.declared.position.Position.{Position}
use Rattle.papergrid_config.specs.declared.setting.Setting.{Setting}
use Rattle.papergrid_config.specs.declared.spanned.SpannedConfig.{SpannedConfig}
use Rattle.papergrid_layout.specs.Certificates.{Solution}
use Rattle.papergrid_builder.specs.BuilderStates.{FoundTable, BuilderState}

-- a code of positions, and so of the cells of a certificate
abbrev pub places_code : Coded (Option (List Position))
places_code = coded_option (coded_list (code_by (ℕ × ℕ) (coded× coded_ℕ coded_ℕ) (λ p. (p.row, p.col)) (λ p. record { row = p.0; col = p.1 }) (λ _. refl)))

-- a code of what was found along a direction
abbrev pub solution_code : Coded Solution
solution_code =
    code_by (List ℕ × (ℕ × Option (List Position))) (coded× (coded_list coded_ℕ) (coded× coded_ℕ places_code))
    (λ s. (s.sizes, (s.total, s.certificate)))
    (λ p. record { sizes = p.0; total = p.1.0; certificate = p.1.1 }) (λ _. refl)

-- a code of what was found, by one of configurations
abbrev pub found_code : Coded SpannedConfig → Coded FoundTable
found_code c =
    code_by (SpannedConfig × (Solution × Solution)) (coded× c (coded× solution_code solution_code))
    (λ f. (f.config, (f.along.columns, f.along.rows)))
    (λ p. record { config = p.0; along = record { columns = p.1.0; rows = p.1.1 } }) (λ _. refl)

-- a code of what is told, by one of settings and one of configurations
abbrev pub told_code : Coded Setting → Coded SpannedConfig → Coded BuilderState
told_code s c =
    code_by (List Setting × (List (List (List ℕ)) × (Bool × (Option FoundTable × List ℕ))))
    (coded× (coded_list s) (coded× (coded_list (coded_list (coded_list coded_ℕ))) (coded× coded_bool (coded× (coded_option (found_code c)) (coded_list coded_ℕ)))))
    (λ t. (t.settings, (t.rows, (t.goes_on, (t.found, t.picture)))))
    (λ p. record { settings = p.0; rows = p.1.0; goes_on = p.1.1.0; found = p.1.1.1.0; picture = p.1.1.1.1 }) (λ _. refl)
