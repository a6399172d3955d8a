-- What calls do to the table of a handle.
use Rattle.std.specs.Prelude.{◌≡◌, ◌⊎◌, ℕ, ℤ, List, Option, None, Some}
use Rattle.papergrid_config.specs.declared.setting.Setting.{Setting}
use Rattle.papergrid_builder.specs.Calls.{AreNoRows, GainsCell, GainsRows, GainsSetting, GainsSettingIn, IsNoCell, IsNoSetting, IsNotEnded, IsNotTold}
use Rattle.papergrid_builder.specs.BuilderStates.{BuilderState, blank_table, with_row_end}
use Rattle.papergrid_builder.specs.declared.error.BuilderError.{BuilderError}
use Rattle.papergrid_builder.specs.declared.error.BuilderError.TheVariants.{Memory}
use Rattle.papergrid_c.specs.Numbers.{bad_value, done, no_table, number_of}

-- what a call does to the table of a handle; a handle without one stays so
abbrev pub ChangesTable : (BuilderState → BuilderState → ℤ → Type 0) → Option BuilderState → Option BuilderState → ℤ → Type 0
ChangesTable Does None new result = (new ≡ None) × (result ≡ no_table)
ChangesTable Does (Some old) new result = (table : BuilderState) × (new ≡ Some table) × Does old table result

-- the call is done; or it is refused for a reason, and nothing changes
abbrev pub Ends : (BuilderState → Type 0) → (BuilderError → Type 0) → BuilderState → BuilderState → ℤ → Type 0
Ends Done Refused old new result =
    (Done new × (result ≡ done)) ⊎ ((e : BuilderError) × Refused e × (new ≡ old) × (result ≡ number_of e))

-- a table without settings and texts; or memory is refused, and there is none
abbrev pub Makes : Option BuilderState → ℤ → Type 0
Makes None result = result ≡ number_of Memory
Makes (Some table) result = (table ≡ blank_table) × (result ≡ done)

-- one more cell of this text
abbrev pub PushesCell : List ℕ → BuilderState → BuilderState → ℤ → Type 0
PushesCell text old = Ends (GainsCell text old) (IsNoCell text) old

-- the next cell begins a new row
abbrev pub EndsRow : BuilderState → BuilderState → ℤ → Type 0
EndsRow old = Ends (λ new. new ≡ with_row_end old) (IsNotEnded old) old

-- the rows that a text is cut into as more rows
abbrev pub PushesRows : ℕ → ℕ → List ℕ → BuilderState → BuilderState → ℤ → Type 0
PushesRows cell_end row_end text old = Ends (GainsRows cell_end row_end text old) (AreNoRows cell_end row_end text) old

-- one more setting, which a JSON text tells
abbrev pub ReadsSetting : List ℕ → BuilderState → BuilderState → ℤ → Type 0
ReadsSetting text old = Ends (GainsSettingIn text old) (IsNoSetting text) old

-- one more setting; none where the values make none
abbrev pub Sets : Option Setting → BuilderState → BuilderState → ℤ → Type 0
Sets None old new result = (new ≡ old) × (result ≡ bad_value)
Sets (Some setting) old new result = Ends (λ after. GainsSetting old after setting) (IsNotTold setting) old new result
