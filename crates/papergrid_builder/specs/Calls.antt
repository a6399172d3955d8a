-- What the calls that tell a table something make of it, and why they are refused.
use Rattle.std.specs.Prelude.{◌≡◌, ◌<◌, ⊤, ℕ, All, IsUtf8, List, None, Some, false, true}
use Rattle.papergrid_config.specs.Applied.{is_in_range}
use Rattle.papergrid_config.specs.declared.setting.Setting.{Setting}
use Rattle.papergrid_json.specs.Documents.{setting_in}
use Rattle.papergrid_builder.specs.BuilderStates.{BuilderState, rows_in, with_cell, with_more_rows, with_setting}
use Rattle.papergrid_builder.specs.declared.error.BuilderError.{BuilderError}
use Rattle.papergrid_builder.specs.declared.error.BuilderError.TheVariants.{BadSetting, Memory, NotAscii, NotText, OutOfRange}

-- an allocation failed
abbrev pub IsOutOfMemory : BuilderError → Type 0
IsOutOfMemory Memory = ⊤
IsOutOfMemory e = ⊥

-- a setting that is in range, as one more
abbrev pub GainsSetting : BuilderState → BuilderState → Setting → Type 0
GainsSetting old new setting = (is_in_range setting ≡ true) × (new ≡ with_setting old setting)

-- why a setting is refused
abbrev pub IsNotTold : Setting → BuilderError → Type 0
IsNotTold setting OutOfRange = is_in_range setting ≡ false
IsNotTold setting Memory = is_in_range setting ≡ true
IsNotTold setting e = ⊥

-- the setting that a JSON text in UTF-8 tells, as one more
abbrev pub GainsSettingIn : List ℕ → BuilderState → BuilderState → Type 0
GainsSettingIn text old new = IsUtf8 text × ((setting : Setting) × (setting_in text ≡ Some setting) × GainsSetting old new setting)

-- why a JSON text is refused: it tells no setting, or an allocation failed
abbrev pub IsNoSetting : List ℕ → BuilderError → Type 0
IsNoSetting text BadSetting = IsUtf8 text → setting_in text ≡ None
IsNoSetting text Memory = ⊤
IsNoSetting text e = ⊥

-- one more cell, of a text in UTF-8
abbrev pub GainsCell : List ℕ → BuilderState → BuilderState → Type 0
GainsCell text old new = IsUtf8 text × (new ≡ with_cell old text)

-- why the text of a cell is refused
abbrev pub IsNoCell : List ℕ → BuilderError → Type 0
IsNoCell text NotText = ¬ IsUtf8 text
IsNoCell text Memory = IsUtf8 text
IsNoCell text e = ⊥

-- why the end of a row is not told: an allocation failed, for a row without cells
abbrev pub IsNotEnded : BuilderState → BuilderError → Type 0
IsNotEnded old e = IsOutOfMemory e × (old.goes_on ≡ false)

-- the bytes that end cells and rows are ASCII
abbrev pub AreAscii : ℕ → ℕ → Type 0
AreAscii cell_end row_end = (cell_end < 128) × (row_end < 128)

-- the rows that a text in UTF-8 is cut into as more rows, each of which is ended. Their texts are in UTF-8 too
abbrev pub GainsRows : ℕ → ℕ → List ℕ → BuilderState → BuilderState → Type 0
GainsRows cell_end row_end text old new = AreAscii cell_end row_end × IsUtf8 text
    × All (All IsUtf8) (rows_in cell_end row_end text) × (new ≡ with_more_rows old (rows_in cell_end row_end text))

-- why the rows that a text is cut into are refused
abbrev pub AreNoRows : ℕ → ℕ → List ℕ → BuilderError → Type 0
AreNoRows cell_end row_end text NotAscii = ¬ AreAscii cell_end row_end
AreNoRows cell_end row_end text NotText = AreAscii cell_end row_end × ¬ IsUtf8 text
AreNoRows cell_end row_end text Memory = AreAscii cell_end row_end × IsUtf8 text
AreNoRows cell_end row_end text e = ⊥
