-- What a document tells, and what is known of one that was read.
use Rattle.std.specs.Prelude.{◌≡◌, ◌<◌, ℕ, max, Bool, true, ◌&&◌, nat_le, is_some, unwrap_or, if◌then◌else◌, List, [], ◌∷◌, All, Option, Some, None, Result, Ok, Err, option_and_then, option_map, codes, length, map, string_bytes, take, ⊤, IsUtf8, String, Vec}
use Rattle.std.specs.Global.{Global}
use Rattle.std.specs.Option.{option_or, option_zip}
use Rattle.std.specs.BTreeMap.{BTreeMap, get}
use Rattle.std.specs.Ordering.{is_eq}
use Rattle.serde_json.specs.Data.{Data, Items, no_items}
use Rattle.serde_json.specs.Find as json
use Rattle.serde_json.specs.Read.{read}
use Rattle.papergrid_values.specs.declared.position.Position.{Position}
use Rattle.papergrid_values.specs.MapKeys.{position_cmp}
use Rattle.papergrid_config.specs.Applied.{is_in_range}
use Rattle.papergrid_config.specs.declared.setting.Setting.{Setting}
use Rattle.papergrid_json.specs.Settings.{setting_at, setting_by_word}
use Rattle.papergrid_json.specs.Spots.{each, is_list_of, is_missing, item_at, list_at, member_at, number_at, optional, text_at, when, word_at}
use Rattle.papergrid_json.specs.Values.{of_both}
use Rattle.papergrid_json.specs.declared.document.Document.{Document}
use Rattle.papergrid_json.specs.declared.document.OwnSizes.{OwnSizes}
use Rattle.papergrid_json.specs.declared.error.DocumentError.{DocumentError}
use Rattle.papergrid_json.specs.declared.error.DocumentError.TheVariants.{Memory, Syntax, Unexpected, UnknownSetting}

-- each setting may be applied
abbrev pub AreInRange : List Setting → Type 0
AreInRange settings = All (λ setting. is_in_range setting ≡ true) settings

-- the items of a list, none where nothing stands
unfoldable pub items_at : Option Data → Option Items
items_at here = if is_missing here then Some no_items else option_and_then json.as_array here

-- ---- parts of a document

-- a setting that may be applied
unfoldable pub accepted_at : Option Data → Option Setting
accepted_at here = option_and_then (λ setting. when (is_in_range setting) (Some setting)) (setting_at here)

-- [row, column, text before, text after]
unfoldable pub colored_at : Option Data → Option (Position × (List ℕ × List ℕ))
colored_at here = when (is_list_of 4 here)
    (option_zip (of_both (λ row col. record { row = row; col = col }) (number_at (item_at 0 here)) (number_at (item_at 1 here)))
    (option_zip (text_at (item_at 2 here)) (text_at (item_at 3 here))))

-- ---- a document

-- what a document has but its rows: the number of columns, settings, widths and heights of its own, colours of texts. What it does not have is none, or empty
pub record DocumentOptions : Type 0 where
  pub columns : Option ℕ
  pub settings : List Setting
  pub sizes : Option (List ℕ × List ℕ)
  pub colors : List (Position × (List ℕ × List ℕ))

-- a list, each item as it is read; no items where nothing stands
unfoldable pub optional_list_at : {A : Type 0} → (Option Data → Option A) → Option Data → Option (List A)
optional_list_at read here = option_and_then (each read) (items_at here)

-- widths and heights of one's own
abbrev pub own_sizes_at : Option Data → Option (List ℕ × List ℕ)
own_sizes_at here = option_zip (list_at number_at (member_at (codes "widths") here)) (list_at number_at (member_at (codes "heights") here))

module _ (document : Data) where
  -- this of a JSON value; nothing where it is no object, or where a part of it tells nothing
  unfoldable pub draft_in : Option DocumentOptions
  draft_in = when (is_some (json.as_object document))
      (of_both (λ first second. record { columns = first.0; settings = first.1; sizes = second.0; colors = second.1 })
      (option_zip (optional number_at (json.get (codes "columns") document)) (optional_list_at accepted_at (json.get (codes "settings") document)))
      (option_zip (optional own_sizes_at (json.get (codes "sizes") document)) (optional_list_at colored_at (json.get (codes "colors") document))))

  -- the texts of each of its rows
  unfoldable pub row_texts_in : Option (List (List (List ℕ)))
  row_texts_in = list_at (list_at text_at) (json.get (codes "records") document)

-- the number of texts of the longest row
abbrev pub longest_row : List (List (List ℕ)) → ℕ
longest_row [] = 0
longest_row (row ∷ rows) = max (length row) (longest_row rows)

-- the number of columns: as told, or that of the longest row
abbrev pub columns_of : DocumentOptions → List (List (List ℕ)) → ℕ
columns_of told rows = unwrap_or told.columns (longest_row rows)

-- whether there is a width for each column and a height for each row
abbrev pub are_enough : ℕ → ℕ → Option (List ℕ × List ℕ) → Bool
are_enough columns rows None = true
are_enough columns rows (Some sizes) = nat_le columns (length sizes.0) && nat_le rows (length sizes.1)

-- the first widths and heights, one for each column and for each row
abbrev pub fitted : ℕ → ℕ → List ℕ × List ℕ → List ℕ × List ℕ
fitted columns rows sizes = (take columns sizes.0, take rows sizes.1)

-- what a JSON value tells as a document, with the texts of its rows; nothing where its own sizes are too few
abbrev pub document_parts_in : Data → Option (DocumentOptions × List (List (List ℕ)))
document_parts_in document = option_and_then
    (λ told. when (are_enough (columns_of told.0 told.1) (length told.1) told.0.sizes) (Some told))
    (option_zip (draft_in document) (row_texts_in document))

-- the colour of the last one at a position
abbrev pub color_in : List (Position × (List ℕ × List ℕ)) → Position → Option (List ℕ × List ℕ)
color_in [] position = None
color_in (first ∷ colors) position = option_or (color_in colors position) (if is_eq (position_cmp first.0 position) then Some first.1 else None)

-- a map has the colours of a list
abbrev pub AreColors : List (Position × (List ℕ × List ℕ)) → BTreeMap Position (List ℕ × List ℕ) → Type 0
AreColors told colors = (position : Position) → get position_cmp colors position ≡ color_in told position

-- widths, and heights
abbrev pub own_sizes : OwnSizes → List ℕ × List ℕ
own_sizes sizes = (sizes.widths.items, sizes.heights.items)

-- the texts of rows
abbrev pub texts_of_rows : List (Vec (String Global) Global) → List (List (List ℕ))
texts_of_rows rows = map (λ row. map string_bytes row.items) rows

-- the texts of a document, row by row
abbrev pub document_texts : Document → List (List (List ℕ))
document_texts document = texts_of_rows document.rows.items

-- a document with what is told
pub record IsDocument (told : DocumentOptions × List (List (List ℕ))) (document : Document) : Type 0 where
  pub columns : document.columns ≡ columns_of told.0 told.1
  pub settings : document.settings.items ≡ told.0.settings
  pub rows : document_texts document ≡ told.1
  pub sizes : option_map own_sizes document.sizes ≡ option_map (fitted (columns_of told.0 told.1) (length told.1)) told.0.sizes
  pub colors : AreColors told.0.colors document.colors

-- ---- what is read

-- what a text tells as JSON
abbrev pub document_in : List ℕ → Option (DocumentOptions × List (List (List ℕ)))
document_in text = option_and_then document_parts_in (read text)

-- the setting that a text tells as JSON, if it may be applied
abbrev pub setting_in : List ℕ → Option Setting
setting_in text = option_and_then (λ value. accepted_at (Some value)) (read text)

-- the setting that stands there tells none, and this is its number and its name. No values behind this name tell one
pub record IsUnknownAt (number : ℕ) (here : Option Data) (index : ℕ) (name : List ℕ) : Type 0 where
  pub numbered : index ≡ number
  pub named : option_map (λ word. word.0) (word_at here) ≡ Some name
  pub none : setting_at here ≡ None
  pub unknown : (other : Option Data) (count : ℕ) → setting_by_word other (name, count) ≡ None

-- so it is with a setting of a list, and each one before it may be applied
pub record IsFirstUnknown (settings : Option Data) (index : ℕ) (name : List ℕ) : Type 0 where
  pub unknown : IsUnknownAt index (item_at index settings) index name
  pub first : (k : ℕ) → k < index → is_some (accepted_at (item_at k settings)) ≡ true

module _ {T A : Type 0} (found_in : List ℕ → Option T) (Is : T → A → Type 0) (IsUnknown : Data → ℕ → List ℕ → Type 0) where
  -- a value is read of a text in UTF-8 that tells it so; a text that is refused is no JSON in UTF-8, or tells none
  abbrev pub IsReadBy : List ℕ → Result A DocumentError → Type 0
  IsReadBy text (Ok value) = IsUtf8 text × ((told : T) × (found_in text ≡ Some told) × Is told value)
  IsReadBy text (Err Memory) = ⊤
  IsReadBy text (Err (Syntax line byte)) = IsUtf8 text → read text ≡ None
  IsReadBy text (Err (Unexpected path wanted)) = IsUtf8 text × (is_some (read text) ≡ true) × (found_in text ≡ None)
  IsReadBy text (Err (UnknownSetting index name)) =
      IsUtf8 text × (found_in text ≡ None) × ((value : Data) × (read text ≡ Some value) × IsUnknown value index (string_bytes name))

-- a document is read so
abbrev pub IsDocumentRead : List ℕ → Result Document DocumentError → Type 0
IsDocumentRead = IsReadBy document_in IsDocument (λ value. IsFirstUnknown (json.get (codes "settings") value))

-- a setting is
abbrev pub IsSettingRead : List ℕ → Result Setting DocumentError → Type 0
IsSettingRead = IsReadBy setting_in (λ told setting. setting ≡ told) (λ value. IsUnknownAt 0 (Some value))
