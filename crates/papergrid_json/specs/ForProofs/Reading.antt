-- What private functions read, and a document while it is read.
use Rattle.std.specs.Prelude.{◌≡◌, ℕ, Bool, true, false, List, Option, Some, None, Result, Ok, Err, codes, length, option_map, string_bytes, unwrap_or, ⊤, IsUtf8, Vec}
use Rattle.std.specs.Global.{Global}
use Rattle.serde_json.specs.Data.{Data}
use Rattle.serde_json.specs.Find as json
use Rattle.serde_json.specs.Read.{read}
use Rattle.serde_json.specs.View.{view}
use Rattle.serde_json.specs.declared.value.Value.{Value}
use Rattle.papergrid_json.specs.Documents.{AreColors, IsDocument, IsFirstUnknown, DocumentOptions, document_parts_in, are_enough, fitted, document_texts, longest_row, own_sizes}
use Rattle.papergrid_json.specs.Settings.{setting_names}
use Rattle.papergrid_json.specs.Values.{is_named}
use Rattle.papergrid_json.specs.declared.document.Document.{Document}
use Rattle.papergrid_json.specs.declared.document.Draft.{Draft}
use Rattle.papergrid_json.specs.declared.document.OwnSizes.{OwnSizes}
use Rattle.papergrid_json.specs.declared.error.DocumentError.{DocumentError}
use Rattle.papergrid_json.specs.declared.error.DocumentError.TheVariants as document_error
use Rattle.papergrid_json.specs.declared.spot.Spot.{Spot}
use Rattle.papergrid_json.specs.declared.error.Fault.{Fault}
use Rattle.papergrid_json.specs.declared.error.Fault.TheVariants as fault

-- what stands there, if something does
abbrev pub found : Spot → Option Data
found spot = option_map (λ value. view value.now) spot.value

-- what is read is what is told; nothing is told where another value is wanted
abbrev pub IsReading : {A : Type 0} → Option A → Result A Fault → Type 0
IsReading told (Ok value) = told ≡ Some value
IsReading told (Err fault.Memory) = ⊤
IsReading told (Err (fault.Unexpected at wanted)) = told ≡ None
IsReading told (Err (fault.UnknownSetting index name)) = ⊥

-- the same, where a setting may have no name of theirs, of which this is known
abbrev pub IsReadingOr : {A : Type 0} → (ℕ → List ℕ → Type 0) → Option A → Result A Fault → Type 0
IsReadingOr IsUnknown told (Ok value) = told ≡ Some value
IsReadingOr IsUnknown told (Err fault.Memory) = ⊤
IsReadingOr IsUnknown told (Err (fault.Unexpected at wanted)) = told ≡ None
IsReadingOr IsUnknown told (Err (fault.UnknownSetting index name)) = (told ≡ None) × IsUnknown index name.now

-- what is read is as what is told by this relation
abbrev pub IsReadingAs : {A B : Type 0} → (A → B → Type 0) → Option A → Result B Fault → Type 0
IsReadingAs {A} Is told (Ok value) = (it : A) × (told ≡ Some it) × Is it value
IsReadingAs Is told (Err fault.Memory) = ⊤
IsReadingAs Is told (Err (fault.Unexpected at wanted)) = told ≡ None
IsReadingAs Is told (Err (fault.UnknownSetting index name)) = ⊥

-- the same, where a setting may have no name of theirs
abbrev pub IsReadingAsOr : {A B : Type 0} → (ℕ → List ℕ → Type 0) → (A → B → Type 0) → Option A → Result B Fault → Type 0
IsReadingAsOr {A} IsUnknown Is told (Ok value) = (it : A) × (told ≡ Some it) × Is it value
IsReadingAsOr IsUnknown Is told (Err fault.Memory) = ⊤
IsReadingAsOr IsUnknown Is told (Err (fault.Unexpected at wanted)) = told ≡ None
IsReadingAsOr IsUnknown Is told (Err (fault.UnknownSetting index name)) = (told ≡ None) × IsUnknown index name.now

-- another value is wanted
abbrev pub IsUnexpected : Fault → Type 0
IsUnexpected (fault.Unexpected at wanted) = ⊤
IsUnexpected (fault.UnknownSetting index name) = ⊥
IsUnexpected fault.Memory = ⊥

-- another value is wanted, or a setting has no name of theirs: this is its number, and this its name
abbrev pub IsUnlike : ℕ → List ℕ → Fault → Type 0
IsUnlike number word (fault.Unexpected at wanted) = ⊤
IsUnlike number word (fault.UnknownSetting index name) = (index ≡ number) × (name.now ≡ word) × (is_named word setting_names ≡ false)
IsUnlike number word fault.Memory = ⊥

-- a vector of these
abbrev pub AreItems : {A : Type 0} → List A → Vec A Global → Type 0
AreItems told items = items.items ≡ told

-- what is read is what is told, or nothing where nothing is; nothing is told where another value is wanted
abbrev pub IsReadingOrNone : {A : Type 0} → Option A → Result (Option A) Fault → Type 0
IsReadingOrNone told (Ok value) = told ≡ value
IsReadingOrNone told (Err fault.Memory) = ⊤
IsReadingOrNone told (Err (fault.Unexpected at wanted)) = told ≡ None
IsReadingOrNone told (Err (fault.UnknownSetting index name)) = ⊥

-- a test is passed exactly where this is so
abbrev pub IsTest : Bool → Result ⊤ Fault → Type 0
IsTest so (Ok passed) = so ≡ true
IsTest so (Err fault.Memory) = ⊤
IsTest so (Err (fault.Unexpected at wanted)) = so ≡ false
IsTest so (Err (fault.UnknownSetting index name)) = ⊥

-- the JSON value that a text is, or why it is none
abbrev pub IsJsonRead : List ℕ → Result Value DocumentError → Type 0
IsJsonRead text (Ok value) = IsUtf8 text × (read text ≡ Some (view value))
IsJsonRead text (Err document_error.Memory) = ⊤
IsJsonRead text (Err (document_error.Syntax line byte)) = IsUtf8 text → read text ≡ None
IsJsonRead text (Err error) = ⊥

-- what is read of a JSON value: what it tells, where it tells a document
abbrev pub IsTableRead : Data → Result Document DocumentError → Type 0
IsTableRead value (Ok document) = (told : DocumentOptions × List (List (List ℕ))) × (document_parts_in value ≡ Some told) × IsDocument told document
IsTableRead value (Err document_error.Memory) = ⊤
IsTableRead value (Err (document_error.Syntax line byte)) = ⊥
IsTableRead value (Err (document_error.Unexpected path wanted)) = document_parts_in value ≡ None
IsTableRead value (Err (document_error.UnknownSetting index name)) =
    (document_parts_in value ≡ None) × IsFirstUnknown (json.get (codes "settings") value) index (string_bytes name)

-- a fault in words of its own, or out of memory
abbrev pub IsErrorOf : Fault → DocumentError → Type 0
IsErrorOf f document_error.Memory = ⊤
IsErrorOf (fault.Unexpected at wanted) (document_error.Unexpected path words) = words ≡ wanted
IsErrorOf (fault.UnknownSetting index name) (document_error.UnknownSetting number word) = (number ≡ index) × (string_bytes word ≡ name.now)
IsErrorOf f error = ⊥

-- the draft of what is told
pub record IsDraft (told : DocumentOptions) (draft : Draft) : Type 0 where
  pub columns : draft.columns ≡ told.columns
  pub settings : draft.settings.items ≡ told.settings
  pub sizes : option_map own_sizes draft.sizes ≡ told.sizes
  pub colors : AreColors told.colors draft.colors

-- sizes that are enough are cut
abbrev pub AreOwnSizes : ℕ → ℕ → Option (List ℕ × List ℕ) → Result (Option OwnSizes) Fault → Type 0
AreOwnSizes columns rows told (Ok sizes) = (are_enough columns rows told ≡ true) × (option_map own_sizes sizes ≡ option_map (fitted columns rows) told)
AreOwnSizes columns rows told (Err e) = (are_enough columns rows told ≡ false) × IsUnexpected e

module _ (draft : Draft) (texts : List (List (List ℕ))) where
  abbrev pub draft_columns : ℕ
  draft_columns = unwrap_or draft.columns (longest_row texts)

  -- the document of a draft and these rows
  pub record IsOfDraft (document : Document) : Type 0 where
    pub columns : document.columns ≡ draft_columns
    pub settings : document.settings ≡ draft.settings
    pub rows : document_texts document ≡ texts
    pub sizes : option_map own_sizes document.sizes ≡ option_map (fitted draft_columns (length texts)) (option_map own_sizes draft.sizes)
    pub colors : document.colors ≡ draft.colors

  abbrev pub IsFinished : Result Document Fault → Type 0
  IsFinished (Ok document) = (are_enough draft_columns (length texts) (option_map own_sizes draft.sizes) ≡ true) × IsOfDraft document
  IsFinished (Err e) = (are_enough draft_columns (length texts) (option_map own_sizes draft.sizes) ≡ false) × IsUnexpected e
