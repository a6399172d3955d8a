-- A document by its parts.
use Rattle.std.proofs.Common.{◌≡◌, ℕ, List, ◌∷◌, Bool, true, false, Option, Some, None, Result, Ok, Err, BTreeMap, String, Global, refl, sym, ap, subst, ◌∙◌, string_bytes}
use Rattle.std.specs.Option.{option_zip}
use Rattle.std.specs.Prelude.{codes, is_some, length, unwrap_or, option_and_then, option_map, IfOk}
use Rattle.std.specs.Ordering.{nat_cmp}
use Rattle.std.specs.BTreeMap.{get, get_by}
use Rattle.papergrid_values.specs.MapKeys.{position_cmp}
use Rattle.std.specs.Cmp.Lexicographic.{slice_cmp}
use Rattle.std.proofs.lemmas.List.Elements.{All-cons, All-nil}
use Rattle.std.proofs.lemmas.Option.{none-some, same_Some}
use Rattle.serde_json.specs.Data.{Data, Items, no_items, item}
use Rattle.serde_json.specs.Find as json
use Rattle.serde_json.specs.View.{view}
use Rattle.serde_json.specs.declared.value.Value.{Value, Object}
use Rattle.serde_json.proofs.Views.{view-lookup, view-Object}
use Rattle.papergrid_config.specs.Applied.{is_in_range}
use Rattle.papergrid_config.specs.declared.setting.Setting.{Setting}
use Rattle.papergrid_values.specs.declared.position.Position.{Position}
use Rattle.papergrid_json.specs.Documents.{AreInRange, IsDocument, DocumentOptions, accepted_at, are_enough, colored_at, columns_of, draft_in, items_at, fitted, longest_row, optional_list_at, own_sizes_at, row_texts_in, own_sizes, document_parts_in}
use Rattle.papergrid_json.specs.ForProofs.Reading.{IsDraft, IsFinished, IsOfDraft, IsTableRead, draft_columns}
use Rattle.papergrid_json.specs.Settings.{setting_at}
use Rattle.papergrid_json.specs.Spots.{each, number_at, optional, when}
use Rattle.papergrid_json.specs.declared.document.Document.{Document}
use Rattle.papergrid_json.specs.declared.document.Draft.{Draft}
use Rattle.papergrid_json.specs.declared.error.DocumentError.{DocumentError}

-- what stands at a name of an object
pub member_view : (name : List ℕ) (members : BTreeMap (String Global) Value) → option_map view (get_by (λ k. slice_cmp nat_cmp name (string_bytes k)) members) ≡ json.get name (view (Object members))
member_view name members = view-lookup name members.entries ∙ ap (json.get name) (sym (view-Object members))

-- ---- what is accepted is in range

when_some : {A : Type 0} (so : Bool) (a b : A) → when so (Some a) ≡ Some b → (so ≡ true) × (a ≡ b)
when_some true a b h = (refl, same_Some _ _ h)
when_some false a b h = absurd (none-some b h)

accepted_in_range : (here : Option Data) (setting : Setting) → accepted_at here ≡ Some setting → is_in_range setting ≡ true
unfolding accepted_at
accepted_in_range here setting h = by_setting (setting_at here) h
  where
    by_setting : (o : Option Setting) → option_and_then (λ s. when (is_in_range s) (Some s)) o ≡ Some setting → is_in_range setting ≡ true
    by_setting None h = absurd (none-some setting h)
    by_setting (Some s) h = let both = when_some (is_in_range s) s setting h in subst (λ s. is_in_range s ≡ true) both.1 both.0

zip_some : {A B : Type 0} (a : Option A) (b : Option B) (both : A × B) → option_zip a b ≡ Some both → (a ≡ Some both.0) × (b ≡ Some both.1)
zip_some None b both h = absurd (none-some both h)
zip_some (Some a) None both h = absurd (none-some both h)
zip_some (Some a) (Some b) both h = let same = same_Some _ _ h in (ap (λ p. Some p.0) same, ap (λ p. Some p.1) same)

each_in_range : (items : Items) (settings : List Setting) → each accepted_at items ≡ Some settings → AreInRange settings
each_in_range no_items settings h = subst AreInRange (same_Some _ _ h) (All-nil (λ setting. is_in_range setting ≡ true))
each_in_range (item first items) settings h = by_parts (accepted_at (Some first)) (each accepted_at items) refl (each_in_range items) h
  where
    by_parts : (one : Option Setting) (more : Option (List Setting)) → accepted_at (Some first) ≡ one → ((listed : List Setting) → more ≡ Some listed → AreInRange listed)
        → option_map (λ told. told.0 ∷ told.1) (option_zip one more) ≡ Some settings → AreInRange settings
    by_parts None more is are h = absurd (none-some settings h)
    by_parts (Some one) None is are h = absurd (none-some settings h)
    by_parts (Some one) (Some more) is are h =
        subst AreInRange (same_Some _ _ h) (All-cons (λ setting. is_in_range setting ≡ true) one more (accepted_in_range (Some first) one is) (are more refl))

listed_in_range : (here : Option Data) (settings : List Setting) → optional_list_at accepted_at here ≡ Some settings → AreInRange settings
unfolding optional_list_at
listed_in_range here settings h = by_items (items_at here) h
  where
    by_items : (items : Option Items) → option_and_then (each accepted_at) items ≡ Some settings → AreInRange settings
    by_items None h = absurd (none-some settings h)
    by_items (Some items) h = each_in_range items settings h

when_told : {A : Type 0} (so : Bool) (o : Option A) (a : A) → when so o ≡ Some a → o ≡ Some a
when_told true o a h = h
when_told false o a h = absurd (none-some a h)

made : {A B : Type 0} (f : A → B) (o : Option A) (b : B) → option_map f o ≡ Some b → (a : A) × (o ≡ Some a) × (f a ≡ b)
made f None b h = absurd (none-some b h)
made f (Some a) b h = (a, refl, same_Some _ _ h)

draft_in_range : (document : Data) (told : DocumentOptions) → draft_in document ≡ Some told → AreInRange told.settings
unfolding draft_in
draft_in_range document told h =
    let parts = made _ _ told (when_told (is_some (json.as_object document)) _ told h) in
    let both = zip_some _ _ parts.0 parts.1 in
    subst (λ (t : DocumentOptions). AreInRange t.settings) parts.2 (listed_in_range _ _ (zip_some _ _ parts.0.0 both.0).1)

told_in_range : (document : Data) (told : DocumentOptions × List (List (List ℕ))) → document_parts_in document ≡ Some told → AreInRange told.0.settings
told_in_range document told h = by_both (option_zip (draft_in document) (row_texts_in document)) refl h
  where
    by_both : (o : Option (DocumentOptions × List (List (List ℕ)))) → option_zip (draft_in document) (row_texts_in document) ≡ o
        → option_and_then (λ t. when (are_enough (columns_of t.0 t.1) (length t.1) t.0.sizes) (Some t)) o ≡ Some told → AreInRange told.0.settings
    by_both None is h = absurd (none-some told h)
    by_both (Some t) is h =
        let same = (when_some _ t told h).1 in
        draft_in_range document told.0 (zip_some _ _ told (is ∙ ap Some same)).0

-- each setting of a document that was read is in range
pub read_in_range : (value : Data) (result : Result Document DocumentError) → IsTableRead value result → IfOk result (λ document. AreInRange document.settings.items)
read_in_range value (Ok document) h = subst AreInRange (sym h.2.settings) (told_in_range value h.0 h.1)
read_in_range value (Err e) h = tt

-- ---- a document is told by its parts

pub draft_told : (document : Data) (columns : Option ℕ) (settings : List Setting) (sizes : Option (List ℕ × List ℕ)) (colors : List (Position × (List ℕ × List ℕ)))
    → is_some (json.as_object document) ≡ true → optional number_at (json.get (codes "columns") document) ≡ Some columns
    → optional_list_at accepted_at (json.get (codes "settings") document) ≡ Some settings → optional own_sizes_at (json.get (codes "sizes") document) ≡ Some sizes
    → optional_list_at colored_at (json.get (codes "colors") document) ≡ Some colors → draft_in document ≡ Some (record { columns = columns; settings = settings; sizes = sizes; colors = colors })
unfolding draft_in
draft_told document columns settings sizes colors an_object a b c d = rw (an_object, a, b, c, d) refl

module _ (value : Data) (told : DocumentOptions) (draft : Draft) (rows : List (List (List ℕ))) (document : Document) where
  pub is_told : draft_in value ≡ Some told → row_texts_in value ≡ Some rows → IsDraft told draft → are_enough (draft_columns draft rows) (length rows) (option_map own_sizes draft.sizes) ≡ true
      → document_parts_in value ≡ Some (told, rows)
  is_told a b is enough =
      let enough_told : are_enough (columns_of told rows) (length rows) told.sizes ≡ true = subst (λ columns. are_enough columns (length rows) told.sizes ≡ true) (same_columns is) (subst (λ sizes. are_enough (draft_columns draft rows) (length rows) sizes ≡ true) is.sizes enough) in
      rw (a, b, enough_told) refl
    where
      same_columns : IsDraft told draft → draft_columns draft rows ≡ columns_of told rows
      same_columns is = ap (λ columns. unwrap_or columns (longest_row rows)) is.columns

  pub is_document : IsDraft told draft → IsOfDraft draft rows document → IsDocument (told, rows) document
  is_document is of =
      let same : draft_columns draft rows ≡ columns_of told rows = ap (λ columns. unwrap_or columns (longest_row rows)) is.columns in
      record {
        columns = of.columns ∙ same;
        settings = ap (λ settings. settings.items) of.settings ∙ is.settings;
        rows = of.rows;
        sizes = of.sizes ∙ ap (option_map (fitted (draft_columns draft rows) (length rows))) is.sizes ∙ ap (λ columns. option_map (fitted columns (length rows)) told.sizes) same;
        colors = λ position. ap (λ colors. get position_cmp colors position) of.colors ∙ is.colors position;
      }

pub finished_document : (value : Data) (told : DocumentOptions) (draft : Draft) (rows texts : List (List (List ℕ))) (document : Document)
    → draft_in value ≡ Some told → row_texts_in value ≡ Some rows → IsDraft told draft → texts ≡ rows → IsFinished draft texts (Ok document)
    → IsTableRead value (Ok document)
finished_document value told draft rows texts document a b is same done =
    let of = subst (λ texts. IsFinished draft texts (Ok document)) same done in
    ((told, rows), is_told value told draft rows document a b is of.0, is_document value told draft rows document is of.1)
