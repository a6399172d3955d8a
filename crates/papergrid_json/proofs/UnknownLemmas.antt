-- Settings that have no name of theirs.
use Rattle.std.proofs.Common.{◌≡◌, ◌<◌, ◌+◌, ◌||◌, ◌==◌, ℕ, zero, suc, Bool, true, false, true≢false, List, [], ◌∷◌, Option, Some, None, Err, length, get_or, arith, lit<, inl, inr, refl, sym, ap, subst, ◌∙◌}
use Rattle.std.specs.Prelude.{bytes_eq, if◌then◌else◌, is_some, option_and_then, option_map}
use Rattle.std.proofs.lemmas.Bool.{cases_lt}
use Rattle.serde_json.specs.Data.{Data}
use Rattle.papergrid_values.specs.declared.offset.Offset.{Offset}
use Rattle.papergrid_values.specs.declared.position.Position.{Position}
use Rattle.papergrid_config.specs.declared.setting.Setting.{Setting}
use Rattle.papergrid_json.specs.Documents.{IsFirstUnknown, IsUnknownAt, accepted_at}
use Rattle.papergrid_json.specs.ForProofs.Reading.{IsReadingOr, IsUnlike}
use Rattle.papergrid_json.specs.Settings.{bare_setting, cell_setting, character_setting, entity_setting, line_setting, setting_at, setting_by_word, setting_names, table_setting}
use Rattle.papergrid_json.specs.Spots.{item_at, word_at}
use Rattle.papergrid_json.specs.Values.{is_named}
use Rattle.papergrid_json.specs.declared.error.Fault.{Fault}
use Rattle.papergrid_json.specs.declared.error.Fault.TheVariants.{Memory, Unexpected, UnknownSetting}

-- ---- a name that is none of theirs

neither : (a b : Bool) → (a || b) ≡ false → (a ≡ false) × (b ≡ false)
neither true b h = absurd (true≢false h)
neither false b h = (refl, h)

-- a name that is none of these differs from each
not_named : (name : List ℕ) (names : List (List ℕ)) → is_named name names ≡ false → (k : ℕ) → k < length names → bytes_eq name (get_or names k []) ≡ false
not_named name [] h k less = absurd (omega (arith, less))
not_named name (first ∷ names) h zero less = (neither (bytes_eq name first) (is_named name names) h).0
not_named name (first ∷ names) h (suc k) less = not_named name names (neither (bytes_eq name first) (is_named name names) h).1 k (omega (arith, less))

module _ (name : List ℕ) (none : is_named name setting_names ≡ false) where
  other : (k : ℕ) → k < 41 → bytes_eq name (get_or setting_names k []) ≡ false
  other = not_named name setting_names none

  no_bare : bare_setting name ≡ None
  unfolding bare_setting
  no_bare = rw (other 0 (lit< tt), other 1 (lit< tt), other 2 (lit< tt), other 3 (lit< tt), other 4 (lit< tt), other 5 (lit< tt), other 6 (lit< tt), other 7 (lit< tt)) refl

  no_table : (value : Option Data) → table_setting name value ≡ None
  unfolding table_setting
  no_table value = rw (other 8 (lit< tt), other 9 (lit< tt), other 10 (lit< tt), other 11 (lit< tt), other 12 (lit< tt), other 13 (lit< tt), other 14 (lit< tt), other 15 (lit< tt), other 35 (lit< tt), other 36 (lit< tt)) refl

  module _ (first second : Option Data) where
    no_cell : cell_setting name first second ≡ None
    unfolding cell_setting
    no_cell = rw (other 29 (lit< tt), other 30 (lit< tt), other 31 (lit< tt), other 32 (lit< tt), other 33 (lit< tt), other 34 (lit< tt)) refl

    no_entity : entity_setting name first second ≡ None
    unfolding entity_setting
    no_entity = rw (other 20 (lit< tt), other 21 (lit< tt), other 22 (lit< tt), other 23 (lit< tt), other 24 (lit< tt), other 25 (lit< tt), other 26 (lit< tt), other 27 (lit< tt), other 28 (lit< tt)) no_cell

    no_line : line_setting name first second ≡ None
    unfolding line_setting
    no_line = rw (other 16 (lit< tt), other 17 (lit< tt), other 18 (lit< tt), other 19 (lit< tt)) no_entity

  no_character : (at : Option (Position × Offset)) (value : Option Data) → character_setting name at value ≡ None
  unfolding character_setting
  no_character at value = rw (other 37 (lit< tt), other 38 (lit< tt), other 39 (lit< tt), other 40 (lit< tt)) refl

  either_none : (b : Bool) (x y : Option Setting) → x ≡ None → y ≡ None → (if b then x else y) ≡ None
  either_none true x y first second = first
  either_none false x y first second = second

  -- whatever stands behind it, it tells no setting
  no_setting : (here : Option Data) (count : ℕ) → setting_by_word here (name, count) ≡ None
  no_setting here count =
      either_none (count == 0) _ _ no_bare (either_none (count == 1) _ _ (no_table _) (either_none (count == 2) _ _ (no_line _ _)
      (either_none (count == 3) _ _ (no_character _ _) refl)))

-- a setting that is like none
pub unlike_read : (number : ℕ) (here : Option Data) (word : List ℕ × ℕ) (fault : Fault) → word_at here ≡ Some word → setting_by_word here word ≡ None → IsUnlike number word.0 fault
    → IsReadingOr (IsUnknownAt number here) (setting_at here) (Err fault)
unfolding setting_at
unlike_read number here word fault at none unlike = by_fault fault unlike
  where
    tells_none : setting_at here ≡ None
    tells_none = ap (option_and_then (setting_by_word here)) at ∙ none

    by_fault : (fault : Fault) → IsUnlike number word.0 fault → IsReadingOr (IsUnknownAt number here) (setting_at here) (Err fault)
    by_fault Memory unlike = absurd unlike
    by_fault (Unexpected path wanted) unlike = tells_none
    by_fault (UnknownSetting index name) unlike = (
      tells_none,
      record {
        numbered = unlike.0;
        named = ap (option_map (λ word. word.0)) at ∙ ap Some (sym unlike.1);
        none = tells_none;
        unknown = subst (λ name. (other : Option Data) (count : ℕ) → setting_by_word other (name, count) ≡ None) (sym unlike.1) (no_setting word.0 unlike.2);
      },
    )

-- ---- in a list

module _ (settings spot : Option Data) (n : ℕ) (at : spot ≡ item_at n settings) (before : (k : ℕ) → k < n → is_some (accepted_at (item_at k settings)) ≡ true) where
  -- each one up to the next may be applied
  pub accepted_more : (setting : Setting) → accepted_at spot ≡ Some setting → (k : ℕ) → k < n + 1 → is_some (accepted_at (item_at k settings)) ≡ true
  accepted_more setting is k less = elim (cases_lt k n) [
    | inl earlier ↦ before k earlier
    | inr here ↦ (let same : k ≡ n = omega (arith, less, here) in ap (λ k. is_some (accepted_at (item_at k settings))) same ∙ ap (λ o. is_some (accepted_at o)) (sym at) ∙ ap is_some is)
  ]

  -- the next one has no name of theirs
  pub first_unknown : (index : ℕ) (name : List ℕ) → IsUnknownAt n spot index name → IsFirstUnknown settings index name
  first_unknown index name is =
      let there : item_at index settings ≡ spot = ap (λ k. item_at k settings) is.numbered ∙ sym at in
      record {
        unknown = record {
          numbered = refl;
          named = ap (λ o. option_map (λ word. word.0) (word_at o)) there ∙ is.named;
          none = ap setting_at there ∙ is.none;
          unknown = is.unknown;
        };
        first = λ k less. before k (omega (arith, less, is.numbered));
      }
