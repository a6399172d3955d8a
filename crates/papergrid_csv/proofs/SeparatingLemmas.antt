-- Where the characters of a request are separators, so are those that the settings of its tables set, with those that fit crossings.
use Rattle.std.proofs.Common.{◌≡◌, ◌∙◌, ℕ, Bool, true, false, List, [], ◌∷◌, All, Option, Some, None, ap, cond, flat_map, get_or, length, lit<, map, refl, subst}
use Rattle.std.specs.Prelude.{nat_lt}
use Rattle.std.specs.List.{AllPass, list_all}
use Rattle.std.proofs.lemmas.List.Elements.{All-head, All-tail, Contains-get_or}
use Rattle.std.proofs.lemmas.List.Folds.{list_all-append}
use Rattle.std.proofs.lemmas.List.Sums.{AllPass-from_list_all, list_all-from_AllPass}
use Rattle.papergrid_values.specs.declared.alignment.AlignmentHorizontal.{AlignmentHorizontal}
use Rattle.papergrid_values.specs.declared.alignment.AlignmentVertical.{AlignmentVertical}
use Rattle.papergrid_values.specs.declared.entity.Entity.{Entity}
use Rattle.papergrid_values.specs.declared.entity.Entity.TheVariants.{Global}
use Rattle.papergrid_values.specs.declared.horizontal_line.HorizontalLine.{HorizontalLine}
use Rattle.papergrid_text.specs.Separators.{is_separator}
use Rattle.papergrid_values.specs.declared.position.Position.{Position}
use Rattle.papergrid_config.specs.declared.setting.Setting.{Setting}
use Rattle.papergrid_config.specs.declared.setting.Setting.TheVariants.{InsertHorizontalLine, SetAlignmentHorizontal, SetAlignmentVertical, SetBorders, SetPadding}
use Rattle.papergrid_config.specs.declared.spanned.SpannedConfig.{SpannedConfig}
use Rattle.papergrid_draw.specs.Separated.{part_separates, setting_separates}
use Rattle.papergrid_draw.specs.Crossings.{IsUnfit, crossing_setting, junction}
use Rattle.papergrid_draw.specs.declared.crossings.Junctions.{Junctions}
use Rattle.papergrid_csv.specs.Pictures.{AreFitted}
use Rattle.papergrid_csv.specs.Requests.{IsSeparating, fitting_characters, head_line, head_parts, settings_of, span_settings}
use Rattle.papergrid_csv.specs.declared.request.Request.{Request}
use Rattle.papergrid_csv.proofs.RequestLemmas.{others, others-all, spans-all}

-- ---- settings of a table

module _ (test : Setting → Bool) (aligned : (entity : Entity) (alignment : AlignmentHorizontal) → test (SetAlignmentHorizontal entity alignment) ≡ true)
    (vertical : (entity : Entity) (alignment : AlignmentVertical) → test (SetAlignmentVertical entity alignment) ≡ true) where
  head-passes : (head : Option (HorizontalLine ℕ)) (rows : ℕ) → ((line : HorizontalLine ℕ) → head ≡ Some line → test (InsertHorizontalLine 1 line) ≡ true) → list_all test (head_line head rows) ≡ true
  head-passes None rows passes = refl
  head-passes (Some line) rows passes = by (nat_lt 1 rows)
    where
      by : (b : Bool) → list_all test (cond b (InsertHorizontalLine 1 line ∷ []) []) ≡ true
      by true = rw (passes line refl) refl
      by false = refl

  -- all pass a test that those of the lines, of the padding and of the spans pass
  settings-pass : (request : Request) → All (λ s. test s ≡ true) (flat_map span_settings request.spans.items) → test (SetBorders request.frame) ≡ true →
      ((line : HorizontalLine ℕ) → request.head ≡ Some line → test (InsertHorizontalLine 1 line) ≡ true) → test (SetPadding Global request.padding) ≡ true →
      (columns : ℕ) (rows : List (List (List ℕ))) → list_all test (settings_of request columns rows) ≡ true
  settings-pass request spans frame line padding columns rows =
      let head = head-passes request.head (length rows) line in
      let rest = list_all-from_AllPass test (others request columns rows) (others-all (λ s. test s ≡ true) aligned vertical request columns rows spans) in
      rw frame (list_all-append test (head_line request.head (length rows)) (SetPadding Global request.padding ∷ others request columns rows) ∙ rw (head, padding, rest) refl)

pub settings-separate : (request : Request) → IsSeparating request → (columns : ℕ) (rows : List (List (List ℕ))) → list_all setting_separates (settings_of request columns rows) ≡ true
settings-separate request so =
    settings-pass setting_separates (λ _ _. refl) (λ _ _. refl) request (spans-all (λ s. setting_separates s ≡ true) (λ _ _. refl) (λ _ _. refl) request.spans.items) so.frame
    (λ line is. subst (λ head. list_all part_separates (head_parts head) ≡ true) is so.head) so.padding

-- ---- settings of crossings

chosen : (own character : ℕ) → is_separator own ≡ true → Some own ≡ Some character → is_separator character ≡ true
chosen own character passes is = subst (λ c. is_separator c ≡ true) (let same : own ≡ character = cc in same) passes

-- the character that joins lines is one of the eleven
junction-separates : (junctions : Junctions) → AllPass is_separator (fitting_characters (Some junctions)) → (above below left right : Bool) (character : ℕ) →
    junction junctions above below left right ≡ Some character → is_separator character ≡ true
junction-separates j all true true true true character is = chosen j.intersection character (all 6 0 (lit< tt)) is
junction-separates j all true true false true character is = chosen j.left_intersection character (all 5 0 (lit< tt)) is
junction-separates j all true true true false character is = chosen j.right_intersection character (all 7 0 (lit< tt)) is
junction-separates j all false true true true character is = chosen j.top_intersection character (all 3 0 (lit< tt)) is
junction-separates j all true false true true character is = chosen j.bottom_intersection character (all 9 0 (lit< tt)) is
junction-separates j all false true false true character is = chosen j.top_left character (all 2 0 (lit< tt)) is
junction-separates j all false true true false character is = chosen j.top_right character (all 4 0 (lit< tt)) is
junction-separates j all true false false true character is = chosen j.bottom_left character (all 8 0 (lit< tt)) is
junction-separates j all true false true false character is = chosen j.bottom_right character (all 10 0 (lit< tt)) is
junction-separates j all true true false false character is = chosen j.vertical character (all 1 0 (lit< tt)) is
junction-separates j all false false true true character is = chosen j.horizontal character (all 0 0 (lit< tt)) is
junction-separates j all true false false false character is = cc
junction-separates j all false true false false character is = cc
junction-separates j all false false true false character is = cc
junction-separates j all false false false true character is = cc
junction-separates j all false false false false character is = cc

crossings-separate : (config : SpannedConfig) (shape : ℕ × ℕ) (junctions : Junctions) → AllPass is_separator (fitting_characters (Some junctions)) → (crossings : List (Position × ℕ)) →
    All (λ crossing. IsUnfit config shape junctions crossing.0 crossing.1) crossings → list_all setting_separates (map crossing_setting crossings) ≡ true
crossings-separate config shape junctions separate [] all = refl
crossings-separate config shape junctions separate (crossing ∷ crossings) all =
    let unfit = All-head (λ c. IsUnfit config shape junctions c.0 c.1) crossing crossings all in
    let own : is_separator crossing.1 ≡ true = junction-separates junctions separate _ _ _ _ crossing.1 unfit.joins in
    let first : setting_separates (crossing_setting crossing) ≡ true = rw own refl in
    rw first (crossings-separate config shape junctions separate crossings (All-tail (λ c. IsUnfit config shape junctions c.0 c.1) crossing crossings all))

pub fitted-separate : (junctions : Option Junctions) (settings : List Setting) (shape : ℕ × ℕ) (config : SpannedConfig) (fitted : List Setting) → list_all is_separator (fitting_characters junctions) ≡ true →
    AreFitted junctions settings shape config fitted → list_all setting_separates fitted ≡ true
fitted-separate None settings shape config fitted separate are = ap (list_all setting_separates) are
fitted-separate (Some junctions) settings shape config fitted separate are =
    ap (list_all setting_separates) are.2.are
    ∙ crossings-separate are.0 shape junctions (AllPass-from_list_all is_separator (fitting_characters (Some junctions)) separate) are.2.crossings
    (λ k d within. let crossing = get_or are.2.crossings k d in (are.2.each crossing.0 crossing.1).0 (Contains-get_or are.2.crossings k d within))
