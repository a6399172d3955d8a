-- What is added for a segment of a horizontal line, by the characters and colours that are looked up.
use Rattle.std.proofs.Common.{◌≡◌, ◌∙◌, ◌+◌, ℕ, Bool, true, false, cond, eqb, List, [], ◌∷◌, ◌++◌, Option, Some, None, ap, map, refl, subst, sym, zero-add}
use Rattle.std.specs.List.{flat_map, range_with_len}
use Rattle.std.specs.Option.{option_or}
use Rattle.std.specs.Prelude.{unwrap_or}
use Rattle.std.proofs.lemmas.List.{flat_map_more}
use Rattle.std.proofs.lemmas.List.FromFn.{map-range_with_len_more}
use Rattle.papergrid_config.specs.Lines.{found_or_missing}
use Rattle.papergrid_draw.specs.Bytes.{mark_bytes}
use Rattle.papergrid_draw.specs.Characters.{Mark}
use Rattle.papergrid_draw.specs.Drawn.{OnLine}
use Rattle.papergrid_draw.specs.ForProofs.Pens.{AddsStretches, line_mark}
use Rattle.papergrid_draw.proofs.StretchLemmas.{AddsStretches-nil}

-- ---- where there is a line with no character, the missing one is shown, as where there is no line

shown_is_found : (found : Option ℕ) (is_line : Bool) (missing : ℕ) → unwrap_or (found_or_missing found is_line missing) missing ≡ unwrap_or found missing
shown_is_found (Some character) is_line missing = refl
shown_is_found None true missing = refl
shown_is_found None false missing = refl

own_or_shown : (own found : Option ℕ) (is_line : Bool) (missing : ℕ)
    → unwrap_or (option_or own (found_or_missing found is_line missing)) missing ≡ unwrap_or (option_or own found) missing
own_or_shown (Some character) found is_line missing = refl
own_or_shown None found is_line missing = shown_is_found found is_line missing

module _ (found : Option ℕ) (is_line : Bool) (missing : ℕ) {shown : Option ℕ} {character default : ℕ} where
  pub character_shown : character ≡ unwrap_or shown default → shown ≡ found_or_missing found is_line missing → default ≡ missing
      → character ≡ unwrap_or found missing
  character_shown is shown_is default_is = is ∙ (λ i. unwrap_or (shown_is i) (default_is i)) ∙ shown_is_found found is_line missing

  -- the same where some characters are overridden
  pub character_or_own : (own : Option ℕ) {first both : Option ℕ} → character ≡ unwrap_or both default → both ≡ option_or first shown → first ≡ own
      → shown ≡ found_or_missing found is_line missing → default ≡ missing → character ≡ unwrap_or (option_or own found) missing
  character_or_own own is both_is first_is shown_is default_is =
      is ∙ (λ i. unwrap_or ((both_is ∙ (λ j. option_or (first_is j) (shown_is j))) i) (default_is i)) ∙ own_or_shown own found is_line missing

-- ---- marks, one by one

pub line_mark_is : {color color' own own' : Option (List ℕ × List ℕ)} {character character' : ℕ} → color ≡ color' → own ≡ own' → character ≡ character'
    → line_mark color own character ≡ line_mark color' own' character'
line_mark_is same_color same_own same_character = λ i. line_mark (same_color i) (same_own i) (same_character i)

pub next_mark : (f : ℕ → Mark) (k : ℕ) (before : List ℕ) {between after : List ℕ} {mark : Mark} → between ≡ before ++ flat_map mark_bytes (map f (range_with_len 0 k))
    → after ≡ between ++ mark_bytes mark → mark ≡ f k → after ≡ before ++ flat_map mark_bytes (map f (range_with_len 0 (k + 1)))
next_mark f k before so_far marked is =
    marked
    ∙ (λ i. so_far i ++ mark_bytes (is i))
    ∙ flat_map_more mark_bytes before (map f (range_with_len 0 k)) (f k)
    ∙ ap (λ marks. before ++ flat_map mark_bytes marks) (sym (map-range_with_len_more f 0 k k (zero-add k)))

-- ---- the marks of a segment: nothing over no column, one of each where some are overridden, or else one

module _ (overridden : Bool) (f : ℕ → Mark) (mark : Mark) where
  abbrev marks_over : ℕ → List Mark
  marks_over width = cond overridden (map f (range_with_len 0 width)) (cond (eqb width 0) [] (mark ∷ []))

  no_marks : marks_over 0 ≡ []
  no_marks = elim overridden as (λ b. cond b (map f (range_with_len 0 0)) [] ≡ []) [ true ↦ refl | false ↦ refl ]

  pub nothing_added : (width : ℕ) (used : Option (List ℕ × List ℕ)) (bytes : List ℕ) → width ≡ 0 → AddsStretches used used bytes bytes (map OnLine (marks_over width))
  nothing_added width used bytes none =
      subst (λ marks. AddsStretches used used bytes bytes (map OnLine marks)) (sym (ap marks_over none ∙ no_marks)) (AddsStretches-nil used bytes)

  module _ (width : ℕ) {used new : Option (List ℕ × List ℕ)} {before after : List ℕ} where
    pub each_added : overridden ≡ true → AddsStretches used new before after (map OnLine (map f (range_with_len 0 width)))
        → AddsStretches used new before after (map OnLine (marks_over width))
    each_added is added =
        subst (λ b. AddsStretches used new before after (map OnLine (cond b (map f (range_with_len 0 width)) (cond (eqb width 0) [] (mark ∷ []))))) (sym is) added

    pub one_added : overridden ≡ false → eqb width 0 ≡ false → AddsStretches used new before after (OnLine mark ∷ [])
        → AddsStretches used new before after (map OnLine (marks_over width))
    one_added is some added =
        subst (λ (marks : List Mark). AddsStretches used new before after (map OnLine marks))
        (sym (λ i. cond (is i) (map f (range_with_len 0 width)) (cond (some i) [] (mark ∷ [])))) added
