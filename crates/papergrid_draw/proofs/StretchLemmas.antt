-- Stretches of a horizontal line, one after another.
use Rattle.std.proofs.Common.{◌≡◌, ◌∙◌, ◌≢◌, ℕ, zero, suc, true, cond, List, [], ◌∷◌, ◌++◌, Option, Some, None, ap, append_assoc, map, refl, sym}
use Rattle.std.specs.List.{flat_map, range_with_len}
use Rattle.std.specs.Option.{option_eq}
use Rattle.std.proofs.lemmas.Bool.{and_from}
use Rattle.std.proofs.lemmas.Cmp.{nat_list_eq_equiv}
use Rattle.std.proofs.lemmas.List.{append-nil}
use Rattle.papergrid_values.specs.Colors.{same_texts}
use Rattle.papergrid_draw.specs.Bytes.{mark_bytes, prefix_of, rule_bytes, stretch_bytes, stretches_bytes, suffix_of, switch, used_after, used_at_end}
use Rattle.papergrid_draw.specs.Characters.{Mark}
use Rattle.papergrid_draw.specs.Drawn.{OnLine, Stretch}
use Rattle.papergrid_draw.specs.ForProofs.Pens.{AddsStretches}

pub stretches_bytes-append : (used : Option (List ℕ × List ℕ)) (xs ys : List Stretch)
    → stretches_bytes used (xs ++ ys) ≡ stretches_bytes used xs ++ stretches_bytes (used_at_end used xs) ys
stretches_bytes-append used [] ys = refl
stretches_bytes-append used (x ∷ xs) ys =
    ap (λ bytes. stretch_bytes used x ++ bytes) (stretches_bytes-append (used_after x) xs ys)
    ∙ sym (append_assoc (stretch_bytes used x) (stretches_bytes (used_after x) xs) (stretches_bytes (used_at_end (used_after x) xs) ys))

pub used_at_end-append : (used : Option (List ℕ × List ℕ)) (xs ys : List Stretch) → used_at_end used (xs ++ ys) ≡ used_at_end (used_at_end used xs) ys
used_at_end-append used [] ys = refl
used_at_end-append used (x ∷ xs) ys = used_at_end-append (used_after x) xs ys

pub AddsStretches-nil : (used : Option (List ℕ × List ℕ)) (bytes : List ℕ) → AddsStretches used used bytes bytes []
AddsStretches-nil used bytes = record { bytes = sym (append-nil bytes); used = refl }

module _ {first middle last : Option (List ℕ × List ℕ)} {before between after : List ℕ} where
  pub AddsStretches-append : (xs ys : List Stretch) → AddsStretches first middle before between xs → AddsStretches middle last between after ys
      → AddsStretches first last before after (xs ++ ys)
  AddsStretches-append xs ys one more = record {
    bytes = more.bytes
        ∙ (λ i. one.bytes i ++ stretches_bytes (one.used i) ys)
        ∙ append_assoc before (stretches_bytes first xs) (stretches_bytes (used_at_end first xs) ys)
        ∙ ap (λ bytes. before ++ bytes) (sym (stretches_bytes-append first xs ys));
    used = more.used ∙ ap (λ used. used_at_end used ys) one.used ∙ sym (used_at_end-append first xs ys);
  }

-- all stretches of a horizontal line, and the end of the colour in use
pub rule_ended : {new : Option (List ℕ × List ℕ)} {before between after : List ℕ} (stretches : List Stretch) → AddsStretches None new before between stretches
    → after ≡ between ++ suffix_of new → after ≡ before ++ rule_bytes stretches
rule_ended {before = before} stretches added ended =
    ended
    ∙ (λ i. added.bytes i ++ suffix_of (added.used i))
    ∙ append_assoc before (stretches_bytes None stretches) (suffix_of (used_at_end None stretches))

-- ---- colours

equals_itself : (a : Option (List ℕ × List ℕ)) → option_eq same_texts a a ≡ true
equals_itself None = refl
equals_itself (Some a) = and_from _ _ (nat_list_eq_equiv.refl a.0) (nat_list_eq_equiv.refl a.1)

no_switch : (color : Option (List ℕ × List ℕ)) → switch color color ≡ []
no_switch color = ap (λ b. cond b [] (suffix_of color ++ prefix_of color)) (equals_itself color)

-- ---- marks

module _ {used new color : Option (List ℕ × List ℕ)} {before between after : List ℕ} where
  -- a piece of the line after what switches to its colour
  pub mark_added : (mark : Mark) → color ≡ mark.piece.color → between ≡ before ++ switch used color → after ≡ between ++ mark_bytes mark → new ≡ color
      → AddsStretches used new before after (OnLine mark ∷ [])
  mark_added mark same switched marked new_color = record {
    bytes = marked
        ∙ ap (λ bytes. bytes ++ mark_bytes mark) (switched ∙ ap (λ c. before ++ switch used c) same)
        ∙ append_assoc before (switch used mark.piece.color) (mark_bytes mark)
        ∙ ap (λ bytes. before ++ bytes) (sym (append-nil (switch used mark.piece.color ++ mark_bytes mark)));
    used = new_color ∙ same;
  }

-- marks that share their colour
module _ (color : Option (List ℕ × List ℕ)) (f : ℕ → Mark) (shares : (k : ℕ) → (f k).piece.color ≡ color) where
  later_bytes : (ks : List ℕ) → stretches_bytes color (map OnLine (map f ks)) ≡ flat_map mark_bytes (map f ks)
  later_bytes [] = refl
  later_bytes (k ∷ ks) =
      ap (λ c. (switch color c ++ mark_bytes (f k)) ++ stretches_bytes c (map OnLine (map f ks))) (shares k)
      ∙ ap (λ bytes. (bytes ++ mark_bytes (f k)) ++ stretches_bytes color (map OnLine (map f ks))) (no_switch color)
      ∙ ap (λ bytes. mark_bytes (f k) ++ bytes) (later_bytes ks)

  later_used : (ks : List ℕ) → used_at_end color (map OnLine (map f ks)) ≡ color
  later_used [] = refl
  later_used (k ∷ ks) = ap (λ c. used_at_end c (map OnLine (map f ks))) (shares k) ∙ later_used ks

  bytes_from : (used : Option (List ℕ × List ℕ)) (k : ℕ) (ks : List ℕ)
      → stretches_bytes used (map OnLine (map f (k ∷ ks))) ≡ switch used color ++ flat_map mark_bytes (map f (k ∷ ks))
  bytes_from used k ks =
      ap (λ c. (switch used c ++ mark_bytes (f k)) ++ stretches_bytes c (map OnLine (map f ks))) (shares k)
      ∙ append_assoc (switch used color) (mark_bytes (f k)) (stretches_bytes color (map OnLine (map f ks)))
      ∙ ap (λ bytes. switch used color ++ (mark_bytes (f k) ++ bytes)) (later_bytes ks)

  pub marks_added : {used new : Option (List ℕ × List ℕ)} {before between after : List ℕ} (width k : ℕ) → width ≢ 0 → k ≡ width → between ≡ before ++ switch used color
      → after ≡ between ++ flat_map mark_bytes (map f (range_with_len 0 k)) → new ≡ color
      → AddsStretches used new before after (map OnLine (map f (range_with_len 0 width)))
  marks_added zero k some all switched marked new_color = absurd (some refl)
  marks_added {used = used} {before = before} {between = between} (suc n) k some all switched marked new_color = record {
    bytes = marked
        ∙ ap (λ n. between ++ flat_map mark_bytes (map f (range_with_len 0 n))) all
        ∙ ap (λ bytes. bytes ++ flat_map mark_bytes (map f (range_with_len 0 (suc n)))) switched
        ∙ append_assoc before (switch used color) (flat_map mark_bytes (map f (range_with_len 0 (suc n))))
        ∙ ap (λ bytes. before ++ bytes) (sym (bytes_from used 0 (range_with_len 1 n)));
    used = new_color ∙ sym (later_used (range_with_len 1 n)) ∙ ap (λ c. used_at_end c (map OnLine (map f (range_with_len 1 n)))) (sym (shares 0));
  }
