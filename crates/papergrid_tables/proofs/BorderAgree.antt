-- Equality of border tables is agreement of what they hold for each part.
use Rattle.std.proofs.Common.{◌≡◌, Bool, true, List, [], ◌∷◌, Option, Some, None, refl, ap, arith}
use Rattle.std.specs.Prelude.{◌↔◌, ◌&&◌}
use Rattle.std.specs.Option.{option_eq}
use Rattle.std.proofs.lemmas.Bool.{and_from, and_parts}
use Rattle.papergrid_values.proofs.EqualLemmas.{numbers_agree, positions_agree}
use Rattle.papergrid_tables.specs.StoredBorders.{StoredBorders, parts_of_borders}
use Rattle.papergrid_tables.specs.BorderSame.{HoldTheSameBorders, same_parts}
use Rattle.papergrid_tables.specs.ForProofs.BorderEq.{borders_eq, parts_eq}

-- four tests, each of which holds
pub and_four : {a b c d : Bool} → (a && (b && (c && d))) ≡ true → (a ≡ true) × (b ≡ true) × (c ≡ true) × (d ≡ true)
and_four h = grind (arith, and_parts)

module _ {T : Type 0} (eq : T → T → Bool) where
  parts_pointwise : (xs ys : List (Option T)) → parts_eq eq xs ys ≡ same_parts eq xs ys
  parts_pointwise [] [] = refl
  parts_pointwise [] (y ∷ ys) = refl
  parts_pointwise (x ∷ xs) [] = refl
  parts_pointwise (x ∷ xs) (y ∷ ys) = ap (λ b. option_eq eq x y && b) (parts_pointwise xs ys)

  lines_pointwise : {L : Type 0} (parts : L → List (Option T)) (l m : Option L)
      → option_eq (λ l m. parts_eq eq (parts l) (parts m)) l m ≡ option_eq (λ l m. same_parts eq (parts l) (parts m)) l m
  lines_pointwise parts None None = refl
  lines_pointwise parts None (Some m) = refl
  lines_pointwise parts (Some l) None = refl
  lines_pointwise parts (Some l) (Some m) = parts_pointwise (parts l) (parts m)

  pub borders_agree : (s t : StoredBorders T) → (borders_eq eq s t ≡ true) ↔ HoldTheSameBorders eq (parts_of_borders s) (parts_of_borders t)
  borders_agree s t = (there, back)
    where
      there : borders_eq eq s t ≡ true → HoldTheSameBorders eq (parts_of_borders s) (parts_of_borders t)
      there h = grind (arith, and_four, lines_pointwise, numbers_agree, positions_agree)

      back : HoldTheSameBorders eq (parts_of_borders s) (parts_of_borders t) → borders_eq eq s t ≡ true
      back h = grind (arith, and_from, numbers_agree, lines_pointwise, positions_agree)
