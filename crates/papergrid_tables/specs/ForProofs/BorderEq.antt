-- When two border tables hold the same.
use Rattle.std.specs.Prelude.{◌≡◌, Bool, true, false, ◌&&◌, List, [], ◌∷◌, Option, refl}
use Rattle.std.specs.Option.{option_eq}
use Rattle.std.specs.Cmp.{IsPartialEquivalence, and_per, on_per}
use Rattle.std.proofs.lemmas.Bool.{and_parts, and_from, false≢true}
use Rattle.papergrid_values.specs.Borders.{frame_parts}
use Rattle.papergrid_values.specs.Lines.{horizontal_parts, vertical_parts}
use Rattle.papergrid_values.specs.declared.borders.Borders.{Borders}
use Rattle.papergrid_values.specs.declared.horizontal_line.HorizontalLine.{HorizontalLine}
use Rattle.papergrid_values.specs.declared.vertical_line.VerticalLine.{VerticalLine}
use Rattle.papergrid_tables.specs.StoredBorders.{StoredBorders}
use Rattle.papergrid_values.specs.Equal.{numbers_eq, positions_eq}
use Rattle.papergrid_values.specs.ForProofs.EqualLaws.{option_laws, numbers_laws, positions_laws}

-- the same parts are set, to equal values
abbrev pub parts_eq : {X : Type 0} → (X → X → Bool) → List (Option X) → List (Option X) → Bool
parts_eq eq [] [] = true
parts_eq eq (a ∷ xs) (b ∷ ys) = option_eq eq a b && parts_eq eq xs ys
parts_eq eq xs ys = false

parts_symm : {X : Type 0} (eq : X → X → Bool) → IsPartialEquivalence eq → (xs ys : List (Option X)) → parts_eq eq xs ys ≡ parts_eq eq ys xs
parts_symm eq laws [] [] = refl
parts_symm eq laws [] (b ∷ ys) = refl
parts_symm eq laws (a ∷ xs) [] = refl
parts_symm eq laws (a ∷ xs) (b ∷ ys) = λ i. (option_laws eq laws).symm a b i && parts_symm eq laws xs ys i

parts_trans : {X : Type 0} (eq : X → X → Bool) → IsPartialEquivalence eq → (xs ys zs : List (Option X)) → parts_eq eq xs ys ≡ true → parts_eq eq ys zs ≡ true → parts_eq eq xs zs ≡ true
parts_trans eq laws [] [] zs p q = q
parts_trans eq laws [] (b ∷ ys) zs p q = absurd (false≢true p)
parts_trans eq laws (a ∷ xs) [] zs p q = absurd (false≢true p)
parts_trans eq laws (a ∷ xs) (b ∷ ys) [] p q = q
parts_trans eq laws (a ∷ xs) (b ∷ ys) (c ∷ zs) p q =
    let m = and_parts _ _ p in
    let n = and_parts _ _ q in
    and_from _ _ ((option_laws eq laws).trans a b c m.0 n.0) (parts_trans eq laws xs ys zs m.1 n.1)

pub parts_laws : {X : Type 0} (eq : X → X → Bool) → IsPartialEquivalence eq → IsPartialEquivalence (parts_eq eq)
parts_laws eq laws = record { symm = parts_symm eq laws; trans = parts_trans eq laws }

module _ {T : Type 0} (eq : T → T → Bool) where
  -- part by part
  abbrev pub frame_eq : Borders T → Borders T → Bool
  frame_eq f g = parts_eq eq (frame_parts f) (frame_parts g)

  -- whether two horizontal lines have equal parts
  abbrev pub horizontal_line_eq : HorizontalLine T → HorizontalLine T → Bool
  horizontal_line_eq l m = parts_eq eq (horizontal_parts l) (horizontal_parts m)

  -- whether two vertical lines have equal parts
  abbrev pub vertical_line_eq : VerticalLine T → VerticalLine T → Bool
  vertical_line_eq l m = parts_eq eq (vertical_parts l) (vertical_parts m)

  -- the global values, the frames, the lines, the edges and the corners are equal
  abbrev pub borders_eq : StoredBorders T → StoredBorders T → Bool
  borders_eq s t =
      option_eq eq s.global t.global
      && (frame_eq s.frame t.frame
      && (numbers_eq horizontal_line_eq s.horizontal_lines t.horizontal_lines
      && (numbers_eq vertical_line_eq s.vertical_lines t.vertical_lines
      && (positions_eq eq s.horizontal_edges t.horizontal_edges
      && (positions_eq eq s.vertical_edges t.vertical_edges && positions_eq eq s.corners t.corners)))))

pub borders_eq_laws : {T : Type 0} (eq : T → T → Bool) → IsPartialEquivalence eq → IsPartialEquivalence (borders_eq eq)
borders_eq_laws {T} eq laws =
    and_per (on_per (λ (s : StoredBorders T). s.global) (option_laws eq laws))
    (and_per (on_per (λ (s : StoredBorders T). frame_parts s.frame) (parts_laws eq laws))
    (and_per (on_per (λ (s : StoredBorders T). s.horizontal_lines) (numbers_laws (horizontal_line_eq eq) (on_per horizontal_parts (parts_laws eq laws))))
    (and_per (on_per (λ (s : StoredBorders T). s.vertical_lines) (numbers_laws (vertical_line_eq eq) (on_per vertical_parts (parts_laws eq laws))))
    (and_per (on_per (λ (s : StoredBorders T). s.horizontal_edges) (positions_laws eq laws))
    (and_per (on_per (λ (s : StoredBorders T). s.vertical_edges) (positions_laws eq laws)) (on_per (λ (s : StoredBorders T). s.corners) (positions_laws eq laws)))))))
