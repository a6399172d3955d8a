-- Parts that were cloned, one by one, and the counts of what was cloned.
use Rattle.std.proofs.Common.{◌≡◌, ℕ, ◌+◌, Bool, List, [], ◌∷◌, cond, Option, Some, None, refl, sym, ap, ◌∙◌, arith}
use Rattle.std.specs.Prelude.{is_some}
use Rattle.std.specs.HashMap.{HashMap, IsClone}
use Rattle.std.specs.List.{AllZip, count_by}
use Rattle.std.specs.Map.{keys_of, values_of}
use Rattle.std.proofs.lemmas.List.Sums.{sum_by-cons}
use Rattle.std.proofs.lemmas.Map.Entries.{entries_from_clone}
use Rattle.papergrid_values.specs.declared.direction.Direction.{Direction}
use Rattle.papergrid_values.specs.declared.horizontal_line.HorizontalLine.{HorizontalLine}
use Rattle.papergrid_values.specs.declared.position.Position.{Position}
use Rattle.papergrid_values.specs.declared.vertical_line.VerticalLine.{VerticalLine}
use Rattle.papergrid_tables.specs.ForProofs.CountedLines.{AreEndsCounted}
use Rattle.papergrid_tables.specs.ForProofs.Counts.{AreCounts}
use Rattle.papergrid_tables.specs.declared.counted_lines.Lines.{Lines}

module _ {T : Type 0} (R : Option T → Option T → Type 0) (appears : (x : T) → R None (Some x) → ⊥) (goes : (x : T) → R (Some x) None → ⊥) where
  pub part_copy : ((x y : T) → R (Some x) (Some y) → y ≡ x) → (old copy : Option T) → R old copy → copy ≡ old
  part_copy same None None h = refl
  part_copy same None (Some y) h = absurd (appears y h)
  part_copy same (Some x) None h = absurd (goes x h)
  part_copy same (Some x) (Some y) h = ap Some (same x y h)

  -- a part is set where its clone is
  pub part_set : (old copy : Option T) → R old copy → is_some copy ≡ is_some old
  part_set None None h = refl
  part_set None (Some y) h = absurd (appears y h)
  part_set (Some x) None h = absurd (goes x h)
  part_set (Some x) (Some y) h = refl

  -- lines, part by part
  line_copy : {L : Type 0} (made : Option T → Option T → Option T → Option T → L) → ((x y : T) → R (Some x) (Some y) → y ≡ x) → (m c f l m' c' f' l' : Option T) → R m m' → R c c' → R f f' → R l l' → made m' c' f' l' ≡ made m c f l
  line_copy made same m c f l m' c' f' l' main crossing first last = λ i. made (part_copy same m m' main i) (part_copy same c c' crossing i) (part_copy same f f' first i) (part_copy same l l' last i)

  pub horizontal_line_copy : ((x y : T) → R (Some x) (Some y) → y ≡ x) → (old copy : HorizontalLine T) → R old.main copy.main → R old.intersection copy.intersection → R old.left copy.left → R old.right copy.right → copy ≡ old
  horizontal_line_copy same old copy = line_copy (λ m c f l. record { main = m; intersection = c; left = f; right = l }) same old.main old.intersection old.left old.right _ _ _ _

  pub vertical_line_copy : ((x y : T) → R (Some x) (Some y) → y ≡ x) → (old copy : VerticalLine T) → R old.main copy.main → R old.intersection copy.intersection → R old.top copy.top → R old.bottom copy.bottom → copy ≡ old
  vertical_line_copy same old copy = line_copy (λ m c f l. record { main = m; intersection = c; top = f; bottom = l }) same old.main old.intersection old.top old.bottom _ _ _ _

module _ {K X : Type 0} (C : K → K → Type 0) (D : X → X → Type 0) where
  pub keys_copied : ((x y : K) → C x y → y ≡ x) → (es fs : List (K × X)) → AllZip (λ p q. C p.0 q.0 × D p.1 q.1) es fs → keys_of fs ≡ keys_of es
  keys_copied same [] [] a = refl
  keys_copied same [] (y ∷ ys) a = absurd a
  keys_copied same (x ∷ xs) [] a = absurd a
  keys_copied same (x ∷ xs) (y ∷ ys) a = λ i. same x.0 y.0 a.0.0 i ∷ keys_copied same xs ys a.1 i

  tests_copied : (test : X → Bool) → ((x y : X) → D x y → test y ≡ test x) → (es fs : List (K × X)) → AllZip (λ p q. C p.0 q.0 × D p.1 q.1) es fs → count_by test (values_of fs) ≡ count_by test (values_of es)
  tests_copied test same [] [] a = refl
  tests_copied test same [] (y ∷ ys) a = absurd a
  tests_copied test same (x ∷ xs) [] a = absurd a
  tests_copied test same (x ∷ xs) (y ∷ ys) a =
      sum_by-cons (λ v. cond (test v) 1 0) y.1 (values_of ys)
      ∙ (λ i. cond (same x.1 y.1 a.0.1 i) 1 0 + tests_copied test same xs ys a.1 i)
      ∙ sym (sum_by-cons (λ v. cond (test v) 1 0) x.1 (values_of xs))

pub ends_copied : {L : Type 0} (C : ℕ → ℕ → Type 0) (D : L → L → Type 0) (has_first has_last : L → Bool) (lines copy : Lines L)
    → ((x y : ℕ) → C x y → y ≡ x) → ((x y : L) → D x y → has_first y ≡ has_first x) → ((x y : L) → D x y → has_last y ≡ has_last x)
    → IsClone C D lines.values copy.values → copy.first_ends ≡ lines.first_ends → copy.last_ends ≡ lines.last_ends
    → AreEndsCounted has_first has_last lines → AreEndsCounted has_first has_last copy
ends_copied C D has_first has_last lines copy same keeps_first keeps_last cloned firsts lasts counted = grind (arith, tests_copied, keys_copied)

pub counts_copied : {S : Type 0} (C : ℕ → ℕ → Type 0) (D : ℕ → ℕ → Type 0) (direction : Direction) (counts copy : HashMap ℕ ℕ S) (positions more : List Position)
    → ((x y : ℕ) → C x y → y ≡ x) → ((x y : ℕ) → D x y → y ≡ x) → IsClone C D counts copy → more ≡ positions → AreCounts direction counts positions → AreCounts direction copy more
counts_copied C D direction counts copy positions more same_key same cloned keys counted = grind (arith, entries_from_clone)
