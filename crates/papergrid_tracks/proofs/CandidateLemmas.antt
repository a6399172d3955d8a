-- Places whose ranges are in order.
use Rattle.std.proofs.Common.{◌≡◌, ◌==◌, ◌&&◌, ℕ, zero, suc, ◌+◌, ◌-◌, ◌<◌, ◌≤◌, Bool, true, false, cond, ◌⊎◌, inl, inr, List, [], ◌∷◌, length, get_or, count_by, refl, sym, ap, ◌∙◌, arith, subst}
use Rattle.std.specs.Prelude.{AllPairs, nat_lt}
use Rattle.std.specs.List.Sorted.{IsNonDecreasingBy, IsPartitionPoint}
use Rattle.std.proofs.lemmas.Bool.{and_parts, cases_Bool, cases_eq, eqb-true, le-ltb, lt-ltb, ltb-true, ltb-false}
use Rattle.std.proofs.lemmas.List.{get_or_default}
use Rattle.std.proofs.lemmas.List.Sums.{sum_by-cons}
use Rattle.papergrid_values.specs.declared.position.Position.{Position}
use Rattle.papergrid_values.specs.declared.direction.Direction.{Direction}
use Rattle.papergrid_values.specs.declared.direction.Direction.TheVariants.{Columns, Rows}
use Rattle.papergrid_tracks.specs.ForProofs.Checks.{AreDisjointAt, AreInOrder}
use Rattle.papergrid_values.specs.Positions.{AreRising, along}

-- one more position, where each is related to the next
module _ (R : Position → Position → Type 0) (R-trans : (p q r : Position) → R p q → R q r → R p r) (positions : List Position) (i : ℕ) (one : 1 ≤ i)
    (before : (j k : ℕ) (p : Position) → j < k → k < i → R (get_or positions j p) (get_or positions k p)) (next : (p : Position) → R (get_or positions (i - 1) p) (get_or positions i p)) where
  pub chain-more : (j k : ℕ) (p : Position) → j < k → k < i + 1 → R (get_or positions j p) (get_or positions k p)
  chain-more j k p lt lt' = elim (cases_eq k i) [
    | inr ne ↦ before j k p lt (omega arith)
    | inl same ↦ elim (cases_eq j (i - 1)) [
      | inl last ↦ subst (λ m. R (get_or positions j p) (get_or positions m p)) (sym same) (subst (λ m. R (get_or positions m p) (get_or positions i p)) (sym last) (next p))
      | inr ne ↦ subst (λ m. R (get_or positions j p) (get_or positions m p)) (sym same)
          (R-trans (get_or positions j p) (get_or positions (i - 1) p) (get_or positions i p) (before j (i - 1) p (omega arith) (omega arith)) (next p))
    ]
  ]

pub AreInOrder-trans : (direction : Direction) (span_of : Position → ℕ) (p q r : Position) → AreInOrder direction span_of p q → AreInOrder direction span_of q r → AreInOrder direction span_of p r
AreInOrder-trans direction span_of p q r a b = grind arith

-- the numbers rise, and no two ranges meet
pub rising-from_order : (direction : Direction) (span_of : Position → ℕ) (positions : List Position) → AllPairs (AreInOrder direction span_of) positions → AllPairs (AreRising direction) positions
rising-from_order direction span_of positions h i j p l l' = (h i j p l l').0

pub disjoint-from_order : (direction : Direction) (span_of : Position → ℕ) (positions : List Position) → AllPairs (AreInOrder direction span_of) positions → AllPairs (AreDisjointAt direction span_of) positions
disjoint-from_order direction span_of positions h i j p l l' = inl (h i j p l l').1

-- ---- how often a test holds that holds at one index at most

pub count_by-none : (f : Position → Bool) (ps : List Position) → ((k : ℕ) (p : Position) → k < length ps → f (get_or ps k p) ≡ false) → count_by f ps ≡ 0
count_by-none f [] none = refl
count_by-none f (p ∷ ps) none =
    let s : count_by f (p ∷ ps) ≡ cond (f p) 1 0 + count_by f ps = sum_by-cons (λ q. cond (f q) 1 0) p ps in
    let s' : count_by f (p ∷ ps) ≡ 0 + count_by f ps = s ∙ ap (λ b. cond b 1 0 + count_by f ps) (none 0 p (omega arith)) in
    let rest : count_by f ps ≡ 0 = count_by-none f ps (λ k q l. none (suc k) q (omega arith)) in
    omega arith

pub count_by-one : (f : Position → Bool) (ps : List Position) (i : ℕ) (e : Position) → i < length ps → ((k : ℕ) (p : Position) → k < length ps → (k < i) ⊎ (i < k) → f (get_or ps k p) ≡ false) →
    count_by f ps ≡ cond (f (get_or ps i e)) 1 0
count_by-one f [] i e l others = absurd (omega arith)
count_by-one f (p ∷ ps) zero e l others =
    let s : count_by f (p ∷ ps) ≡ cond (f p) 1 0 + count_by f ps = sum_by-cons (λ q. cond (f q) 1 0) p ps in
    let rest : count_by f ps ≡ 0 = count_by-none f ps (λ k q l. others (suc k) q (omega arith) (inr (omega arith))) in
    (omega arith)
count_by-one f (p ∷ ps) (suc i) e l others =
    let s : count_by f (p ∷ ps) ≡ cond (f p) 1 0 + count_by f ps = sum_by-cons (λ q. cond (f q) 1 0) p ps in
    let s' : count_by f (p ∷ ps) ≡ 0 + count_by f ps = s ∙ ap (λ b. cond b 1 0 + count_by f ps) (others 0 p (omega arith) (inl (omega arith))) in
    let rest : count_by f ps ≡ cond (f (get_or ps i e)) 1 0 =
    count_by-one f ps i e (omega arith) (λ k q l way. others (suc k) q (omega arith) (elim way [ inl x ↦ inl (omega arith) | inr x ↦ inr (omega arith) ])) in
    (omega arith)

-- ---- where the numbers rise, a position can be listed only where they reach its own

abbrev pub is_same : Position → Position → Bool
is_same p q = p.row == q.row && p.col == q.col

along-same : (direction : Direction) (p q : Position) → is_same p q ≡ true → along direction p ≡ along direction q
along-same Columns p q t = eqb-true p.col q.col (and_parts (p.row == q.row) (p.col == q.col) t).1
along-same Rows p q t = eqb-true p.row q.row (and_parts (p.row == q.row) (p.col == q.col) t).0

other_number : (direction : Direction) (p q : Position) → (along direction p ≡ along direction q → ⊥) → is_same p q ≡ false
other_number direction p q ne = elim (cases_Bool (is_same p q)) [ inl t ↦ absurd (ne (along-same direction p q t)) | inr f ↦ f ]

pub never_falls : (direction : Direction) (positions : List Position) → AllPairs (AreRising direction) positions → IsNonDecreasingBy (along direction) positions
never_falls direction positions rising i j d le l = grind (arith, cases_eq)

-- the position at an index has that very number, so all before it have lesser ones
pub point-guess : (direction : Direction) (positions : List Position) (start : ℕ) (e : Position) → AllPairs (AreRising direction) positions → start < length positions → along direction (get_or positions start e) ≡ start →
    IsPartitionPoint (λ p. nat_lt (along direction p) start ≡ true) (λ p. nat_lt (along direction p) start ≡ false) positions start
point-guess direction positions start e rising l is = (
  (λ k d low lt.
      lt-ltb _ _ (omega (arith, rising k start d lt l, ap (along direction) (get_or_default positions start d e l) ∙ is))),
  (λ k d le lk.
      let there : along direction (get_or positions start d) ≡ start = ap (along direction) (get_or_default positions start d e l) ∙ is in
      elim (cases_eq k start) [
        | inl same ↦ grind (arith, le-ltb)
        | inr ne ↦ grind (arith, le-ltb)
      ]),
)

module _ (direction : Direction) (positions : List Position) (position : Position) (at : ℕ) (rising : AllPairs (AreRising direction) positions)
    (point : IsPartitionPoint (λ p. nat_lt (along direction p) (along direction position) ≡ true) (λ p. nat_lt (along direction p) (along direction position) ≡ false) positions at) where
  before-other : (k : ℕ) (p : Position) → k < at → is_same position (get_or positions k p) ≡ false
  before-other k p l = grind (arith, ltb-true, other_number)

  pub listed-none : length positions ≤ at → count_by (is_same position) positions ≡ 0
  listed-none le = count_by-none (is_same position) positions (λ k p l. before-other k p (omega arith))

  pub listed-at : (e : Position) → at < length positions → count_by (is_same position) positions ≡ cond (is_same position (get_or positions at e)) 1 0
  listed-at e l = count_by-one (is_same position) positions at e l (λ k p lk way. elim way [
    | inl x ↦ before-other k p x
    | inr x ↦
        let reached : along direction position ≤ along direction (get_or positions at p) = ltb-false (along direction (get_or positions at p)) (along direction position) (point.1 at p (omega arith) l) in
        other_number direction position (get_or positions k p) (λ e. omega (arith, rising at k p x lk))
  ])
