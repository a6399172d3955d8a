-- Where tracks begin and end, as it is kept for all of them.
use Rattle.std.proofs.Common.{◌≡◌, ℕ, ◌+◌, ◌-◌, ◌<◌, ◌≤◌, Bool, cond, ap, ◌∙◌, arith, inl, inr, List, [], ◌∷◌, ◌++◌, length, get_or, below_more, nat_lt, sym, true, false}
use Rattle.std.specs.Prelude.{MatchOption, Option, None, Some}
use Rattle.std.specs.List.Sorted.{IsNonDecreasingBy}
use Rattle.std.specs.Bool.{then_some}
use Rattle.std.specs.Option.{SomeIff}
use Rattle.std.proofs.lemmas.Bool.{cases_lt, ltb-false, ltb-true}
use Rattle.std.proofs.lemmas.List.{get_or_append_left, get_or_default, get_or_push}
use Rattle.papergrid_layout.specs.Places.{IsTrackAt, extent, offset, total}
use Rattle.papergrid_layout.specs.ForProofs.Placing.{AreMarks}
use Rattle.papergrid_layout.specs.declared.marks.Marks.{Marks}
use Rattle.papergrid_layout.proofs.PlaceSums.{offset-after, offset-next, offset-rises}

module _ (size : ℕ → ℕ) (line : ℕ → Bool) where
  -- a range ends where its last number does
  pub extent-end : (s n last : ℕ) → 1 ≤ n → last + 1 ≡ s + n → offset size line s + extent size line s n ≡ offset size line last + size last
  extent-end s n last one e =
      let after : offset size line (s + n) ≡ offset size line s + extent size line s n + cond (line (s + n)) 1 0 = offset-after size line s n one in
      let next : offset size line (last + 1) ≡ offset size line last + size last + cond (line (last + 1)) 1 0 = offset-next size line last in
      let same : offset size line (last + 1) ≡ offset size line (s + n) = ap (offset size line) e in
      let drawn : cond {A = ℕ} (line (last + 1)) 1 0 ≡ cond {A = ℕ} (line (s + n)) 1 0 = ap (λ k. cond {A = ℕ} (line k) 1 0) e in
      omega arith

  pub marked-part : (count : ℕ) (marks : Marks) (s n last : ℕ) → AreMarks size line count marks → 1 ≤ n → last + 1 ≡ s + n → last < count →
      get_or marks.begins.items s 0 + extent size line s n ≡ get_or marks.ends.items last 0
  marked-part count marks s n last are one e below =
      let begins : get_or marks.begins.items s 0 ≡ offset size line s = are.begins s (omega arith) in
      let ends : get_or marks.ends.items last 0 ≡ offset size line last + size last = are.ends last below in
      let part : offset size line s + extent size line s n ≡ offset size line last + size last = extent-end s n last one e in
      omega arith

-- one more number of a list that has a function's values
pub values-push : (f : ℕ → ℕ) (xs : List ℕ) (y i : ℕ) → length xs ≡ i → y ≡ f i → ((k : ℕ) → k < i → get_or xs k 0 ≡ f k) →
    (k : ℕ) → k < i + 1 → get_or (xs ++ y ∷ []) k 0 ≡ f k
values-push f xs y i many e h = below_more _ _ (λ k l. get_or_append_left xs (y ∷ []) 0 k (omega arith) ∙ h k l) (get_or_push xs y 0 i many ∙ e)

-- begins do not fall
pub begins-rise : (size : ℕ → ℕ) (line : ℕ → Bool) (count : ℕ) (marks : Marks) → AreMarks size line count marks → IsNonDecreasingBy (λ x. x) marks.begins.items
begins-rise size line count marks are i j d le l =
    let first : get_or marks.begins.items i d ≡ offset size line i = get_or_default marks.begins.items i d 0 (omega arith) ∙ are.begins i (omega (arith, are.each_begin)) in
    let second : get_or marks.begins.items j d ≡ offset size line j = get_or_default marks.begins.items j d 0 l ∙ are.begins j (omega (arith, are.each_begin)) in
    let rises : offset size line i ≤ offset size line j = offset-rises size line i j le in
    omega arith

-- the last begin at a point or before it, by how many there are
pub track-of : (size : ℕ → ℕ) (line : ℕ → Bool) (count : ℕ) (marks : Marks) (next point : ℕ) → AreMarks size line count marks →
    next ≤ length marks.begins.items →
    ((k : ℕ) (d : ℕ) → k < next → get_or marks.begins.items k d ≤ point) →
    ((k : ℕ) (d : ℕ) → next ≤ k → k < length marks.begins.items → point < get_or marks.begins.items k d) →
    point < total size line count → (found : Option ℕ) → SomeIff found (1 ≤ next) (next - 1) →
    MatchOption found (point < offset size line 0) (λ i. (i < count) × (offset size line i ≤ point) × (point < offset size line (i + 1)))
track-of size line count marks next point are within below above fits None none =
    let zero : next ≡ 0 = elim (cases_lt 0 next) [ inl some ↦ absurd (none some) | inr ge ↦ omega arith ] in
    elim (cases_lt 0 count) [
      | inl some ↦
          let past : point < get_or marks.begins.items 0 0 = above 0 0 (omega arith) (omega (arith, are.each_begin)) in
          let first : get_or marks.begins.items 0 0 ≡ offset size line 0 = are.begins 0 some in
          omega arith
      | inr empty ↦
          let same : total size line count ≡ total size line 0 = ap (total size line) (let e : count ≡ 0 = omega arith in e) in
          omega arith
    ]
track-of size line count marks next point are within below above fits (Some i) is =
    let last : i ≡ next - 1 = is.1 in
    let some : 1 ≤ next = is.0 in
    let before : get_or marks.begins.items i 0 ≤ point = below i 0 (omega arith) in
    let begins : get_or marks.begins.items i 0 ≡ offset size line i = are.begins i (omega (arith, are.each_begin)) in (
      omega (arith, are.each_begin),
      omega arith,
      elim (cases_lt next count) [
        | inl more ↦
            let past : point < get_or marks.begins.items next 0 = above next 0 (omega arith) (omega (arith, are.each_begin)) in
            let next_begins : get_or marks.begins.items next 0 ≡ offset size line next = are.begins next more in
            let same : offset size line (i + 1) ≡ offset size line next = ap (offset size line) (let e : i + 1 ≡ next = omega arith in e) in
            omega arith
        | inr end ↦
            let same : offset size line (i + 1) ≡ offset size line count = ap (offset size line) (let e : i + 1 ≡ count = omega (arith, are.each_begin) in e) in
            omega arith
      ],
    )

-- a point before the end of its track is in it, and in no other
pub none-in-track : (size : ℕ → ℕ) (line : ℕ → Bool) (i point k : ℕ) → offset size line i ≤ point → point < offset size line (i + 1) → offset size line i + size i ≤ point →
    (offset size line k ≤ point) × (point < offset size line k + size k) → ⊥
none-in-track size line i point k begins next ends has =
    let first : offset size line k ≤ point = has.0 in
    let last : point < offset size line k + size k = has.1 in
    elim (cases_lt k i) [
      | inl less ↦
          let after : offset size line (k + 1) ≡ offset size line k + size k + cond (line (k + 1)) 1 0 = offset-next size line k in
          let rises : offset size line (k + 1) ≤ offset size line i = offset-rises size line (k + 1) i (omega arith) in
          omega arith
      | inr from ↦ elim (cases_lt i k) [
        | inl more ↦
            let rises : offset size line (i + 1) ≤ offset size line k = offset-rises size line (i + 1) k (omega arith) in
            omega arith
        | inr to ↦
            let same : offset size line k + size k ≡ offset size line i + size i = ap (λ j. offset size line j + size j) (let e : k ≡ i = omega arith in e) in
            omega arith
      ]
    ]

-- nor is a point before the first begin
pub none-in-first : (size : ℕ → ℕ) (line : ℕ → Bool) (point k : ℕ) → point < offset size line 0 → offset size line k ≤ point → ⊥
none-in-first size line point k before has =
    let rises : offset size line 0 ≤ offset size line k = offset-rises size line 0 k (omega arith) in
    omega arith

-- nor one past the total
pub none-in-total : (size : ℕ → ℕ) (line : ℕ → Bool) (count point : ℕ) → total size line count ≤ point → IsTrackAt size line count point None
none-in-total size line count point past = λ i has.
    let last : point < offset size line i + size i = has.2 in
    let after : offset size line (i + 1) ≡ offset size line i + size i + cond (line (i + 1)) 1 0 = offset-next size line i in
    let rises : offset size line (i + 1) ≤ offset size line count = offset-rises size line (i + 1) count (omega (arith, has.0)) in
    omega arith

-- the last number that begins before a point covers it, or no number does
pub track-tested : (size : ℕ → ℕ) (line : ℕ → Bool) (count point i end : ℕ) (test : Bool) →
    (i < count) × (offset size line i ≤ point) × (point < offset size line (i + 1)) → end ≡ offset size line i + size i → test ≡ nat_lt point end →
    IsTrackAt size line count point (then_some test i)
track-tested size line count point i end true at ends is = grind (arith, ltb-true)
track-tested size line count point i end false at ends is =
    let past : end ≤ point = ltb-false point end (sym is) in
    λ k has. none-in-track size line i point k at.1 at.2 (omega arith) (has.1, has.2)
