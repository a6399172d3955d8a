-- Boundaries that are laid from the end back.
use Rattle.std.proofs.Common.{◌≡◌, ◌≢◌, ℕ, zero, suc, ◌+◌, ◌-◌, ◌<◌, ◌≤◌, ◌∙◌, min, inl, inr, List, length, get_or, set, ap, arith, rules}
use Rattle.std.specs.Prelude.{All}
use Rattle.std.proofs.lemmas.Bool.{cases_eq, cases_lt}
use Rattle.std.proofs.lemmas.List.{get_or_default, get_or-set_same, get_or-set_other, length-set}
use Rattle.papergrid_tracks.specs.declared.demand.Demand.{Demand}
use Rattle.papergrid_tracks.specs.Ranges.{IsInTable, end_of}
use Rattle.papergrid_tracks.specs.ForProofs.Laid.{AreLaid, AreLaterFirst, AreSteps}
use Rattle.papergrid_tracks.proofs.LaidLemmas.{no_cell}

-- boundaries that are laid back from track a stay above any others; k tracks back from a
above-by : (base : List ℕ) (boundary f : ℕ → ℕ) (a b : ℕ) → AreSteps base b a boundary → boundary a ≤ f a →
    ((i : ℕ) → b ≤ i → i < a → f (i + 1) ≡ f i + get_or base i 0) → (k : ℕ) → b + k ≤ a → boundary (a - k) ≤ f (a - k)
above-by base boundary f a b steps start laid zero le = let e : a - 0 ≡ a = omega arith in rw e start
above-by base boundary f a b steps start laid (suc k) le = grind (arith, steps, laid, above-by base boundary f a b steps start laid k (omega arith))

pub above-more : (base : List ℕ) (boundary f : ℕ → ℕ) (a b : ℕ) → AreSteps base b a boundary → boundary a ≤ f a →
    ((i : ℕ) → b ≤ i → i < a → f (i + 1) ≡ f i + get_or base i 0) → (i : ℕ) → b ≤ i → i ≤ a → boundary i ≤ f i
above-more base boundary f a b steps start laid i from le =
    let e : a - (a - i) ≡ i = omega arith in
    let p : boundary (a - (a - i)) ≤ f (a - (a - i)) = above-by base boundary f a b steps start laid (a - i) (omega arith) in
    omega (arith, ap boundary e, ap f e)

-- boundaries laid back to track a from the last, which is at `total`, by the first k cells, all of which start there or after;
-- the later ones start there or before
pub record LaidFrom (base : List ℕ) (cells : List Demand) (k a total : ℕ) (boundaries : List ℕ) : Type 0 where
  pub one_more : length boundaries ≡ length base + 1
  pub within : a ≤ length base
  pub last : get_or boundaries (length base) 0 ≡ total
  pub steps : AreSteps base a (length base) (λ i. get_or boundaries i 0)
  pub apart : (j : ℕ) (d : Demand) → j < k → (a ≤ (get_or cells j d).start) × (get_or boundaries (get_or cells j d).start 0 + (get_or cells j d).minimum ≤ get_or boundaries (end_of (get_or cells j d)) 0)
  pub earlier : (j : ℕ) (d : Demand) → k ≤ j → j < length cells → (get_or cells j d).start ≤ a
  pub above : (boundary : ℕ → ℕ) → AreLaid base cells boundary → boundary (length base) ≤ total → (i : ℕ) → a ≤ i → i ≤ length base → boundary i ≤ get_or boundaries i 0

-- boundaries that are laid back from track a, and stay as they were past it
steps-joined : (base boundaries joined : List ℕ) (first a : ℕ) → AreSteps base a (length base) (λ i. get_or boundaries i 0) →
    ((i : ℕ) → a ≤ i → get_or joined i 0 ≡ get_or boundaries i 0) → ((i : ℕ) → first ≤ i → i < a → get_or joined (i + 1) 0 ≡ get_or joined i 0 + get_or base i 0) →
    AreSteps base first (length base) (λ i. get_or joined i 0)
steps-joined base boundaries joined first a steps after laid i from l = grind (arith, cases_lt, laid, steps, after)

-- one step of the loop: boundaries laid back to the start of the next cell, as `mid`
module _ (base : List ℕ) (cells : List Demand) (table : All (IsInTable (length base)) cells) (sorted : AreLaterFirst cells) (k a total : ℕ) (boundaries mid : List ℕ) (listed : k < length cells)
    (laid_from : LaidFrom base cells k a total boundaries) (same : length mid ≡ length boundaries) (after : (i : ℕ) → a ≤ i → get_or mid i 0 ≡ get_or boundaries i 0)
    (laid : (i : ℕ) → (get_or cells k no_cell).start ≤ i → i < a → get_or mid (i + 1) 0 ≡ get_or mid i 0 + get_or base i 0) where
  within : end_of (get_or cells k no_cell) ≤ length base
  within = (table k no_cell listed).ends_within

  one : 1 ≤ (get_or cells k no_cell).span
  one = (table k no_cell listed).covers_one

  mid-above : (boundary : ℕ → ℕ) → AreLaid base cells boundary → boundary (length base) ≤ total → (i : ℕ) → (get_or cells k no_cell).start ≤ i → i ≤ length base → boundary i ≤ get_or mid i 0
  mid-above boundary are le i from l = elim (cases_lt i a) [
    | inr late ↦
        omega (arith, after i late, laid_from.above boundary are le i late l)
    | inl early ↦
        let p : get_or mid a 0 ≡ get_or boundaries a 0 = after a (omega arith) in
        let q : boundary a ≤ get_or boundaries a 0 = laid_from.above boundary are le a (omega arith) laid_from.within in
        above-more base boundary (λ i. get_or mid i 0) a (get_or cells k no_cell).start (λ i from' l'. are.steps i (omega arith) (omega arith)) (omega arith) laid i from (omega arith)
  ]

  -- there is room for what the next cell needs
  pub room-cell : (boundary : ℕ → ℕ) → AreLaid base cells boundary → boundary (length base) ≤ total → (get_or cells k no_cell).minimum ≤ get_or mid (end_of (get_or cells k no_cell)) 0
  room-cell boundary are le =
      let p : boundary (end_of (get_or cells k no_cell)) ≤ get_or mid (end_of (get_or cells k no_cell)) 0 = mid-above boundary are le (end_of (get_or cells k no_cell)) (omega arith) within in
      let q : boundary (get_or cells k no_cell).start + (get_or cells k no_cell).minimum ≤ boundary (end_of (get_or cells k no_cell)) = are.apart k no_cell listed in
      omega arith

  pub end-in_mid : end_of (get_or cells k no_cell) < length mid
  end-in_mid = grind arith

  pub start-in_mid : (get_or cells k no_cell).start < length mid
  start-in_mid = let l : end_of (get_or cells k no_cell) < length mid = end-in_mid in omega arith

  module _ (top : ℕ) (fits : (get_or cells k no_cell).minimum ≤ get_or mid (end_of (get_or cells k no_cell)) 0)
      (pulled : top ≡ min (get_or mid (get_or cells k no_cell).start 0) (get_or mid (end_of (get_or cells k no_cell)) 0 - (get_or cells k no_cell).minimum)) where
    abbrev moved : List ℕ
    moved = set mid (get_or cells k no_cell).start top

    there : get_or moved (get_or cells k no_cell).start 0 ≡ min (get_or mid (get_or cells k no_cell).start 0) (get_or mid (end_of (get_or cells k no_cell)) 0 - (get_or cells k no_cell).minimum)
    there = get_or-set_same mid (get_or cells k no_cell).start top 0 start-in_mid ∙ pulled

    elsewhere : (i : ℕ) → i ≢ (get_or cells k no_cell).start → get_or moved i 0 ≡ get_or mid i 0
    elsewhere i ne = get_or-set_other mid (get_or cells k no_cell).start i top 0 ne

    steps-moved : AreSteps base (get_or cells k no_cell).start (length base) (λ i. get_or moved i 0)
    steps-moved i from l = search (rules, steps-joined, no_cell, after, laid)

    abbrev Apart : Demand → Type 0
    Apart d = ((get_or cells k no_cell).start ≤ d.start) × (get_or moved d.start 0 + d.minimum ≤ get_or moved (end_of d) 0)

    apart-moved : (j : ℕ) (d : Demand) → j < k + 1 → Apart (get_or cells j d)
    apart-moved j d l = search (rules, cases_lt, no_cell, get_or_default)

    above-moved : (boundary : ℕ → ℕ) → AreLaid base cells boundary → boundary (length base) ≤ total → (i : ℕ) → (get_or cells k no_cell).start ≤ i → i ≤ length base → boundary i ≤ get_or moved i 0
    above-moved boundary are le i from l =
        let p : boundary i ≤ get_or mid i 0 = mid-above boundary are le i from l in
        elim (cases_eq i (get_or cells k no_cell).start) [
          | inl e ↦
              let t : get_or moved (get_or cells k no_cell).start 0 ≡ min (get_or mid (get_or cells k no_cell).start 0) (get_or mid (end_of (get_or cells k no_cell)) 0 - (get_or cells k no_cell).minimum) = there in
              let s : boundary (get_or cells k no_cell).start ≤ get_or mid (get_or cells k no_cell).start 0 = mid-above boundary are le (get_or cells k no_cell).start (omega arith) (omega arith) in
              let q : boundary (end_of (get_or cells k no_cell)) ≤ get_or mid (end_of (get_or cells k no_cell)) 0 = mid-above boundary are le (end_of (get_or cells k no_cell)) (omega arith) within in
              let r : boundary (get_or cells k no_cell).start + (get_or cells k no_cell).minimum ≤ boundary (end_of (get_or cells k no_cell)) = are.apart k no_cell listed in
              rw e (omega arith)
          | inr ne ↦ let e : get_or moved i 0 ≡ get_or mid i 0 = elsewhere i ne in omega arith
        ]

    pub LaidFrom-cell : LaidFrom base cells (k + 1) (get_or cells k no_cell).start total moved
    LaidFrom-cell = record {
      one_more = length-set mid (get_or cells k no_cell).start top ∙ same ∙ laid_from.one_more;
      within = let le : end_of (get_or cells k no_cell) ≤ length base = within in omega arith;
      last = elsewhere (length base) (omega (arith, within, one)) ∙ after (length base) laid_from.within ∙ laid_from.last;
      steps = steps-moved;
      apart = apart-moved;
      earlier = λ j d from l. let s : (get_or cells j d).start ≤ (get_or cells k d).start = sorted k j d (omega arith) l in
          let e : (get_or cells k d).start ≡ (get_or cells k no_cell).start = ap (λ (d : Demand). d.start) (get_or_default cells k d no_cell listed) in
          omega arith;
      above = above-moved;
    }

-- after the last cell: boundaries laid back to the first, as `whole`
module _ (base : List ℕ) (cells : List Demand) (k a total : ℕ) (boundaries whole : List ℕ) (all : length cells ≤ k) (laid_from : LaidFrom base cells k a total boundaries)
    (after : (i : ℕ) → a ≤ i → get_or whole i 0 ≡ get_or boundaries i 0) (laid : (i : ℕ) → 0 ≤ i → i < a → get_or whole (i + 1) 0 ≡ get_or whole i 0 + get_or base i 0) where
  pub above-back : (boundary : ℕ → ℕ) → AreLaid base cells boundary → boundary (length base) ≤ total → (i : ℕ) → i ≤ length base → boundary i ≤ get_or whole i 0
  above-back boundary are le i l = elim (cases_lt i a) [
    | inr late ↦
        omega (arith, after i late, laid_from.above boundary are le i late l)
    | inl early ↦
        let p : get_or whole a 0 ≡ get_or boundaries a 0 = after a (omega arith) in
        let q : boundary a ≤ get_or boundaries a 0 = laid_from.above boundary are le a (omega arith) laid_from.within in
        above-more base boundary (λ i. get_or whole i 0) a 0 (λ i from' l'. are.steps i from' (omega arith)) (omega arith) laid i (omega arith) (omega arith)
  ]

-- boundaries laid back from track `to` down to i, each before the next by the minimum size of the track between alone
pub record LaidBackTo (base old : List ℕ) (from to i : ℕ) (boundaries : List ℕ) : Type 0 where
  pub same_length : length boundaries ≡ length old
  pub after : (k : ℕ) → to ≤ k → get_or boundaries k 0 ≡ get_or old k 0
  pub laid : (k : ℕ) → i ≤ k → k < to → get_or boundaries (k + 1) 0 ≡ get_or boundaries k 0 + get_or base k 0
  pub above : (boundary : ℕ → ℕ) → AreSteps base from to boundary → boundary to ≤ get_or old to 0 → boundary i ≤ get_or boundaries i 0

-- one more boundary, that before track i
module _ (base old : List ℕ) (from to i : ℕ) (boundaries : List ℕ) (left : from < i) (within : i ≤ to) (laid_back : LaidBackTo base old from to i boundaries)
    (boundary : ℕ → ℕ) (are : AreSteps base from to boundary) (room : boundary to ≤ get_or old to 0) where
  pub base-fits : get_or base (i - 1) 0 ≤ get_or boundaries i 0
  base-fits = grind arith
