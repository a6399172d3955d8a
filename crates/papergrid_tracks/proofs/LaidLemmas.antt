-- Boundaries that are laid in order.
use Rattle.std.proofs.Common.{◌≡◌, ◌≢◌, ℕ, zero, suc, ◌+◌, ◌-◌, ◌<◌, ◌≤◌, ◌∙◌, max, inl, inr, List, length, get_or, set, ap, arith, add-zero, rules}
use Rattle.std.specs.Prelude.{All}
use Rattle.std.specs.List.Sorted.{IsNonDecreasingBy}
use Rattle.std.proofs.lemmas.Bool.{cases_eq, cases_lt}
use Rattle.std.proofs.lemmas.List.{get_or_default, get_or-set_same, get_or-set_other, length-set}
use Rattle.papergrid_tracks.specs.declared.demand.Demand.{Demand}
use Rattle.papergrid_tracks.specs.Ranges.{IsInTable, end_of}
use Rattle.papergrid_tracks.specs.ForProofs.Laid.{AreSpaced, AreLaid, AreSteps}

rise_by : (base : List ℕ) (a b : ℕ) (boundary : ℕ → ℕ) → AreSteps base a b boundary → (i k : ℕ) → a ≤ i → i + k ≤ b → boundary i ≤ boundary (i + k)
rise_by base a b boundary steps i zero from le = rw add-zero (omega arith)
rise_by base a b boundary steps i (suc k) from le = grind (arith, steps, rise_by base a b boundary steps i k from (omega arith))

-- no boundary is past a later one
pub steps-rise : (base : List ℕ) (a b : ℕ) (boundary : ℕ → ℕ) → AreSteps base a b boundary → (i j : ℕ) → a ≤ i → i ≤ j → j ≤ b → boundary i ≤ boundary j
steps-rise base a b boundary steps i j from le within =
    let same : boundary (i + (j - i)) ≡ boundary j = ap boundary (omega arith) in
    let up : boundary i ≤ boundary (i + (j - i)) = rise_by base a b boundary steps i (j - i) from (omega arith) in
    omega arith

-- boundaries that are laid on from track a stay below any others
pub below-more : (base : List ℕ) (n : ℕ) (boundary f : ℕ → ℕ) (a b : ℕ) → AreSteps base 0 n boundary → b ≤ n → ((i : ℕ) → i ≤ a → f i ≤ boundary i) →
    ((i : ℕ) → a ≤ i → i < b → f (i + 1) ≡ f i + get_or base i 0) → (i : ℕ) → i ≤ b → f i ≤ boundary i
below-more base n boundary f a b steps within below laid zero le = below 0 (omega arith)
below-more base n boundary f a b steps within below laid (suc i) le = elim (cases_lt i a) [
  | inl early ↦ below (suc i) (omega arith)
  | inr late ↦
      let ih : f i ≤ boundary i = below-more base n boundary f a b steps within below laid i (omega arith) in
      let e : i + 1 ≡ suc i = omega arith in
      rw (← e) (omega arith)
]

-- one more cell, whose range ends at e: boundaries f up to a, laid on up to e as m, and there moved as far as the cell needs as g
module _ (base : List ℕ) (n : ℕ) (cells : List Demand) (table : All (IsInTable n) cells) (k : ℕ) (d : Demand) (listed : k < length cells) (f m g : ℕ → ℕ) (a : ℕ)
    (ordered : a ≤ end_of (get_or cells k d)) (before : (i : ℕ) → i ≤ a → m i ≡ f i) (laid : (i : ℕ) → a ≤ i → i < end_of (get_or cells k d) → m (i + 1) ≡ m i + get_or base i 0)
    (there : g (end_of (get_or cells k d)) ≡ max (m (end_of (get_or cells k d))) (m (get_or cells k d).start + (get_or cells k d).minimum))
    (elsewhere : (i : ℕ) → i ≢ end_of (get_or cells k d) → g i ≡ m i) where
  not_less : (i : ℕ) → m i ≤ g i
  not_less i = grind (arith, cases_eq)

  pub steps-cell : AreSteps base 0 a f → AreSteps base 0 (end_of (get_or cells k d)) g
  steps-cell steps i from l = grind (arith, not_less, cases_lt, steps)

  pub apart-cell : ((j : ℕ) (c : Demand) → j < k → (end_of (get_or cells j c) ≤ a) × (f (get_or cells j c).start + (get_or cells j c).minimum ≤ f (end_of (get_or cells j c)))) →
      (j : ℕ) (c : Demand) → j < k + 1 → (end_of (get_or cells j c) ≤ end_of (get_or cells k d)) × (g (get_or cells j c).start + (get_or cells j c).minimum ≤ g (end_of (get_or cells j c)))
  apart-cell apart j c l = search (rules, cases_lt j k, earlier, apart, here, not_less)
    where
      earlier : (j : ℕ) (c : Demand) → 1 ≤ (get_or cells j c).span → (end_of (get_or cells j c) ≤ a) × (f (get_or cells j c).start + (get_or cells j c).minimum ≤ f (end_of (get_or cells j c))) →
          (end_of (get_or cells j c) ≤ end_of (get_or cells k d)) × (g (get_or cells j c).start + (get_or cells j c).minimum ≤ g (end_of (get_or cells j c)))
      earlier j c one known = grind (arith, not_less)

      here : (j : ℕ) (c : Demand) → j ≡ k → 1 ≤ (get_or cells j c).span → (end_of (get_or cells j c) ≤ end_of (get_or cells k d)) × (g (get_or cells j c).start + (get_or cells j c).minimum ≤ g (end_of (get_or cells j c)))
      here j c same one = grind (arith, get_or_default)

  pub below-cell : (boundary : ℕ → ℕ) → AreSteps base 0 n boundary → AreSpaced cells boundary → ((i : ℕ) → i ≤ a → f i ≤ boundary i) → (i : ℕ) → i ≤ end_of (get_or cells k d) → g i ≤ boundary i
  below-cell boundary steps apart below i le = grind (arith, cases_eq i (end_of (get_or cells k d)), mid, apart, elsewhere, below-more, steps, below)
    where
      mid : (i : ℕ) → i ≤ end_of (get_or cells k d) → m i ≤ boundary i
      mid i le = below-more base n boundary m a (end_of (get_or cells k d)) steps (table k d listed).ends_within
          (λ i l. let same : m i ≡ f i = before i l in let known : f i ≤ boundary i = below i l in omega arith) laid i le

-- what a read past the end of a list of cells gives
abbrev pub no_cell : Demand
no_cell = record { row = 0; col = 0; start = 0; span = 0; minimum = 0 }

-- boundaries laid up to track a, by the first k cells, all of which end there or before; the later ones end there or after
pub record LaidTo (base : List ℕ) (cells : List Demand) (k a : ℕ) (boundaries : List ℕ) : Type 0 where
  pub one_more : length boundaries ≡ length base + 1
  pub within : a ≤ length base
  pub steps : AreSteps base 0 a (λ i. get_or boundaries i 0)
  pub apart : (j : ℕ) (d : Demand) → j < k → (end_of (get_or cells j d) ≤ a) × (get_or boundaries (get_or cells j d).start 0 + (get_or cells j d).minimum ≤ get_or boundaries (end_of (get_or cells j d)) 0)
  pub later : (j : ℕ) (d : Demand) → k ≤ j → j < length cells → a ≤ end_of (get_or cells j d)
  pub below : (boundary : ℕ → ℕ) → AreLaid base cells boundary → (i : ℕ) → i ≤ a → get_or boundaries i 0 ≤ boundary i

-- one step of the loop: boundaries laid on up to the end of the next cell, as `mid`
module _ (base : List ℕ) (cells : List Demand) (table : All (IsInTable (length base)) cells) (sorted : IsNonDecreasingBy end_of cells) (k a : ℕ) (boundaries mid : List ℕ) (listed : k < length cells)
    (laid_to : LaidTo base cells k a boundaries) (same : length mid ≡ length boundaries) (before : (i : ℕ) → i ≤ a → get_or mid i 0 ≡ get_or boundaries i 0)
    (laid : (i : ℕ) → a ≤ i → i < end_of (get_or cells k no_cell) → get_or mid (i + 1) 0 ≡ get_or mid i 0 + get_or base i 0) where
  -- where the next cell needs more than fits, the last boundary does not fit
  pub past-cell : 18446744073709551616 ≤ get_or mid (get_or cells k no_cell).start 0 + (get_or cells k no_cell).minimum → (boundary : ℕ → ℕ) → AreLaid base cells boundary → 18446744073709551616 ≤ boundary (length base)
  past-cell large boundary are =
      let within : end_of (get_or cells k no_cell) ≤ length base = (table k no_cell listed).ends_within in
      let p : get_or mid (get_or cells k no_cell).start 0 ≤ boundary (get_or cells k no_cell).start =
      below-more base (length base) boundary (λ i. get_or mid i 0) a (end_of (get_or cells k no_cell)) are.steps within
      (λ i l. let e : get_or mid i 0 ≡ get_or boundaries i 0 = before i l in let b : get_or boundaries i 0 ≤ boundary i = laid_to.below boundary are i l in omega arith) laid (get_or cells k no_cell).start (omega arith) in
      let q : boundary (get_or cells k no_cell).start + (get_or cells k no_cell).minimum ≤ boundary (end_of (get_or cells k no_cell)) = are.apart k no_cell listed in
      let r : boundary (end_of (get_or cells k no_cell)) ≤ boundary (length base) = steps-rise base 0 (length base) boundary are.steps (end_of (get_or cells k no_cell)) (length base) (omega arith) within (omega arith) in
      omega arith

  pub end-in_mid : end_of (get_or cells k no_cell) < length mid
  end-in_mid = grind arith

  pub start-in_mid : (get_or cells k no_cell).start < length mid
  start-in_mid = let l : end_of (get_or cells k no_cell) < length mid = end-in_mid in omega arith

  module _ (top : ℕ) (pushed : top ≡ max (get_or mid (end_of (get_or cells k no_cell)) 0) (get_or mid (get_or cells k no_cell).start 0 + (get_or cells k no_cell).minimum)) where
    abbrev moved : List ℕ
    moved = set mid (end_of (get_or cells k no_cell)) top

    there : get_or moved (end_of (get_or cells k no_cell)) 0 ≡ max (get_or mid (end_of (get_or cells k no_cell)) 0) (get_or mid (get_or cells k no_cell).start 0 + (get_or cells k no_cell).minimum)
    there = get_or-set_same mid (end_of (get_or cells k no_cell)) top 0 end-in_mid ∙ pushed

    elsewhere : (i : ℕ) → i ≢ end_of (get_or cells k no_cell) → get_or moved i 0 ≡ get_or mid i 0
    elsewhere i ne = get_or-set_other mid (end_of (get_or cells k no_cell)) i top 0 ne

    ordered : a ≤ end_of (get_or cells k no_cell)
    ordered = laid_to.later k no_cell (omega arith) listed

    pub LaidTo-cell : LaidTo base cells (k + 1) (end_of (get_or cells k no_cell)) moved
    LaidTo-cell = record {
      one_more = length-set mid (end_of (get_or cells k no_cell)) top ∙ same ∙ laid_to.one_more;
      within = (table k no_cell listed).ends_within;
      steps = steps-cell base (length base) cells table k no_cell listed (λ i. get_or boundaries i 0) (λ i. get_or mid i 0) (λ i. get_or moved i 0) a ordered before laid there elsewhere laid_to.steps;
      apart = apart-cell base (length base) cells table k no_cell listed (λ i. get_or boundaries i 0) (λ i. get_or mid i 0) (λ i. get_or moved i 0) a ordered before laid there elsewhere laid_to.apart;
      later = λ j d from l. let s : end_of (get_or cells k d) ≤ end_of (get_or cells j d) = sorted k j d (omega arith) l in
          omega (arith, ap end_of (get_or_default cells k d no_cell listed));
      below = λ boundary are. below-cell base (length base) cells table k no_cell listed (λ i. get_or boundaries i 0) (λ i. get_or mid i 0) (λ i. get_or moved i 0) a ordered before laid there elsewhere boundary are.steps are.apart (laid_to.below boundary are);
    }

-- after the last cell: boundaries laid on up to the end, as `whole`
module _ (base : List ℕ) (cells : List Demand) (k a : ℕ) (boundaries whole : List ℕ) (all : length cells ≤ k) (laid_to : LaidTo base cells k a boundaries)
    (before : (i : ℕ) → i ≤ a → get_or whole i 0 ≡ get_or boundaries i 0) (laid : (i : ℕ) → a ≤ i → i < length base → get_or whole (i + 1) 0 ≡ get_or whole i 0 + get_or base i 0) where
  pub below-whole : (boundary : ℕ → ℕ) → AreLaid base cells boundary → (i : ℕ) → i ≤ length base → get_or whole i 0 ≤ boundary i
  below-whole boundary are =
      below-more base (length base) boundary (λ i. get_or whole i 0) a (length base) are.steps (omega arith)
      (λ i l. let e : get_or whole i 0 ≡ get_or boundaries i 0 = before i l in let b : get_or boundaries i 0 ≤ boundary i = laid_to.below boundary are i l in omega arith) laid
