-- Going back along the lowest positions of the boundaries.
use Rattle.std.proofs.Common.{◌≡◌, ◌≢◌, ℕ, suc, ◌+◌, ◌-◌, ◌<◌, ◌≤◌, ◌++◌, ◌∙◌, map, [], true, false, ◌==◌, List, ◌∷◌, length, get_or, set, drop, refl, sym, ap, arith, eq-eqb, ne_eqb, Option, Some, None}
use Rattle.std.specs.Prelude.{find}
use Rattle.std.proofs.lemmas.Bool.{cases_eq}
use Rattle.std.proofs.lemmas.List.{append_assoc, append-nil, drop_more, get_or-set_same, get_or-set_other}
use Rattle.papergrid_tracks.specs.declared.demand.Demand.{Demand}
use Rattle.papergrid_tracks.specs.Ranges.{end_of, position_of}
use Rattle.papergrid_values.specs.declared.position.Position.{Position}
use Rattle.papergrid_tracks.specs.ForProofs.Followed.{earlier_cell, followed_cells, with_earlier, with_minimum}
use Rattle.papergrid_tracks.specs.CriticalPath.{is_tight}
use Rattle.papergrid_tracks.proofs.LaidLemmas.{no_cell}

-- a cell that stands before others, and is tight at its boundary or not
module _ (asks : Demand → ℕ) (boundary : ℕ → ℕ) (d : Demand) (later : List Demand) where
  find-is_tight : (i : ℕ) → end_of d ≡ i → (boundary d.start + asks d == boundary (end_of d)) ≡ true → find (is_tight asks boundary i) (d ∷ later) ≡ Some d
  find-is_tight i ends is_tight = grind (arith, eq-eqb)

  find-passes : (i : ℕ) → end_of d ≡ i → (boundary d.start + asks d == boundary (end_of d)) ≡ false → find (is_tight asks boundary i) (d ∷ later) ≡ find (is_tight asks boundary i) later
  find-passes i ends is_tight = grind (arith, eq-eqb)

  find-elsewhere : (i : ℕ) → end_of d ≢ i → find (is_tight asks boundary i) (d ∷ later) ≡ find (is_tight asks boundary i) later
  find-elsewhere i ne = rw (ne_eqb (end_of d) i ne) refl

module _ (asks : Demand → ℕ) (boundary : ℕ → ℕ) (cells : List Demand) (j : ℕ) (listed : j < length cells) (tight_cells : List (Option Demand))
    (first : (i : ℕ) → i < length tight_cells → get_or tight_cells i None ≡ find (is_tight asks boundary i) (drop (j + 1) cells)) where
  split : (i : ℕ) → find (is_tight asks boundary i) (drop j cells) ≡ find (is_tight asks boundary i) (get_or cells j no_cell ∷ drop (j + 1) cells)
  split i = ap (find (is_tight asks boundary i)) (drop_more cells j no_cell listed)

  pub first-kept : (boundary (get_or cells j no_cell).start + asks (get_or cells j no_cell) == boundary (end_of (get_or cells j no_cell))) ≡ false →
      (i : ℕ) → i < length tight_cells → get_or tight_cells i None ≡ find (is_tight asks boundary i) (drop j cells)
  first-kept passes i l = grind (arith, cases_eq, no_cell, split, find-passes, find-elsewhere)

  pub first-written : (boundary (get_or cells j no_cell).start + asks (get_or cells j no_cell) == boundary (end_of (get_or cells j no_cell))) ≡ true →
      (i : ℕ) → i < length tight_cells → get_or (set tight_cells (end_of (get_or cells j no_cell)) (Some (get_or cells j no_cell))) i None ≡ find (is_tight asks boundary i) (drop j cells)
  first-written is_tight i l = grind (arith, cases_eq, no_cell, get_or-set_same, split, find-is_tight, get_or-set_other, find-elsewhere)

-- one step back, of `steps + 1`
module _ (boundary : ℕ → ℕ) (single : ℕ → Demand) (longer : ℕ → Option Demand) (steps i : ℕ) where
  pub followed-even : boundary i - boundary (i - 1) ≡ 0 → followed_cells boundary single longer (suc steps) i ≡ followed_cells boundary single longer steps (i - 1)
  followed-even even = rw (eq-eqb (boundary i - boundary (i - 1)) 0 even) refl

  pub followed-past : boundary i - boundary (i - 1) ≢ 0 →
      followed_cells boundary single longer (suc steps) i ≡ with_earlier (earlier_cell (with_minimum (boundary i - boundary (i - 1)) (single (i - 1))) (longer i)) (followed_cells boundary single longer steps)
  followed-past past = rw (ne_eqb (boundary i - boundary (i - 1)) 0 past) refl

-- what was met, and what is still to be met from track i on, are all of it
module _ (boundary : ℕ → ℕ) (single : ℕ → Demand) (longer : ℕ → Option Demand) (size counter i before : ℕ) (positions whole : List Position) (left : counter < size) (before_is : before ≡ i - 1)
    (met : positions ++ map position_of (followed_cells boundary single longer (size - counter) i) ≡ whole) where
  steps_are : size - counter ≡ suc (size - (counter + 1))
  steps_are = omega arith

  met_now : positions ++ map position_of (followed_cells boundary single longer (suc (size - (counter + 1))) i) ≡ whole
  met_now = ap (λ s. positions ++ map position_of (followed_cells boundary single longer s i)) (sym steps_are) ∙ met

  pub met-even : boundary i - boundary before ≡ 0 → positions ++ map position_of (followed_cells boundary single longer (size - (counter + 1)) before) ≡ whole
  met-even even = grind (arith, followed-even, met_now)

  one_more : (d : Demand) (rest : List Demand) → followed_cells boundary single longer (suc (size - (counter + 1))) i ≡ d ∷ rest → (position : Position) → position ≡ position_of d → (positions ++ position ∷ []) ++ map position_of rest ≡ whole
  one_more d rest e position here = grind (arith, append_assoc, met_now)

  past_now : boundary i - boundary before ≢ 0 →
      followed_cells boundary single longer (suc (size - (counter + 1))) i ≡ with_earlier (earlier_cell (with_minimum (boundary i - boundary before) (single before)) (longer i)) (followed_cells boundary single longer (size - (counter + 1)))
  past_now past = grind (arith, followed-past)

  pub met-cell : boundary i - boundary before ≢ 0 → (d : Demand) → earlier_cell (with_minimum (boundary i - boundary before) (single before)) (longer i) ≡ Some d → (position : Position) → position ≡ position_of d →
      (positions ++ position ∷ []) ++ map position_of (followed_cells boundary single longer (size - (counter + 1)) d.start) ≡ whole
  met-cell past d found position here = grind (arith, one_more, past_now)

  pub met-none : boundary i - boundary before ≢ 0 → earlier_cell (with_minimum (boundary i - boundary before) (single before)) (longer i) ≡ None → positions ≡ whole
  met-none past none = grind (arith, append-nil, past_now, met_now)

pub none-from : (found : Option Demand) → ((d : Demand) → found ≡ Some d → ⊥) → found ≡ None
none-from None nothing = refl
none-from (Some d) nothing = absurd (nothing d refl)

-- the range of the cell that is met starts at a number
pub starts-within : (boundary : ℕ → ℕ) (single : ℕ → Demand) (longer : ℕ → Option Demand) (size i before : ℕ) → before ≡ i - 1 → i < size → boundary i - boundary before ≢ 0 →
    ((k : ℕ) → k + 1 < size → (single k).start ≤ k) → ((k : ℕ) (d : Demand) → longer k ≡ Some d → d.start < size) →
    (d : Demand) → earlier_cell (with_minimum (boundary i - boundary before) (single before)) (longer i) ≡ Some d → d.start < size
starts-within boundary single longer size i before before_is within past alone starts d found = grind arith
