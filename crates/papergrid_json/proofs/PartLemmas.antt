-- The names of parts, one after another.
use Rattle.std.proofs.Common.{◌≡◌, ◌<◌, ◌≤◌, ◌+◌, ◌||◌, ℕ, zero, suc, List, [], ◌∷◌, Bool, true, false, true≢false, length, drop, map, get_or, sym, ap, ◌∙◌, arith, refl, Option, Some, Result, Err}
use Rattle.std.specs.Prelude.{bytes_eq, codes}
use Rattle.serde_json.specs.Data.{Data}
use Rattle.papergrid_json.specs.ForProofs.Reading.{IsReading, IsTest}
use Rattle.papergrid_json.specs.Spots.{when}
use Rattle.papergrid_json.specs.Values.{are_named_at, four, frame_at, frame_by_parts, is_named, within_at}
use Rattle.papergrid_json.specs.declared.error.Fault.{Fault}
use Rattle.papergrid_json.specs.declared.error.Fault.TheVariants.{Memory, Unexpected, UnknownSetting}
use Rattle.papergrid_values.specs.declared.borders.Borders.{Borders}

module _ {X : Type 0} (word : X → List ℕ) (name : List ℕ) where
  -- the names from one on are this one and those behind it
  step : (names : List X) (i : ℕ) (d : X) → i < length names
      → is_named name (drop i (map word names)) ≡ bytes_eq name (word (get_or names i d)) || is_named name (drop (suc i) (map word names))
  step [] i d h = absurd (omega (arith, h))
  step (first ∷ names) zero d h = refl
  step (first ∷ names) (suc i) d h = step names i d (omega (arith, h))

  module _ (names : List X) (i : ℕ) where
    -- at a name that is this one
    pub named_here : (d : X) → i < length names → bytes_eq name (word (get_or names i d)) ≡ true → is_named name (drop i (map word names)) ≡ true
    named_here d h same = step names i d h ∙ ap (λ b. b || is_named name (drop (suc i) (map word names))) same

    -- at one that is another
    pub named_behind : (d : X) → i < length names → bytes_eq name (word (get_or names i d)) ≡ false
        → is_named name (drop i (map word names)) ≡ is_named name (drop (i + 1) (map word names))
    named_behind d h other =
        let next : suc i ≡ i + 1 = omega arith in
        step names i d h ∙ ap (λ b. b || is_named name (drop (suc i) (map word names))) other ∙ ap (λ n. is_named name (drop n (map word names))) next

  -- behind the last one there is none
  pub none_behind : (names : List X) (i : ℕ) → length names ≤ i → is_named name (drop i (map word names)) ≡ false
  none_behind [] zero h = refl
  none_behind [] (suc i) h = refl
  none_behind (first ∷ names) zero h = absurd (omega (arith, h))
  none_behind (first ∷ names) (suc i) h = none_behind names i (omega (arith, h))

module _ {A : Type 0} (told : Option Data → Option A) (here : Option Data) where
  abbrev pub Four : Type 0
  Four = (Option A × Option A) × (Option A × Option A)

  -- a frame by its parts
  pub frame_told : (top bottom sides : Four) (within : (Option A × Option A) × Option A)
      → four told here (codes "top") (codes "top_left") (codes "top_right") (codes "top_intersection") ≡ Some top
      → four told here (codes "bottom") (codes "bottom_left") (codes "bottom_right") (codes "bottom_intersection") ≡ Some bottom
      → four told here (codes "left") (codes "left_intersection") (codes "right") (codes "right_intersection") ≡ Some sides
      → within_at told here ≡ Some within
      → frame_by_parts told here ≡ Some (record {
        top = top.0.0;
        top_left = top.0.1;
        top_right = top.1.0;
        top_intersection = top.1.1;
        bottom = bottom.0.0;
        bottom_left = bottom.0.1;
        bottom_right = bottom.1.0;
        bottom_intersection = bottom.1.1;
        horizontal = within.0.0;
        vertical = within.0.1;
        intersection = within.1;
        left = sides.0.0;
        left_intersection = sides.0.1;
        right = sides.1.0;
        right_intersection = sides.1.1;
      })
  unfolding frame_by_parts
  frame_told top bottom sides within at_top at_bottom at_sides lines = rw (at_top, at_bottom, at_sides, lines) refl

-- whether a frame stands there is told first
abbrev pub is_frame : Option Data → Bool
is_frame here = are_named_at (
    codes "top" ∷ codes "top_left" ∷ codes "top_right" ∷ codes "top_intersection"
    ∷ codes "bottom" ∷ codes "bottom_left" ∷ codes "bottom_right" ∷ codes "bottom_intersection"
    ∷ codes "left" ∷ codes "left_intersection" ∷ codes "right" ∷ codes "right_intersection"
    ∷ codes "horizontal" ∷ codes "vertical" ∷ codes "intersection" ∷ []) here

past_test : {A : Type 0} (so : Bool) (told : Option A) (answer : Result A Fault) → so ≡ true → IsReading told answer → IsReading (when so told) answer
past_test true told answer is h = h
past_test false told answer is h = absurd (true≢false (sym is))

at_test : {A : Type 0} (so : Bool) (told : Option A) (fault : Fault) → IsTest so (Err fault) → IsReading (when so told) (Err fault)
at_test so told Memory h = tt
at_test true told (Unexpected path wanted) h = absurd (true≢false h)
at_test false told (Unexpected path wanted) h = refl
at_test so told (UnknownSetting index name) h = absurd h

module _ {A : Type 0} (told : Option Data → Option A) (here : Option Data) where
  pub frame_past : (answer : Result (Borders A) Fault) → is_frame here ≡ true → IsReading (frame_by_parts told here) answer → IsReading (frame_at told here) answer
  unfolding frame_at
  frame_past answer = past_test (is_frame here) (frame_by_parts told here) answer

  pub frame_refused : (fault : Fault) → IsTest (is_frame here) (Err fault) → IsReading (frame_at told here) (Err fault)
  unfolding frame_at
  frame_refused fault = at_test (is_frame here) (frame_by_parts told here) fault
