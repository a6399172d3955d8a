-- Of two cells the earlier.
use Rattle.std.proofs.Common.{◌≡◌, suc, ◌<◌, ◌≤◌, Bool, true, false, ◌&&◌, ◌==◌, inl, inr, List, [], ◌∷◌, refl, arith, eq-eqb, ne_eqb, lt-ltb, le-ltb, Option, Some, None}
use Rattle.std.specs.Prelude.{All, find, nat_lt}
use Rattle.std.proofs.lemmas.Bool.{cases_Bool, cases_eq}
use Rattle.std.proofs.lemmas.List.Elements.{All-head, All-tail, recursion_from_All}
use Rattle.papergrid_values.specs.declared.position.Position.{Position}
use Rattle.papergrid_values.specs.Positions.{IsBefore}
use Rattle.papergrid_tracks.specs.declared.demand.Demand.{Demand}
use Rattle.papergrid_tracks.specs.ForProofs.Demands.{StandInOrder}
use Rattle.papergrid_tracks.specs.Ranges.{position_of}
use Rattle.papergrid_tracks.proofs.Counting.{find-all}
use Rattle.papergrid_tracks.specs.ForProofs.Followed.{earlier_cell, is_before}

pub some_none : (d : Demand) → Some d ≡ None → ⊥
some_none d e = cc

before-true : (p q : Position) → IsBefore p q → is_before p q ≡ true
before-true p q before = grind (arith, lt-ltb, le-ltb, eq-eqb)

before-false : (p q : Position) → IsBefore p q → is_before q p ≡ false
before-false p q before = grind (arith, le-ltb, eq-eqb)

stays-first : (d : Demand) (other : Option Demand) → ((e : Demand) → other ≡ Some e → IsBefore (position_of d) (position_of e)) → earlier_cell (Some d) other ≡ Some d
stays-first d None before = refl
stays-first d (Some e) before = rw (before-false (position_of d) (position_of e) (before e refl)) refl

comes-first : (d : Demand) (one : Option Demand) → ((e : Demand) → one ≡ Some e → IsBefore (position_of d) (position_of e)) → earlier_cell one (Some d) ≡ Some d
comes-first d None before = refl
comes-first d (Some e) before = rw (before-true (position_of d) (position_of e) (before e refl)) refl

-- where the cells stand in order, the earlier of the first of each kind that passes a test is the first of all that do
pub first-in_order : (test : Demand → Bool) (ds : List Demand) → All (λ d. 1 ≤ d.span) ds → StandInOrder ds →
    earlier_cell (find (λ d. d.span == 1 && test d) ds) (find (λ d. nat_lt 1 d.span && test d) ds) ≡ find test ds
first-in_order test [] spans ordered = refl
first-in_order test (d ∷ ds) spans ordered =
    let rest = first-in_order test ds (All-tail (λ d. 1 ≤ d.span) d ds spans) (λ i j e l l'. ordered (suc i) (suc j) e (omega arith) (omega arith)) in
    elim (cases_eq d.span 1) [
      | inl one ↦ elim (cases_Bool (test d)) [
        | inl t ↦ rw (eq-eqb d.span 1 one, le-ltb 1 d.span (omega arith), t) (stays-first d (find (λ d. nat_lt 1 d.span && test d) ds) (λ e found. later (λ d. nat_lt 1 d.span && test d) e found))
        | inr f ↦ rw (eq-eqb d.span 1 one, le-ltb 1 d.span (omega arith), f) rest
      ]
      | inr ne ↦
          let some : 1 ≤ d.span = All-head (λ d. 1 ≤ d.span) d ds spans in
          let many : 1 < d.span = omega arith in
          elim (cases_Bool (test d)) [
            | inl t ↦ rw (ne_eqb d.span 1 ne, lt-ltb 1 d.span many, t) (comes-first d (find (λ d. d.span == 1 && test d) ds) (λ e found. later (λ d. d.span == 1 && test d) e found))
            | inr f ↦ rw (ne_eqb d.span 1 ne, lt-ltb 1 d.span many, f) rest
          ]
    ]
  where
    later : (kind : Demand → Bool) (e : Demand) → find kind ds ≡ Some e → IsBefore (position_of d) (position_of e)
    later kind e found =
        (find-all (λ e. IsBefore (position_of d) (position_of e)) kind ds e
        (recursion_from_All (λ e. IsBefore (position_of d) (position_of e)) ds (λ k e l. ordered 0 (suc k) e (omega arith) (omega arith))) found).1
