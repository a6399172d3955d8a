-- A filter of positions: a mark that is set stays set.
use Rattle.std.proofs.Common.{◌≡◌, ℕ, ◌+◌, ◌<◌, zero, suc, Bool, true, false, List, [], ◌∷◌, ◌++◌, length, get_or, set, take, refl, sym, ap, subst, inl, inr, ◌∙◌, arith}
use Rattle.std.specs.Prelude.{All, Option, Some, None, is_some}
use Rattle.std.specs.Set.{is_member}
use Rattle.std.proofs.lemmas.Bool.{cases_Bool, false≢true, true≢false}
use Rattle.std.proofs.Math.Seq.{take-suc}
use Rattle.std.proofs.lemmas.List.{get_or-set_same}
use Rattle.std.proofs.lemmas.List.Elements.{All-head, All-push, All-tail, All-weaker}
use Rattle.papergrid_values.specs.declared.position.Position.{Position}
use Rattle.papergrid_values.specs.MapKeys.{position_eq}
use Rattle.papergrid_values.proofs.KeyLemmas.{exact_position_eq}
use Rattle.papergrid_values.specs.declared.entity.Entity.{Entity}
use Rattle.papergrid_values.specs.declared.entity.Entity.TheVariants.{Cell}
use Rattle.papergrid_walk.specs.ForProofs.Filters.{passes, slot}
use Rattle.papergrid_maps.specs.Listed.{AreSetCells}
use Rattle.papergrid_walk.specs.ForProofs.Paddings.{TellsOwn}
use Rattle.papergrid_walk.specs.declared.position_filter.PositionFilter.{PositionFilter}
use Rattle.papergrid_maps.specs.declared.view.Paddings.{Paddings}

-- the mark of the position is set
abbrev pub IsSet : List Bool → ℕ → Position → Type 0
IsSet marks count p = get_or marks (slot count p) false ≡ true

stays : (marks : List Bool) (i j : ℕ) → get_or marks j false ≡ true → get_or (set marks i true) j false ≡ true
stays [] i j h = h
stays (m ∷ ms) zero zero h = refl
stays (m ∷ ms) zero (suc j) h = h
stays (m ∷ ms) (suc i) zero h = h
stays (m ∷ ms) (suc i) (suc j) h = stays ms i j h

-- those of the first positions, and of one more
pub one_more : (marks : List Bool) (count at i : ℕ) (positions : List Position) → at ≡ slot count (get_or positions i (record { row = 0; col = 0 })) → at < length marks → i < length positions →
    All (IsSet marks count) (take i positions) → All (IsSet (set marks at true) count) (take (i + 1) positions)
one_more marks count at i positions is within inside were =
    let p = get_or positions i (record { row = 0; col = 0 }) in
    let next : i + 1 ≡ suc i = omega arith in
    let cut : take (i + 1) positions ≡ take i positions ++ p ∷ [] = ap (λ n. take n positions) next ∙ take-suc positions i (record { row = 0; col = 0 }) inside in
    subst (All (IsSet (set marks at true) count)) (sym cut)
    (All-push (IsSet (set marks at true) count) (take i positions) p
    (All-weaker (IsSet marks count) (IsSet (set marks at true) count) (λ q. stays marks at (slot count q)) (take i positions) were)
    (ap (λ k. get_or (set marks at true) k false) (sym is) ∙ get_or-set_same marks at true false within))

-- ---- what a filter tells

member_holds : (P : Position → Type 0) (positions : List Position) (p : Position) → All P positions → is_member position_eq positions p ≡ true → P p
member_holds P [] p all member = absurd (false≢true member)
member_holds P (q ∷ positions) p all member = elim (cases_Bool (position_eq p q)) [
  | inl t ↦ subst P (sym (exact_position_eq p q t)) (All-head P q positions all)
  | inr f ↦ let member' : is_member position_eq positions p ≡ true = rw f at member in member_holds P positions p (All-tail P q positions all) member'
]

has_none : {A : Type 0} (o : Option A) → is_some o ≡ false → o ≡ None
has_none None h = refl
has_none (Some a) h = absurd (true≢false h)

-- a filter that all padded cells pass
pub tells_own : (set : Entity → Option Paddings) (cells : List Position) (filter : PositionFilter) → AreSetCells set cells → All (λ p. passes filter p ≡ true) cells → TellsOwn set filter
tells_own set cells filter padded pass p not = elim (cases_Bool (is_member position_eq cells p)) [
  | inl t ↦ absurd (true≢false (sym (member_holds (λ q. passes filter q ≡ true) cells p pass t) ∙ not))
  | inr f ↦ has_none (set (Cell p.row p.col)) (sym (padded p) ∙ f)
]
