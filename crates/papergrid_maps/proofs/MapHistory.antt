-- One more call: what it makes of each part, and that the list of calls says the same.
use Rattle.std.proofs.Common.{◌≡◌, ℕ, ◌&&◌, List, [], ◌∷◌, ◌++◌, Option, Some, None, refl, sym, ap, subst, ◌∙◌, rules}
use Rattle.std.specs.Prelude.{◌==◌, if◌then◌else◌, is_some, reverse}
use Rattle.std.proofs.Common.{append_assoc}
use Rattle.std.proofs.lemmas.List.{reverse-append}
use Rattle.std.specs.FinMap.{get}
use Rattle.papergrid_maps.specs.Keys.{entity_eq}
use Rattle.papergrid_maps.proofs.MapSearch.{cell_override_value, global_value, standing_value}
use Rattle.papergrid_maps.specs.StoredMap.{Stored, HasMapHistory, AppendsCalls}
use Rattle.papergrid_values.specs.declared.position.Position.{Position}
use Rattle.papergrid_values.specs.declared.entity.Entity.{Entity}
use Rattle.papergrid_values.specs.declared.entity.Entity.TheVariants.{Global, Column, Row, Cell}
use Rattle.papergrid_maps.specs.declared.entity_map.MapCall.{MapCall}
use Rattle.papergrid_maps.specs.declared.entity_map.MapCall.TheVariants.{Insert, Remove}
use Rattle.papergrid_maps.proofs.EffectiveCallLemmas.{history_of_search, search_of_history}

module _ {T : Type 0} where
  -- what a call makes of the global value, of a column's or a row's, and of a cell's whose column and row have these values
  abbrev pub global_after : MapCall T → T → T
  global_after (Insert Global v) old = v
  global_after call old = old

  abbrev pub value_after : MapCall T → Entity → Option T → Option T
  value_after (Insert Global v) entity old = None
  value_after (Remove Global) entity old = None
  value_after (Insert other v) entity old = if entity_eq other entity then Some v else old
  value_after call entity old = old

  abbrev pub cell_after : MapCall T → Position → Option T → Option T → Option T → Option T
  cell_after (Insert Global v) p column row old = None
  cell_after (Remove Global) p column row old = None
  cell_after (Insert (Cell i j) v) p column row old = if i == p.row && j == p.col then Some v else old
  cell_after (Insert (Row i) v) p column row old = if i == p.row && is_some column then Some v else old
  cell_after (Insert (Column j) v) p column row old = if j == p.col && is_some row then Some v else old
  cell_after (Remove (Cell i j)) p column row old = if i == p.row && j == p.col then None else old
  cell_after (Remove (Row i)) p column row old = if i == p.row then None else old
  cell_after (Remove (Column j)) p column row old = if j == p.col then None else old

  -- new is old after the call, part by part
  pub record IsStep (old new : Stored T) (call : MapCall T) : Type 0 where
    pub global : new.global ≡ global_after call old.global
    pub columns : (c : ℕ) → get new.columns c ≡ value_after call (Column c) (get old.columns c)
    pub rows : (r : ℕ) → get new.rows r ≡ value_after call (Row r) (get old.rows r)
    pub cells : (p : Position) → get new.cells p ≡ cell_after call p (get old.columns p.col) (get old.rows p.row) (get old.cells p)

  -- one more call changes what the calls decide likewise
  next : (given : T) (older : List (MapCall T)) (call : MapCall T) →
      (global_after call (global_value given older) ≡ global_value given (call ∷ older))
      × ((entity : Entity) → value_after call entity (standing_value entity older) ≡ standing_value entity (call ∷ older))
      × ((p : Position) → cell_after call p (standing_value (Column p.col) older) (standing_value (Row p.row) older) (cell_override_value p.row p.col older)
      ≡ cell_override_value p.row p.col (call ∷ older))
  next given older (Insert Global v) = (refl, (λ entity. refl), (λ p. refl))
  next given older (Insert (Column k) v) = (refl, (λ entity. refl), (λ p. refl))
  next given older (Insert (Row k) v) = (refl, (λ entity. refl), (λ p. refl))
  next given older (Insert (Cell i j) v) = (refl, (λ entity. refl), (λ p. refl))
  next given older (Remove Global) = (refl, (λ entity. refl), (λ p. refl))
  next given older (Remove (Column k)) = (refl, (λ entity. refl), (λ p. refl))
  next given older (Remove (Row k)) = (refl, (λ entity. refl), (λ p. refl))
  next given older (Remove (Cell i j)) = (refl, (λ entity. refl), (λ p. refl))

  newest : (calls : List (MapCall T)) (call : MapCall T) → reverse (calls ++ call ∷ []) ≡ call ∷ reverse calls
  newest calls call = reverse-append calls (call ∷ [])

  -- a map that a call changes part by part has the calls so far and then that one as its history
  pub history_step : (old new : Stored T) (call : MapCall T) → IsStep old new call → AppendsCalls old new (call ∷ [])
  history_step old new call step given calls told =
      let holds = search_of_history calls given old told in
      let after = next given (reverse calls) call in
      let same = sym (newest calls call) in history_of_search (calls ++ call ∷ []) given new (record {
        global = step.global ∙ ap (global_after call) holds.global ∙ after.0 ∙ ap (global_value given) same;
        columns = λ c. step.columns c ∙ ap (value_after call (Column c)) (holds.columns c) ∙ after.1 (Column c) ∙ ap (standing_value (Column c)) same;
        rows = λ r. step.rows r ∙ ap (value_after call (Row r)) (holds.rows r) ∙ after.1 (Row r) ∙ ap (standing_value (Row r)) same;
        cells = search (rules, cell_override_value);
      })

  pub history_from_step : {old stored new : Stored T} {call history_call : MapCall T} → stored ≡ old → history_call ≡ call → IsStep stored new call → AppendsCalls old new (history_call ∷ [])
  history_from_step {old = old} {stored = stored} {new = new} {call = call} {history_call = history_call} is same step =
      subst (λ (h : Stored T). AppendsCalls h new (history_call ∷ [])) is (subst (λ (k : MapCall T). AppendsCalls stored new (k ∷ [])) (sym same) (history_step stored new call step))

  pub appends_more : {old between new : Stored T} (xs ys : List (MapCall T)) → AppendsCalls old between xs → AppendsCalls between new ys → AppendsCalls old new (xs ++ ys)
  appends_more {new = new} xs ys first next given calls told = subst (λ zs. HasMapHistory given zs new) (append_assoc calls xs ys) (next given (calls ++ xs) (first given calls told))
