-- What a map holds, by the entries of its three maps.
use Rattle.std.proofs.Common.{◌≡◌, ℕ, Bool, ◌&&◌, List, [], length, eqb, Option, Some, None, sym, subst, ap, ◌∙◌, rules}
use Rattle.std.specs.Prelude.{◌↔◌, IsTrue}
use Rattle.std.specs.Cmp.{nat_eq_equiv}
use Rattle.std.proofs.lemmas.Bool.{and_parts, and_from}
use Rattle.std.specs.Prelude.{unwrap_or}
use Rattle.std.specs.Map.{lookup}
use Rattle.std.specs.FinMap.{from_entries}
use Rattle.papergrid_values.specs.MapKeys.{position_eq}
use Rattle.papergrid_maps.specs.StoredMap.{Stored, HasNothing, stored_value, HasMapHistory}
use Rattle.papergrid_maps.specs.EffectiveCall.{IsEffective}
use Rattle.papergrid_maps.proofs.MapSearch.{effective_value}
use Rattle.papergrid_maps.specs.declared.entity_map.MapCall.{MapCall}
use Rattle.papergrid_values.specs.declared.position.Position.{Position}
use Rattle.papergrid_values.proofs.EntryLemmas.{no_entries, none_of_nothing}
use Rattle.papergrid_values.proofs.KeyLemmas.{get_at_number, get_at_position, position_equiv}
use Rattle.papergrid_maps.proofs.EffectiveCallLemmas.{effective_value-IsEffective, history_of_search, search_of_history}

module _ {T : Type 0} where
  -- the map with these entries
  abbrev pub view_of : T → List (ℕ × T) → List (ℕ × T) → List (Position × T) → Stored T
  view_of g cs rs ks = record { global = g; columns = from_entries cs; rows = from_entries rs; cells = from_entries ks }

  pub stored_value-view_of : (g : T) (cs rs : List (ℕ × T)) (ks : List (Position × T)) (p : Position)
      → stored_value (view_of g cs rs ks) p ≡ unwrap_or (lookup (position_eq p) ks) (unwrap_or (lookup (eqb p.col) cs) (unwrap_or (lookup (eqb p.row) rs) g))
  stored_value-view_of g cs rs ks p = λ i. unwrap_or (get_at_position ks p i) (unwrap_or (get_at_number cs p.col i) (unwrap_or (get_at_number rs p.row i) g))

  pub new_history : (g : T) → HasMapHistory g [] (view_of g [] [] [])
  new_history g = search (rules, history_of_search, get_at_number, get_at_position)

-- nothing is stored where the three maps are empty
pub nothing_stored : {T : Type 0} (g : T) (cs rs : List (ℕ × T)) (ks : List (Position × T)) (a b c : Bool)
    → (IsTrue a ↔ (length cs ≡ 0)) → (IsTrue b ↔ (length rs ≡ 0)) → (IsTrue c ↔ (length ks ≡ 0)) → IsTrue (a && (b && c)) ↔ HasNothing (view_of g cs rs ks)
nothing_stored g cs rs ks a b c columns rows cells = (
  (λ h.
      let first = and_parts a (b && c) h in
      let rest = and_parts b c first.1 in
      record {
        columns = λ q. get_at_number cs q ∙ none_of_nothing eqb cs (columns.0 first.0) q;
        rows = λ q. get_at_number rs q ∙ none_of_nothing eqb rs (rows.0 rest.0) q;
        cells = λ q. get_at_position ks q ∙ none_of_nothing position_eq ks (cells.0 rest.1) q;
      }),
  (λ nothing.
      and_from _ _ (columns.1 (no_entries eqb nat_eq_equiv cs (λ q. sym (get_at_number cs q) ∙ nothing.columns q)))
      (and_from _ _ (rows.1 (no_entries eqb nat_eq_equiv rs (λ q. sym (get_at_number rs q) ∙ nothing.rows q)))
      (cells.1 (no_entries position_eq position_equiv ks (λ q. sym (get_at_position ks q) ∙ nothing.cells q))))),
)

-- the first option that is set gives the value
pub unwrap_or_set : {T : Type 0} {v : T} {o : Option T} (d : T) → Some v ≡ o → v ≡ unwrap_or o d
unwrap_or_set d e = ap (λ o. unwrap_or o d) e

pub unwrap_or_unset : {T : Type 0} {v : T} {o : Option T} {d : T} → None ≡ o → v ≡ d → v ≡ unwrap_or o d
unwrap_or_unset {d = d} e is = is ∙ ap (λ o. unwrap_or o d) e

-- what is stored is what the calls decide
module _ {T : Type 0} (given : T) (calls : List (MapCall T)) (stored : Stored T) (told : HasMapHistory given calls stored) (p : Position) where
  pub stored_effective : stored_value stored p ≡ effective_value given calls p
  stored_effective =
      let holds = search_of_history calls given stored told in
      λ i. unwrap_or (holds.cells p i) (unwrap_or (holds.columns p.col i) (unwrap_or (holds.rows p.row i) (holds.global i)))

  pub stored-IsEffective : {v : T} → v ≡ stored_value stored p → IsEffective calls given p v
  stored-IsEffective is = subst (IsEffective calls given p) (sym (is ∙ stored_effective)) (effective_value-IsEffective calls given p)
