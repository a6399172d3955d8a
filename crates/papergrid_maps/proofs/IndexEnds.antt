-- The spans of an index all end within a number where its entries do.
use Rattle.std.proofs.Common.{◌≡◌, ℕ, ◌+◌, ◌≤◌, true, leb, Some, sym, ap, ◌∙◌, arith}
use Rattle.std.specs.Prelude.{◌↔◌}
use Rattle.std.specs.BTreeMap.{BTreeMap, IsOrdered, get as tree_get}
use Rattle.std.specs.List.{Contains, list_all}
use Rattle.std.proofs.lemmas.Bool.{le-leb, leb-true}
use Rattle.std.proofs.lemmas.List.Elements.{All-contains, All-weaker}
use Rattle.std.proofs.lemmas.List.Sums.{AllPass-from_list_all, list_all-from_AllPass}
use Rattle.std.proofs.lemmas.Map.Views.{All-found, btree_map_get_iff}
use Rattle.papergrid_values.specs.Positions.{along}
use Rattle.papergrid_values.specs.declared.direction.Direction.{Direction}
use Rattle.papergrid_values.specs.declared.position.Position.{Position}
use Rattle.papergrid_values.specs.MapKeys.{position_cmp}
use Rattle.papergrid_values.proofs.KeyLemmas.{exact_positions, position_total}
use Rattle.papergrid_maps.specs.Spans.{EndWithin}
use Rattle.papergrid_maps.specs.ForProofs.SpanIndex.{stored_along, key_of}
use Rattle.papergrid_maps.proofs.IndexKeys.{stored_at, key_key}

pub entries_end_within : (d : Direction) (m : BTreeMap Position ℕ) (count : ℕ) → IsOrdered position_cmp m →
    (list_all (λ e. leb (e.0.col + e.1) count) m.entries ≡ true) ↔ EndWithin d (stored_along d m.entries) count
entries_end_within d m count ordered = (
  (λ all p n stored.
      let key = key_of d p in
      let is : tree_get position_cmp m key ≡ Some n = sym (stored_at d m.entries p) ∙ stored in
      let found : Contains m.entries (key, n) = (btree_map_get_iff position_total exact_positions m ordered key n).0 is in
      leb-true _ _ (All-contains (λ e. leb (e.0.col + e.1) count ≡ true) m.entries (key, n) (AllPass-from_list_all _ m.entries all) found)),
  (λ ends. list_all-from_AllPass (λ e. leb (e.0.col + e.1) count) m.entries
      (All-weaker (λ e. tree_get position_cmp m e.0 ≡ Some e.1) (λ e. leb (e.0.col + e.1) count ≡ true)
      (λ e is.
      let within : along d (key_of d e.0) + e.1 ≤ count = ends (key_of d e.0) e.1 (stored_at d m.entries (key_of d e.0) ∙ ap (tree_get position_cmp m) (key_key d e.0) ∙ is) in
      le-leb _ _ (omega (arith, ap (λ (q : Position). q.col) (key_key d e.0), within)))
      m.entries (All-found position_total m ordered))),
)
