-- What a scan of a line finds is a span that reaches the position.
use Rattle.std.proofs.Common.{◌≡◌, ℕ, ◌+◌, ◌-◌, ◌<◌, true, ltb, Option, Some, None, refl, ap, subst, ◌∙◌, arith}
use Rattle.std.specs.Prelude.{◌↔◌, unwrap_or}
use Rattle.std.specs.BTreeMap.{BTreeMap, IsOrdered, get as tree_get}
use Rattle.std.specs.BTreeMap.Range.{entries_between}
use Rattle.std.specs.FinMap.{get}
use Rattle.std.specs.List.{list_any}
use Rattle.std.specs.declared.ops.Bound.TheVariants.{Included, Excluded}
use Rattle.std.proofs.lemmas.Bool.{ltb-true, lt-ltb}
use Rattle.papergrid_values.specs.Positions.{along}
use Rattle.papergrid_values.specs.declared.direction.Direction.{Direction}
use Rattle.papergrid_values.specs.declared.position.Position.{Position}
use Rattle.papergrid_values.specs.MapKeys.{position_cmp}
use Rattle.papergrid_maps.specs.ForProofs.SpanIndex.{IsReached, stored_along, key_of}
use Rattle.papergrid_maps.proofs.IndexKeys.{stored_at, key_key}
use Rattle.papergrid_maps.proofs.IndexRanges.{any_between, in_line, of_line}

-- the same, by keys
abbrev pub IsKeyReached : BTreeMap Position ℕ → Position → Type 0
IsKeyReached spans key =
    (start : Position) × (start.row ≡ key.row) × (start.col < key.col)
    × (key.col < start.col + unwrap_or (tree_get position_cmp spans start) 1)

-- a span that reaches further than its anchor is stored
pub stored_above_one : (o : Option ℕ) (a b : ℕ) → a < b → b < a + unwrap_or o 1 → (n : ℕ) × (o ≡ Some n)
stored_above_one None a b h k = absurd (omega arith)
stored_above_one (Some n) a b h k = (n, refl)

module _ (m : BTreeMap Position ℕ) where
  pub key_reached : (key : Position) → IsOrdered position_cmp m
      → (list_any (λ e. ltb (key.col - e.0.col) e.1) (entries_between position_cmp (Included (record { row = key.row; col = 0 })) (Excluded key) m.entries) ≡ true) ↔ IsKeyReached m key
  key_reached key ordered =
      let scan = any_between m (Included (record { row = key.row; col = 0 })) (Excluded key) (λ e. ltb (key.col - e.0.col) e.1) ordered in (
        λ h.
            let found = scan.0 h in
            let k = found.0 in
            let line = in_line key k found.3 in
            let left : k.col < key.col = line.1 in
            let reach : key.col - k.col < found.1 = ltb-true _ _ found.4 in
            let span : unwrap_or (tree_get position_cmp m k) 1 ≡ found.1 = ap (λ o. unwrap_or o 1) found.2 in
            (k, line.0, left, omega (arith, left, reach, span)),
        λ h.
            let k = h.0 in
            let left : k.col < key.col = h.2 in
            let stored = stored_above_one (tree_get position_cmp m k) k.col key.col h.2 h.3 in
            let reach : key.col < k.col + stored.0 = subst (λ o. key.col < k.col + unwrap_or o 1) stored.1 h.3 in
            scan.1 (k, stored.0, stored.1, of_line key k h.1 h.2, lt-ltb _ _ (omega (arith, left, reach))),
      )

  -- by positions
  pub index_reached : (d : Direction) (p : Position) → IsKeyReached m (key_of d p) ↔ IsReached (record { direction = d; spans = stored_along d m.entries }) p
  index_reached d p = (
    λ h.
        let k = h.0 in
        let position : along d (key_of d k) ≡ k.col = ap (λ q. q.col) (key_key d k) in
        let span : get (stored_along d m.entries) (key_of d k) ≡ tree_get position_cmp m k = stored_at d m.entries (key_of d k) ∙ ap (tree_get position_cmp m) (key_key d k) in
        (key_of d k, (ap (λ q. q.row) (key_key d k)) ∙ h.1, omega (arith, position, h.2), rw (span, position) h.3),
    λ h.
        (key_of d h.0, h.1, h.2, rw (← (stored_at d m.entries h.0)) h.3),
  )
