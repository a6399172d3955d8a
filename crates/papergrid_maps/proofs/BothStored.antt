-- The anchors that both directions hold, after a change of one direction, and what their rectangles reach.
use Rattle.std.proofs.Common.{◌≡◌, ℕ, ◌+◌, ◌-◌, ◌<◌, true, false, cond, ◌&&◌, ltb, [], Option, Some, None, refl, sym, ap, ◌∙◌, arith}
use Rattle.std.specs.Prelude.{◌↔◌, unwrap_or}
use Rattle.std.specs.BTreeMap.{BTreeMap, IsOrdered, get as tree_get, is_at}
use Rattle.std.specs.BTreeMap.Range.{entries_between}
use Rattle.std.specs.Cmp.{eq_by_cmp_equiv}
use Rattle.std.specs.FinMap.{FinMap, empty, get, get-empty, get-insert, get-remove, insert, remove, same_map}
use Rattle.std.specs.Map.{lookup}
use Rattle.std.specs.List.{list_any}
use Rattle.std.specs.Ordering.{eq_by_cmp}
use Rattle.std.specs.declared.ops.Bound.TheVariants.{Excluded, Unbounded}
use Rattle.std.proofs.lemmas.Bool.{and_from, and_parts, ltb-true, lt-ltb}
use Rattle.papergrid_values.specs.declared.direction.Direction.{Direction}
use Rattle.papergrid_values.specs.declared.direction.Direction.TheVariants.{Columns}
use Rattle.papergrid_values.specs.declared.position.Position.{Position}
use Rattle.papergrid_values.specs.MapKeys.{position_cmp}
use Rattle.papergrid_values.proofs.EntryLemmas.{none_is_not_some}
use Rattle.papergrid_values.proofs.KeyLemmas.{exact_position_eq, exact_positions, position_ties, position_total}
use Rattle.papergrid_maps.specs.ForProofs.SpanIndex.{DirectedSpans, HoldsBoth, extent_stored, extent_of}
use Rattle.papergrid_maps.specs.Spans.{IsCoveredByBoth, Spans, span_along}
use Rattle.papergrid_maps.specs.declared.span_index.Extent.{Extent}
use Rattle.papergrid_maps.proofs.IndexRanges.{any_between, is_above, of_above}
use Rattle.papergrid_maps.proofs.IndexReached.{stored_above_one}

-- a rectangle of these begins above and left of the position and reaches it
abbrev pub IsReachedByBoth : BTreeMap Position Extent → Position → Type 0
IsReachedByBoth both p =
    (anchor : Position) × (extent : Extent) × (tree_get position_cmp both anchor ≡ Some extent)
    × (anchor.row < p.row) × (p.row < anchor.row + extent.rows) × (anchor.col < p.col) × (p.col < anchor.col + extent.columns)

same_some : {X : Type 0} (x y : X) → ◌≡◌ {A = Option X} (Some x) (Some y) → x ≡ y
same_some x y e = ap (λ o. unwrap_or o x) e

pub no_other : (d : Direction) (own : Option ℕ) → extent_stored d own None ≡ None
no_other d None = refl
no_other d (Some n) = refl

no_own : (d : Direction) (other : Option ℕ) → extent_stored d None other ≡ None
no_own d None = refl
no_own d (Some n) = refl

-- where one direction holds no span, no anchor has both
pub none_both : (index : DirectedSpans) (others : FinMap position_cmp ℕ) (both : BTreeMap Position Extent) → index.spans ≡ empty → both.entries ≡ [] → HoldsBoth index others both
none_both index others both none nothing p =
    ap (lookup (is_at (position_cmp p))) nothing ∙ sym (no_own index.direction (get others p))
    ∙ ap (λ o. extent_stored index.direction o (get others p)) (sym (ap (λ m. get m p) none ∙ get-empty position_cmp p))

pub none_beside : (index : DirectedSpans) (others : FinMap position_cmp ℕ) (both : BTreeMap Position Extent) → others ≡ empty → both.entries ≡ [] → HoldsBoth index others both
none_beside index others both none nothing p =
    ap (lookup (is_at (position_cmp p))) nothing ∙ sym (no_other index.direction (get index.spans p))
    ∙ ap (extent_stored index.direction (get index.spans p)) (sym (ap (λ m. get m p) none ∙ get-empty position_cmp p))

-- where the other span is stored and both are not, the own one is not
pub not_stored : (d : Direction) (own : Option ℕ) (other : ℕ) → ◌≡◌ {A = Option Extent} None (extent_stored d own (Some other)) → own ≡ None
not_stored d None other h = refl
not_stored d (Some n) other h = absurd (none_is_not_some h)

-- ---- one position changes

module _ (d : Direction) (own own' others : Position → Option ℕ) (both both' : Position → Option Extent) (position : Position)
    (stored : (p : Position) → both p ≡ extent_stored d (own p) (others p)) where
  changes : (w : Option ℕ) (e : Option Extent) → ((p : Position) → own' p ≡ cond (eq_by_cmp position_cmp p position) w (own p)) → ((p : Position) → both' p ≡ cond (eq_by_cmp position_cmp position p) e (both p))
      → e ≡ extent_stored d w (others position) → (p : Position) → both' p ≡ extent_stored d (own' p) (others p)
  changes w e own_is both_is here p =
      both_is p ∙ ap (λ b. cond b e (both p)) ((eq_by_cmp_equiv position_total).symm position p)
      ∙ elim (eq_by_cmp position_cmp p position) as (λ b. eq_by_cmp position_cmp p position ≡ b → cond b e (both p) ≡ extent_stored d (cond b w (own p)) (others p)) [
        | true ↦ λ same. here ∙ ap (λ q. extent_stored d w (others q)) (sym (exact_position_eq p position (position_ties p position ∙ same)))
        | false ↦ λ apart. stored p
      ] refl
      ∙ ap (λ o. extent_stored d o (others p)) (sym (own_is p))

  -- a span beside one of the other direction
  pub both_stored : (span other : ℕ) → ((p : Position) → own' p ≡ cond (eq_by_cmp position_cmp p position) (Some span) (own p))
      → ((p : Position) → both' p ≡ cond (eq_by_cmp position_cmp position p) (Some (extent_of d span other)) (both p)) → others position ≡ Some other
      → (p : Position) → both' p ≡ extent_stored d (own' p) (others p)
  both_stored span other own_is both_is beside = changes (Some span) (Some (extent_of d span other)) own_is both_is (ap (extent_stored d (Some span)) (sym beside))

  -- no span any more
  pub both_dropped : ((p : Position) → own' p ≡ cond (eq_by_cmp position_cmp p position) None (own p)) → ((p : Position) → both' p ≡ cond (eq_by_cmp position_cmp position p) None (both p))
      → (p : Position) → both' p ≡ extent_stored d (own' p) (others p)
  both_dropped own_is both_is = changes None None own_is both_is refl

  -- a span with none of the other direction
  pub alone_stored : (span : ℕ) → ((p : Position) → own' p ≡ cond (eq_by_cmp position_cmp p position) (Some span) (own p)) → ((p : Position) → both' p ≡ both p) → others position ≡ None
      → (p : Position) → both' p ≡ extent_stored d (own' p) (others p)
  alone_stored span own_is both_is alone = grind (arith, changes, exact_position_eq, position_ties, no_other)

-- what is stored anew and dropped again was not there
pub stored_and_dropped : (spans : FinMap position_cmp ℕ) (position : Position) (n : ℕ) → get spans position ≡ None → remove (insert spans position n) position ≡ spans
stored_and_dropped spans position n none = same_map position_total exact_positions _ _ (λ q.
    get-remove position_total (insert spans position n) position q ∙ ap (cond (eq_by_cmp position_cmp q position) None) (get-insert position_total spans position n q)
    ∙ elim (eq_by_cmp position_cmp q position) as (λ b. eq_by_cmp position_cmp q position ≡ b → cond b None (cond b (Some n) (get spans q)) ≡ get spans q) [
      | true ↦ λ same. sym none ∙ ap (get spans) (sym (exact_position_eq q position (position_ties q position ∙ same)))
      | false ↦ λ apart. refl
    ] refl)

-- ---- what the rectangles reach

-- both spans are stored where the rectangle is
parts : (own other : Option ℕ) (e : Extent) → extent_stored Columns own other ≡ Some e → (own ≡ Some e.columns) × (other ≡ Some e.rows)
parts None other e h = absurd (none_is_not_some h)
parts (Some n) None e h = absurd (none_is_not_some h)
parts (Some n) (Some m) e h = ((λ i. Some ((same_some (extent_of Columns n m) e h i).columns)), (λ i. Some ((same_some (extent_of Columns n m) e h i).rows)))

-- a scan of the rows above finds a rectangle that reaches the position
pub both_reached : (both : BTreeMap Position Extent) (p : Position) → IsOrdered position_cmp both
    → (list_any (λ e. ltb e.0.col p.col && (ltb (p.col - e.0.col) e.1.columns && ltb (p.row - e.0.row) e.1.rows))
    (entries_between position_cmp Unbounded (Excluded (record { row = p.row; col = 0 })) both.entries) ≡ true) ↔ IsReachedByBoth both p
both_reached both p ordered =
    let scan = any_between both Unbounded (Excluded (record { row = p.row; col = 0 })) (λ e. ltb e.0.col p.col && (ltb (p.col - e.0.col) e.1.columns && ltb (p.row - e.0.row) e.1.rows)) ordered in (
      λ h.
          let found = scan.0 h in
          let k = found.0 in
          let e = found.1 in
          let above : k.row < p.row = is_above p k found.3 in
          let left = and_parts (ltb k.col p.col) _ found.4 in
          let reach = and_parts (ltb (p.col - k.col) e.columns) _ left.1 in
          let before : k.col < p.col = ltb-true _ _ left.0 in
          let right : p.col - k.col < e.columns = ltb-true _ _ reach.0 in
          let down : p.row - k.row < e.rows = ltb-true _ _ reach.1 in
          (k, e, found.2, above, omega (arith, above, down), before, omega (arith, before, right)),
      λ h.
          let k = h.0 in
          let e = h.1 in
          let above : k.row < p.row = h.3 in
          let down : p.row < k.row + e.rows = h.4 in
          let before : k.col < p.col = h.5 in
          let right : p.col < k.col + e.columns = h.6 in
          let reach_right : p.col - k.col < e.columns = omega (arith, before, right) in
          let reach_down : p.row - k.row < e.rows = omega (arith, above, down) in
          scan.1 (k, e, h.2, of_above p k above, and_from _ _ (lt-ltb _ _ before) (and_from _ _ (lt-ltb _ _ reach_right) (lt-ltb _ _ reach_down))),
    )

-- in the words of rectangles
pub inside_reached : (index : DirectedSpans) (others : FinMap position_cmp ℕ) (both : BTreeMap Position Extent) → index.direction ≡ Columns → HoldsBoth index others both → (p : Position)
    → let spans : Spans = record { columns = index.spans; rows = others } in IsReachedByBoth both p ↔ IsCoveredByBoth (span_along spans) p
inside_reached index others both is holds p = grind (arith, parts, stored_above_one)
