-- The anchors of the entries of an index, and what those of two indices come to.
use Rattle.std.proofs.Common.{arith, ap, sym, subst, refl, ◌∙◌, ◌≡◌, ◌++◌, ℕ, zero, suc, ◌≤◌, List, [], ◌∷◌, Option, Some, None, map, slice_get, inl, inr}
use Rattle.std.specs.Prelude.{Bool, ◌⊎◌, ◌↔◌, All, IsPermutation, IsSome, unwrap_or}
use Rattle.std.specs.BTreeMap as tree
use Rattle.std.specs.BTreeMap.{BTreeMap}
use Rattle.std.specs.Cmp.{on_equiv}
use Rattle.std.specs.FinMap.{FinMap, get}
use Rattle.std.specs.List.{AllByRecursion, Contains, dedup}
use Rattle.std.specs.List.Sorted.{IsSortedByKey, IsStrictlySortedBy}
use Rattle.std.specs.Map.{keys_of}
use Rattle.std.specs.declared.cmp.Ordering.TheVariants.{Less}
use Rattle.std.proofs.lemmas.Bool.{cases_lt, false≢true}
use Rattle.std.proofs.lemmas.Cmp.{on_total}
use Rattle.std.proofs.lemmas.List.{get_or-map, length-map}
use Rattle.std.proofs.lemmas.List.Elements.{All-append, All-contains, All-map, All-weaker, Contains-append_cases, Contains-append_left, Contains-append_right}
use Rattle.std.proofs.lemmas.List.Filters.{All-dedup}
use Rattle.std.proofs.lemmas.List.Kept.{Any-dedup, Contains-from_dedup, IsStrictlySortedBy-dedup}
use Rattle.std.proofs.lemmas.List.Sorted.{All-permutation, Contains-permutation, IsPermutation-sym}
use Rattle.std.proofs.lemmas.Map.Views.{All-found, btree_map_get_iff}
use Rattle.std.proofs.lemmas.Option.{none-some, same_Some, slice_get-get_or, slice_get_within}
use Rattle.papergrid_values.specs.Positions.{IsBefore}
use Rattle.papergrid_values.specs.declared.direction.Direction.{Direction}
use Rattle.papergrid_values.specs.declared.direction.Direction.TheVariants.{Columns, Rows}
use Rattle.papergrid_values.specs.declared.position.Position.{Position}
use Rattle.papergrid_values.specs.MapKeys.{position_cmp, position_eq}
use Rattle.papergrid_values.proofs.KeyLemmas.{exact_position_eq, exact_positions, position_equiv, position_ties, position_total}
use Rattle.papergrid_maps.specs.Anchors.{AreAnchors, HasAnchor, IsSorted}
use Rattle.papergrid_maps.specs.Spans.{HasSpan, span_along, span_at}
use Rattle.papergrid_maps.specs.ForProofs.SpanIndex.{AreAt, DirectedSpans, IsRising, anchor_along, anchor_at, entry_anchor, stored_along, key_of}
use Rattle.papergrid_maps.specs.declared.anchors.Anchor.{Anchor}
use Rattle.papergrid_maps.proofs.IndexKeys.{stored_at, key_key}

-- ---- order

less-before : (p q : Position) → position_cmp p q ≡ Less → IsBefore p q
less-before p q h = grind (arith, cases_lt)

at-index : {X : Type 0} (P : X → Type 0) (xs : List X) (k : ℕ) (x : X) → AllByRecursion P xs → slice_get xs k ≡ Some x → P x
at-index P [] k x all is = absurd (none-some x is)
at-index P (y ∷ xs) zero x all is = subst P (same_Some y x is) all.0
at-index P (y ∷ xs) (suc k) x all is = at-index P xs k x all.1 is

-- what rises is in order
pub sorted-from_rising : (anchors : List Anchor) → IsRising anchors → IsSorted anchors
unfolding IsStrictlySortedBy
sorted-from_rising [] rising j k a b h e f = absurd (none-some a e)
sorted-from_rising (x ∷ xs) rising j zero a b h e f = absurd (omega (arith, h))
sorted-from_rising (x ∷ xs) rising zero (suc k) a b h e f = grind (arith, less-before, same_Some, at-index)
sorted-from_rising (x ∷ xs) rising (suc j) (suc k) a b h e f = sorted-from_rising xs rising.1 j k a b (omega (arith, h)) e f

abbrev pub same_position : Anchor → Anchor → Bool
same_position a b = position_eq a.position b.position

-- sorted by position, and each position once
pub rising-dedup : (anchors : List Anchor) → IsSortedByKey (λ a. a.position) position_cmp anchors → IsRising (dedup same_position anchors)
rising-dedup anchors sorted =
    IsStrictlySortedBy-dedup (on_total (λ (a : Anchor). a.position) position_total) (λ a b. position_ties a.position b.position) anchors sorted

-- those of column spans stand in order as they come
pub rising-entries : (others : FinMap position_cmp ℕ) (es : List (Position × ℕ)) → IsStrictlySortedBy position_cmp (keys_of es) → IsRising (map (entry_anchor Columns others) es)
unfolding IsStrictlySortedBy
rising-entries others [] sorted = tt
rising-entries others (e ∷ es) sorted = (after es sorted.0, rising-entries others es sorted.1)
  where
    after : (es : List (Position × ℕ)) → AllByRecursion (λ q. position_cmp e.0 q ≡ Less) (keys_of es) →
        AllByRecursion (λ a. position_cmp e.0 a.position ≡ Less) (map (entry_anchor Columns others) es)
    after [] all = tt
    after (d ∷ ds) all = (all.0, after ds all.1)

-- ---- the anchors at the positions that are stored

module _ (at : Position → Anchor) where
  pub at-append : (H K : Position → Type 0) (xs ys : List Anchor) → AreAt at H xs → AreAt at K ys → AreAt at (λ p. H p ⊎ K p) (xs ++ ys)
  at-append H K xs ys one two = record {
    made = All-append (λ a. a ≡ at a.position) xs ys one.made two.made;
    has = λ p. (
      (λ found. elim (Contains-append_cases xs ys (at p) found) [
        | inl first ↦ inl ((one.has p).0 first)
        | inr second ↦ inr ((two.has p).0 second)
      ]),
      (λ stored. elim stored [
        | inl first ↦ Contains-append_left xs ys (at p) ((one.has p).1 first)
        | inr second ↦ Contains-append_right xs ys (at p) ((two.has p).1 second)
      ]),
    );
  }

  pub at-permutation : (H : Position → Type 0) (xs ys : List Anchor) → IsPermutation xs ys → AreAt at H xs → AreAt at H ys
  at-permutation H xs ys moved are = record {
    made = All-permutation (λ a. a ≡ at a.position) xs ys moved are.made;
    has = λ p. (
      (λ found. (are.has p).0 (Contains-permutation ys xs (at p) (IsPermutation-sym xs ys moved) found)),
      (λ stored. Contains-permutation xs ys (at p) moved ((are.has p).1 stored)),
    );
  }

  pub at-dedup : (H : Position → Type 0) (xs : List Anchor) → ((p : Position) → (at p).position ≡ p) → AreAt at H xs → AreAt at H (dedup same_position xs)
  at-dedup H xs there are =
      let made : All (λ a. a ≡ at a.position) (dedup same_position xs) = All-dedup same_position (λ a. a ≡ at a.position) xs are.made in
      record {
        made = made;
        has = λ p. (
          (λ found. (are.has p).0 (Contains-from_dedup same_position xs (at p) found)),
          (λ stored.
              let kept = Any-dedup (on_equiv (λ (a : Anchor). a.position) position_equiv) xs (at p) ((are.has p).1 stored) in
              let at_p : p ≡ kept.1.position = sym (there p) ∙ exact_position_eq (at p).position kept.1.position kept.4 in
              let found : Contains (dedup same_position xs) kept.1 = (kept.0, kept.2, kept.3) in
              let is : kept.1 ≡ at p = All-contains (λ a. a ≡ at a.position) (dedup same_position xs) kept.1 made found ∙ ap at (sym at_p) in
              subst (Contains (dedup same_position xs)) is found),
        );
      }

  pub at-wider : (H K : Position → Type 0) (xs : List Anchor) → ((p : Position) → H p ↔ K p) → AreAt at H xs → AreAt at K xs
  at-wider H K xs same are = grind arith

stored-above-one : (o : Option ℕ) → 2 ≤ unwrap_or o 1 → IsSome o
stored-above-one None h = absurd (omega (arith, h))
stored-above-one (Some n) h = refl

contains-got : {X : Type 0} (xs : List X) (k : ℕ) (x : X) → slice_get xs k ≡ Some x → Contains xs x
contains-got xs k x is =
    let within = slice_get_within xs k x is in
    (k, within, same_Some _ x (sym (slice_get-get_or xs k x within) ∙ is))

-- the anchors at all positions where a span is stored
module _ (columns rows : FinMap position_cmp ℕ) (anchors : List Anchor)
    (are : AreAt (anchor_at (get columns) (get rows)) (λ p. IsSome (get columns p) ⊎ IsSome (get rows p)) anchors) where
  made-at : (k : ℕ) (a : Anchor) → slice_get anchors k ≡ Some a → a ≡ anchor_at (get columns) (get rows) a.position
  made-at k a h = All-contains (λ b. b ≡ anchor_at (get columns) (get rows) b.position) anchors a are.made (contains-got anchors k a h)

  has-anchor : (p : Position) → IsSome (get columns p) ⊎ IsSome (get rows p) → HasAnchor anchors p
  has-anchor p stored = grind (arith, slice_get-get_or)

  pub anchors-of : AreAnchors (span_along (record { columns = columns; rows = rows })) anchors
  anchors-of = grind (arith, made-at, has-anchor, stored-above-one)

  pub anchors-stored : (p : Position) → HasAnchor anchors p → IsSome (get columns p) ⊎ IsSome (get rows p)
  anchors-stored p has = grind (arith, made-at, contains-got)

-- ---- the entries of an index

-- the image of an element
image : {X Y : Type 0} (f : X → Y) (xs : List X) (x : X) → Contains xs x → Contains (map f xs) (f x)
image f xs x found = grind (arith, length-map, get_or-map)

along-position : (d : Direction) (own others : Position → Option ℕ) (p : Position) → (anchor_along d own others p).position ≡ p
along-position Columns own others p = refl
along-position Rows own others p = refl

module _ (d : Direction) (m : BTreeMap Position ℕ) (ordered : tree.IsOrdered position_cmp m) (others : FinMap position_cmp ℕ) where
  abbrev own : FinMap position_cmp ℕ
  own = stored_along d m.entries

  abbrev at : Position → Anchor
  at = anchor_along d (get own) (get others)

  -- what is stored at the position of an entry
  stored_there : (e : Position × ℕ) → tree.get position_cmp m e.0 ≡ Some e.1 → get own (key_of d e.0) ≡ Some e.1
  stored_there e is = stored_at d m.entries (key_of d e.0) ∙ ap (tree.get position_cmp m) (key_key d e.0) ∙ is

  entry-is : (e : Position × ℕ) → tree.get position_cmp m e.0 ≡ Some e.1 → entry_anchor d others e ≡ at (key_of d e.0)
  entry-is e is = by_stored d (get own) (stored_there e is)
    where
      by_stored : (c : Direction) (f : Position → Option ℕ) → f (key_of c e.0) ≡ Some e.1 → entry_anchor c others e ≡ anchor_along c f (get others) (key_of c e.0)
      by_stored Columns f h = λ i. record { position = e.0; rows = span_at others e.0; cols = unwrap_or (sym h i) 1 }
      by_stored Rows f h = λ i. record { position = key_of Rows e.0; rows = unwrap_or (sym h i) 1; cols = span_at others (key_of Rows e.0) }

  pub entries-at : AreAt at (λ p. IsSome (get own p)) (map (entry_anchor d others) m.entries)
  entries-at = record {
    made = All-map (λ a. a ≡ at a.position) (entry_anchor d others) m.entries
        (All-weaker (λ e. tree.get position_cmp m e.0 ≡ Some e.1) (λ e. entry_anchor d others e ≡ at (key_of d e.0)) entry-is m.entries (All-found position_total m ordered));
    has = λ p. ((λ found. subst (λ q. IsSome (get own q)) (along-position d (get own) (get others) p) (All-contains (λ a. IsSome (get own a.position)) _ (at p) all_stored found)), holds p);
  }
    where
      all_stored : All (λ a. IsSome (get own a.position)) (map (entry_anchor d others) m.entries)
      all_stored = All-map (λ a. IsSome (get own a.position)) (entry_anchor d others) m.entries
          (All-weaker (λ e. tree.get position_cmp m e.0 ≡ Some e.1) (λ e. IsSome (get own (key_of d e.0)))
          (λ e is. subst (λ o. IsSome o) (sym (stored_there e is)) refl) m.entries (All-found position_total m ordered))

      found_at : (o : Option ℕ) → IsSome o → (n : ℕ) × (o ≡ Some n)
      found_at None stored = absurd (false≢true stored)
      found_at (Some n) stored = (n, refl)

      holds : (p : Position) → IsSome (get own p) → Contains (map (entry_anchor d others) m.entries) (at p)
      holds p stored =
          let key = key_of d p in
          let one = found_at (get own p) stored in
          let is : tree.get position_cmp m key ≡ Some one.0 = sym (stored_at d m.entries p) ∙ one.1 in
          let entry : Contains m.entries (key, one.0) = (btree_map_get_iff position_total exact_positions m ordered key one.0).0 is in
          subst (Contains (map (entry_anchor d others) m.entries)) (entry-is (key, one.0) is ∙ ap at (key_key d p)) (image (entry_anchor d others) m.entries (key, one.0) entry)

-- ---- the anchors of both directions

module _ (columns rows : DirectedSpans) (by_columns : columns.direction ≡ Columns) where
  abbrev IsStored : Position → Type 0
  IsStored p = IsSome (get columns.spans p) ⊎ IsSome (get rows.spans p)

  column_anchors : (xs : List Anchor) → AreAt (anchor_along columns.direction (get columns.spans) (get rows.spans)) (λ p. IsSome (get columns.spans p)) xs →
      AreAt (anchor_at (get columns.spans) (get rows.spans)) (λ p. IsSome (get columns.spans p)) xs
  column_anchors xs are = subst (λ d. AreAt (anchor_along d (get columns.spans) (get rows.spans)) (λ p. IsSome (get columns.spans p)) xs) by_columns are

  -- where no row span is stored
  pub alone-at : (xs : List Anchor) → AreAt (anchor_along columns.direction (get columns.spans) (get rows.spans)) (λ p. IsSome (get columns.spans p)) xs →
      (HasSpan rows.spans → ⊥) → AreAt (anchor_at (get columns.spans) (get rows.spans)) IsStored xs
  alone-at xs are none = grind (arith, at-wider, column_anchors)

  pub joined-at : (xs ys sorted : List Anchor) → rows.direction ≡ Rows →
      AreAt (anchor_along columns.direction (get columns.spans) (get rows.spans)) (λ p. IsSome (get columns.spans p)) xs →
      AreAt (anchor_along rows.direction (get rows.spans) (get columns.spans)) (λ p. IsSome (get rows.spans p)) ys →
      IsPermutation (xs ++ ys) sorted → AreAt (anchor_at (get columns.spans) (get rows.spans)) IsStored (dedup same_position sorted)
  joined-at xs ys sorted by_rows first second moved =
      let at = anchor_at (get columns.spans) (get rows.spans) in
      let row_anchors : AreAt at (λ p. IsSome (get rows.spans p)) ys =
      subst (λ d. AreAt (anchor_along d (get rows.spans) (get columns.spans)) (λ p. IsSome (get rows.spans p)) ys) by_rows second in
      at-dedup at IsStored sorted (λ p. refl) (at-permutation at IsStored (xs ++ ys) sorted moved (at-append at _ _ xs ys (column_anchors xs first) row_anchors))
