-- The keys of an index of spans, and what the spans of its entries are at a position.
use Rattle.std.proofs.Common.{◌≡◌, ℕ, cond, List, [], ◌∷◌, Option, Some, None, refl, sym, ap, ◌∙◌}
use Rattle.std.specs.Prelude.{◌==◌, map}
use Rattle.std.specs.BTreeMap.{is_at}
use Rattle.std.specs.Cmp.{eq_by_cmp_equiv}
use Rattle.std.specs.FinMap.{find, get, get-from_entries, get-insert, get-remove, insert, remove, same_map}
use Rattle.std.specs.Map.{lookup}
use Rattle.std.specs.Ordering.{eq_by_cmp}
use Rattle.std.proofs.Math.Bool.{and_comm}
use Rattle.papergrid_values.specs.declared.direction.Direction.{Direction}
use Rattle.papergrid_values.specs.declared.direction.Direction.TheVariants.{Columns, Rows}
use Rattle.papergrid_values.specs.declared.position.Position.{Position}
use Rattle.papergrid_values.specs.MapKeys.{position_cmp}
use Rattle.papergrid_values.proofs.KeyLemmas.{exact_positions, position_ties, position_total}
use Rattle.papergrid_maps.specs.ForProofs.SpanIndex.{stored_along, key_of}

-- the key of a key is the position
pub key_key : (d : Direction) (p : Position) → key_of d (key_of d p) ≡ p
key_key Columns p = refl
key_key Rows p = refl

-- keys are equal where the positions are
pub same_key : (d : Direction) (p q : Position) → eq_by_cmp position_cmp (key_of d p) (key_of d q) ≡ eq_by_cmp position_cmp p q
same_key Columns p q = refl
same_key Rows p q = sym (position_ties (key_of Rows p) (key_of Rows q)) ∙ and_comm (p.col == q.col) (p.row == q.row) ∙ position_ties p q

-- the entries at a position are those at its key
pub stored_at : (d : Direction) (es : List (Position × ℕ)) (p : Position) → get (stored_along d es) p ≡ lookup (is_at (position_cmp (key_of d p))) es
stored_at d es p = get-from_entries position_total (map (λ e. (key_of d e.0, e.1)) es) p ∙ at_key es
  where
    passes : (k : Position) → eq_by_cmp position_cmp p (key_of d k) ≡ eq_by_cmp position_cmp (key_of d p) k
    passes k = sym (same_key d p (key_of d k)) ∙ ap (eq_by_cmp position_cmp (key_of d p)) (key_key d k)

    at_key : (es : List (Position × ℕ)) → find position_cmp p (map (λ e. (key_of d e.0, e.1)) es) ≡ lookup (is_at (position_cmp (key_of d p))) es
    at_key [] = refl
    at_key (e ∷ es) = λ i. cond (passes e.0 i) (Some e.1) (at_key es i)

module _ (d : Direction) (es fs : List (Position × ℕ)) (p : Position) (w : Option ℕ)
    (changed : (q : Position) → lookup (is_at (position_cmp q)) fs ≡ cond (is_at (position_cmp (key_of d p)) q) w (lookup (is_at (position_cmp q)) es)) where
  -- a change at a key is one at its position
  changed_at : (q : Position) → get (stored_along d fs) q ≡ cond (eq_by_cmp position_cmp q p) w (get (stored_along d es) q)
  changed_at q =
      stored_at d fs q ∙ changed (key_of d q)
      ∙ (λ i. cond ((same_key d p q ∙ (eq_by_cmp_equiv position_total).symm p q) i) w (sym (stored_at d es q) i))

  pub stored_insert : (n : ℕ) → w ≡ Some n → stored_along d fs ≡ insert (stored_along d es) p n
  stored_insert n is = same_map position_total exact_positions _ _ (λ q.
      changed_at q ∙ ap (λ v. cond (eq_by_cmp position_cmp q p) v (get (stored_along d es) q)) is ∙ sym (get-insert position_total (stored_along d es) p n q))

  pub stored_remove : w ≡ None → stored_along d fs ≡ remove (stored_along d es) p
  stored_remove is = same_map position_total exact_positions _ _ (λ q.
      changed_at q ∙ ap (λ v. cond (eq_by_cmp position_cmp q p) v (get (stored_along d es) q)) is ∙ sym (get-remove position_total (stored_along d es) p q))
