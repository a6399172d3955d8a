-- The spans of an index by position, and when two indexes hold the same.
use Rattle.std.proofs.Common.{◌≡◌, ℕ, Bool, true, false, List, [], ◌∷◌, Option, Some, None, refl, sym, ap, subst, ◌∙◌}
use Rattle.std.specs.Prelude.{map, nat_eq}
use Rattle.std.specs.BTreeMap as tree
use Rattle.std.specs.BTreeMap.{BTreeMap}
use Rattle.std.specs.Cmp.{nat_eq_equiv, unsigned_Decides}
use Rattle.std.specs.FinMap.{get}
use Rattle.std.specs.HashMap as hash
use Rattle.std.specs.HashMap.{HashMap}
use Rattle.std.specs.List.{AllByRecursion, IsDistinct}
use Rattle.std.specs.Map.{keys_of}
use Rattle.std.specs.Option.{option_eq}
use Rattle.std.specs.Ordering.{eq_by_cmp}
use Rattle.std.specs.Cmp.Lexicographic.{pointwise}
use Rattle.std.proofs.Common.{◌&&◌}
use Rattle.std.proofs.lemmas.Bool.{eqb-true, false≢true}
use Rattle.std.proofs.lemmas.Map.Keys.{IsDistinct-from_sorted}
use Rattle.std.proofs.lemmas.Map.Lookups.{btree_map_eq-Decides, btree_map_from_get}
use Rattle.std.proofs.lemmas.Map.Made.{update_all_none}
use Rattle.papergrid_values.specs.declared.direction.Direction.{Direction}
use Rattle.papergrid_values.specs.declared.position.Position.{Position}
use Rattle.papergrid_values.specs.Equal.{positions_eq}
use Rattle.papergrid_values.specs.MapKeys.{position_cmp, position_eq}
use Rattle.papergrid_values.proofs.EqualLemmas.{positions_agree, positions_same}
use Rattle.papergrid_values.proofs.KeyLemmas.{exact_position_eq, exact_positions, get_at_position, position_equiv, position_ties, position_total}
use Rattle.papergrid_values.proofs.ResultLemmas.{same_answer}
use Rattle.papergrid_maps.specs.ForProofs.SpanIndex.{stored_along, key_of}
use Rattle.papergrid_maps.proofs.IndexKeys.{stored_at, key_key, same_key}

-- ---- by position

module _ (d : Direction) where
  abbrev at_position : Position × ℕ → Position × ℕ
  at_position e = (key_of d e.0, e.1)

  apart : (k : Position) (es : List (Position × ℕ)) → AllByRecursion (λ q. eq_by_cmp position_cmp k q ≡ false) (keys_of es) → AllByRecursion (λ q. position_eq (key_of d k) q ≡ false) (keys_of (map at_position es))
  apart k [] h = tt
  apart k (e ∷ es) h = (position_ties (key_of d k) (key_of d e.0) ∙ same_key d k e.0 ∙ h.0, apart k es h.1)

  distinct : (es : List (Position × ℕ)) → IsDistinct (eq_by_cmp position_cmp) (keys_of es) → IsDistinct position_eq (keys_of (map at_position es))
  unfolding IsDistinct
  distinct [] h = tt
  distinct (e ∷ es) h = (apart e.0 es h.0, distinct es h.1)

  pub by_position : {S : Type 0} (m : BTreeMap Position ℕ) → tree.IsOrdered position_cmp m → (n : HashMap Position ℕ S) → hash.IsFromIterResult position_eq (map at_position m.entries) n
      → (p : Position) → hash.get position_eq n p ≡ get (stored_along d m.entries) p
  by_position m ordered n made p =
      made.0 p ∙ update_all_none position_equiv position_eq (λ x y. refl) (map at_position m.entries) p (distinct m.entries (IsDistinct-from_sorted position_cmp _ ordered))
      ∙ sym (get_at_position (map at_position m.entries) p)

-- ---- equality

same_option : (a b : Option ℕ) → option_eq nat_eq a b ≡ true → a ≡ b
same_option None None h = refl
same_option None (Some n) h = absurd (false≢true h)
same_option (Some m) None h = absurd (false≢true h)
same_option (Some m) (Some n) h = ap (λ k. Some k) (eqb-true m n h)

pub holds_same : (d : Direction) (m n : BTreeMap Position ℕ) → tree.IsOrdered position_cmp m → tree.IsOrdered position_cmp n → (r : Bool)
    → r ≡ pointwise (λ (p q : Position × ℕ). position_eq p.0 q.0 && nat_eq p.1 q.1) m.entries n.entries
    → r ≡ positions_eq nat_eq (stored_along d m.entries) (stored_along d n.entries)
holds_same d m n s t r is =
    let decides = btree_map_eq-Decides (λ a b. (exact_position_eq a b, λ e. subst (λ q. position_eq a q ≡ true) e (position_equiv.refl a))) unsigned_Decides m n r is in
    same_answer r _ decides (
      (λ h. btree_map_from_get position_total m n s t (λ q. at_key q m n (same_option _ _ ((positions_agree nat_eq (stored_along d m.entries) (stored_along d n.entries)).0 h (key_of d q)))) exact_positions),
      (λ same. subst (λ es. positions_eq nat_eq (stored_along d m.entries) (stored_along d es) ≡ true) same (positions_same nat_eq nat_eq_equiv.refl (stored_along d m.entries))),
    )
  where
    found : (q : Position) (m : BTreeMap Position ℕ) → get (stored_along d m.entries) (key_of d q) ≡ tree.get position_cmp m q
    found q m = stored_at d m.entries (key_of d q) ∙ ap (tree.get position_cmp m) (key_key d q)

    at_key : (q : Position) (m n : BTreeMap Position ℕ) → get (stored_along d m.entries) (key_of d q) ≡ get (stored_along d n.entries) (key_of d q) → tree.get position_cmp m q ≡ tree.get position_cmp n q
    at_key q m n e = sym (found q m) ∙ e ∙ found q n
