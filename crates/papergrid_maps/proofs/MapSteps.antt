-- Each change of the three maps, as a step of what is stored.
use Rattle.std.proofs.Common.{◌≡◌, ℕ, Bool, true, false, cond, ◌&&◌, List, [], ◌∷◌, map, eqb, Some, None, refl, sym, ap, ◌∙◌, arith}
use Rattle.std.specs.Prelude.{◌||◌, not, filter}
use Rattle.std.specs.List.{list_any}
use Rattle.std.specs.Cmp.{nat_eq_equiv}
use Rattle.std.specs.Set.{is_member}
use Rattle.std.specs.Map.{lookup, keys_of}
use Rattle.std.proofs.lemmas.Bool.{and_parts, eqb-true}
use Rattle.std.proofs.lemmas.Map.Made.{is_some-lookup}
use Rattle.std.proofs.lemmas.Map.Entries.{lookup-filter-keys}
use Rattle.papergrid_values.specs.MapKeys.{position_eq}
use Rattle.papergrid_values.specs.declared.position.Position.{Position}
use Rattle.papergrid_values.specs.declared.entity.Entity.TheVariants.{Global, Column, Row, Cell}
use Rattle.papergrid_maps.specs.declared.entity_map.MapCall.{MapCall}
use Rattle.papergrid_maps.specs.declared.entity_map.MapCall.TheVariants.{Insert, Remove}
use Rattle.papergrid_values.proofs.EntryLemmas.{same_numbers, same_positions}
use Rattle.papergrid_values.proofs.KeyLemmas.{get_at_number, get_at_position}
use Rattle.papergrid_maps.proofs.StoredMapLemmas.{view_of}
use Rattle.papergrid_maps.proofs.MapHistory.{IsStep, cell_after, global_after, value_after}

abbrev at : ℕ → ℕ → Position
at r c = record { row = r; col = c }

distributed : (a b m : Bool) → ((a && b) || (b && m)) ≡ (b && (a || m))
distributed true true m = refl
distributed true false m = refl
distributed false true m = refl
distributed false false m = refl

distributed_left : (a b m : Bool) → ((b && a) || (b && m)) ≡ (b && (a || m))
distributed_left true true m = refl
distributed_left true false m = refl
distributed_left false true m = refl
distributed_left false false m = refl

-- the crossings of column c with rows, and of row r with columns
crossings_in_column : (c : ℕ) (p : Position) (rows : List ℕ) → is_member position_eq (map (λ r. at r c) rows) p ≡ (eqb c p.col && list_any (eqb p.row) rows)
crossings_in_column c p [] = elim (eqb c p.col) as (λ b. false ≡ (b && false)) [ true ↦ refl | false ↦ refl ]
crossings_in_column c p (r ∷ rows) =
    (λ i. (eqb p.row r && nat_eq_equiv.symm p.col c i) || crossings_in_column c p rows i) ∙ distributed (eqb p.row r) (eqb c p.col) (list_any (eqb p.row) rows)

crossings_in_row : (r : ℕ) (p : Position) (columns : List ℕ) → is_member position_eq (map (λ c. at r c) columns) p ≡ (eqb r p.row && list_any (eqb p.col) columns)
crossings_in_row r p [] = elim (eqb r p.row) as (λ b. false ≡ (b && false)) [ true ↦ refl | false ↦ refl ]
crossings_in_row r p (c ∷ columns) =
    (λ i. (nat_eq_equiv.symm p.row r i && eqb p.col c) || crossings_in_row r p columns i) ∙ distributed_left (eqb p.col c) (eqb r p.row) (list_any (eqb p.col) columns)

turned : {A : Type 0} (b : Bool) (x y : A) → cond (not b) x y ≡ cond b y x
turned true x y = refl
turned false x y = refl

module _ {T : Type 0} where
  -- a step of the entries is one of what they hold
  pub step_of_entries : (call : MapCall T) (g g' : T) (cs rs cs' rs' : List (ℕ × T)) (ks ks' : List (Position × T))
      → g' ≡ global_after call g
      → ((c : ℕ) → lookup (eqb c) cs' ≡ value_after call (Column c) (lookup (eqb c) cs))
      → ((r : ℕ) → lookup (eqb r) rs' ≡ value_after call (Row r) (lookup (eqb r) rs))
      → ((p : Position) → lookup (position_eq p) ks' ≡ cell_after call p (lookup (eqb p.col) cs) (lookup (eqb p.row) rs) (lookup (position_eq p) ks))
      → IsStep (view_of g cs rs ks) (view_of g' cs' rs' ks') call
  step_of_entries call g g' cs rs cs' rs' ks ks' global columns rows cells = grind (arith, get_at_number, value_after, get_at_position, cell_after)

  -- maps that answer alike hold the same
  pub same_view : (g : T) (cs rs cs' rs' : List (ℕ × T)) (ks ks' : List (Position × T))
      → ((c : ℕ) → lookup (eqb c) cs' ≡ lookup (eqb c) cs) → ((r : ℕ) → lookup (eqb r) rs' ≡ lookup (eqb r) rs)
      → ((p : Position) → lookup (position_eq p) ks' ≡ lookup (position_eq p) ks)
      → view_of g cs' rs' ks' ≡ view_of g cs rs ks
  same_view g cs rs cs' rs' ks ks' columns rows cells = grind (arith, same_numbers, same_positions)

  pub step_insert_column : (g v : T) (c : ℕ) (cs rs cs' : List (ℕ × T)) (ks ks' : List (Position × T))
      → ((q : ℕ) → lookup (eqb q) cs' ≡ cond (eqb c q) (Some v) (lookup (eqb q) cs))
      → ((p : Position) → lookup (position_eq p) ks' ≡ cond (is_member position_eq (map (λ r. at r c) (keys_of rs)) p) (Some v) (lookup (position_eq p) ks))
      → IsStep (view_of g cs rs ks) (view_of g cs' rs ks') (Insert (Column c) v)
  step_insert_column g v c cs rs cs' ks ks' columns cells =
      step_of_entries (Insert (Column c) v) g g cs rs cs' rs ks ks' refl columns (λ r. refl)
      (λ p. cells p ∙ ap (λ b. cond b (Some v) (lookup (position_eq p) ks)) (crossings_in_column c p (keys_of rs) ∙ ap (λ b. eqb c p.col && b) (sym (is_some-lookup (eqb p.row) rs))))

  pub step_insert_row : (g v : T) (r : ℕ) (cs rs rs' : List (ℕ × T)) (ks ks' : List (Position × T))
      → ((q : ℕ) → lookup (eqb q) rs' ≡ cond (eqb r q) (Some v) (lookup (eqb q) rs))
      → ((p : Position) → lookup (position_eq p) ks' ≡ cond (is_member position_eq (map (λ c. at r c) (keys_of cs)) p) (Some v) (lookup (position_eq p) ks))
      → IsStep (view_of g cs rs ks) (view_of g cs rs' ks') (Insert (Row r) v)
  step_insert_row g v r cs rs rs' ks ks' rows cells =
      step_of_entries (Insert (Row r) v) g g cs rs cs rs' ks ks' refl (λ c. refl) rows
      (λ p. cells p ∙ ap (λ b. cond b (Some v) (lookup (position_eq p) ks)) (crossings_in_row r p (keys_of cs) ∙ ap (λ b. eqb r p.row && b) (sym (is_some-lookup (eqb p.col) cs))))

  pub step_insert_cell : (g v : T) (i j : ℕ) (cs rs : List (ℕ × T)) (ks ks' : List (Position × T))
      → ((p : Position) → lookup (position_eq p) ks' ≡ cond (position_eq (at i j) p) (Some v) (lookup (position_eq p) ks))
      → IsStep (view_of g cs rs ks) (view_of g cs rs ks') (Insert (Cell i j) v)
  step_insert_cell g v i j cs rs ks ks' cells = step_of_entries (Insert (Cell i j) v) g g cs rs cs rs ks ks' refl (λ c. refl) (λ r. refl) cells

  pub step_insert_global : (g v : T) (cs rs : List (ℕ × T)) (ks : List (Position × T)) → IsStep (view_of g cs rs ks) (view_of v [] [] []) (Insert Global v)
  step_insert_global g v cs rs ks = step_of_entries (Insert Global v) g v cs rs [] [] ks [] refl (λ c. refl) (λ r. refl) (λ p. refl)

  pub step_remove_global : (g : T) (cs rs : List (ℕ × T)) (ks : List (Position × T)) → IsStep (view_of g cs rs ks) (view_of g [] [] []) (Remove Global)
  step_remove_global g cs rs ks = step_of_entries (Remove Global) g g cs rs [] [] ks [] refl (λ c. refl) (λ r. refl) (λ p. refl)

  laminar : (f : Position → ℕ) (n : ℕ) (p : Position) (ks : List (Position × T)) → ((k : Position) → position_eq p k ≡ true → f p ≡ f k)
      → lookup (position_eq p) (filter (λ e. not (eqb (f e.0) n)) ks) ≡ cond (eqb n (f p)) None (lookup (position_eq p) ks)
  laminar f n p ks alike =
      lookup-filter-keys (position_eq p) (λ k. not (eqb (f k) n)) (not (eqb n (f p))) (λ k h. ap (λ m. not (eqb m n)) (sym (alike k h)) ∙ ap not (nat_eq_equiv.symm (f p) n)) ks
      ∙ turned (eqb n (f p)) (lookup (position_eq p) ks) None

  pub step_remove_column : (g : T) (c : ℕ) (cs rs : List (ℕ × T)) (ks : List (Position × T))
      → IsStep (view_of g cs rs ks) (view_of g cs rs (filter (λ e. not (eqb e.0.col c)) ks)) (Remove (Column c))
  step_remove_column g c cs rs ks = step_of_entries (Remove (Column c)) g g cs rs cs rs ks _ refl (λ c. refl) (λ r. refl)
      (λ p. laminar (λ q. q.col) c p ks (λ k h. eqb-true p.col k.col (and_parts _ _ h).1))

  pub step_remove_row : (g : T) (r : ℕ) (cs rs : List (ℕ × T)) (ks : List (Position × T))
      → IsStep (view_of g cs rs ks) (view_of g cs rs (filter (λ e. not (eqb e.0.row r)) ks)) (Remove (Row r))
  step_remove_row g r cs rs ks = step_of_entries (Remove (Row r)) g g cs rs cs rs ks _ refl (λ c. refl) (λ r. refl)
      (λ p. laminar (λ q. q.row) r p ks (λ k h. eqb-true p.row k.row (and_parts _ _ h).0))

  pub step_remove_cell : (g : T) (i j : ℕ) (cs rs : List (ℕ × T)) (ks ks' : List (Position × T))
      → ((p : Position) → lookup (position_eq p) ks' ≡ cond (position_eq (at i j) p) None (lookup (position_eq p) ks))
      → IsStep (view_of g cs rs ks) (view_of g cs rs ks') (Remove (Cell i j))
  step_remove_cell g i j cs rs ks ks' cells = step_of_entries (Remove (Cell i j)) g g cs rs cs rs ks ks' refl (λ c. refl) (λ r. refl) cells
