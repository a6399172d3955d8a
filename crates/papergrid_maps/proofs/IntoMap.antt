-- The entries of three maps, gathered in one.
use Rattle.std.proofs.Common.{◌≡◌, ℕ, Bool, false, cond, List, [], ◌∷◌, map, eqb, Option, Some, None, refl, sym, ap, subst, ◌∙◌, arith}
use Rattle.std.specs.Option.{option_or}
use Rattle.std.specs.List.{IsDistinct}
use Rattle.std.specs.Cmp.{IsEquivalence, nat_eq_equiv}
use Rattle.std.specs.Map.{lookup, keys_of, update, update_all}
use Rattle.std.proofs.lemmas.Map.Made.{update_all_distinct}
use Rattle.papergrid_values.specs.contracts.entity.EntityPartialEq.TheImpl.{eq-value}
use Rattle.papergrid_values.specs.declared.entity.Entity.{Entity}
use Rattle.papergrid_values.specs.declared.entity.Entity.TheVariants.{Global, Column, Row, Cell}
use Rattle.papergrid_values.specs.declared.position.Position.{Position}
use Rattle.papergrid_values.specs.MapKeys.{position_eq}
use Rattle.papergrid_maps.specs.Keys.{entity_eq}
use Rattle.papergrid_maps.specs.StoredMap.{held_for}
use Rattle.papergrid_values.proofs.KeyLemmas.{get_at_number, get_at_position, position_equiv}
use Rattle.papergrid_maps.proofs.StoredMapLemmas.{view_of}

-- the derived comparison of entities
same_entity : (x y : Entity) → eq-value.it x y ≡ entity_eq x y
same_entity Global Global = refl
same_entity Global (Column j) = refl
same_entity Global (Row j) = refl
same_entity Global (Cell k l) = refl
same_entity (Column i) Global = refl
same_entity (Column i) (Column j) = refl
same_entity (Column i) (Row j) = refl
same_entity (Column i) (Cell k l) = refl
same_entity (Row i) Global = refl
same_entity (Row i) (Column j) = refl
same_entity (Row i) (Row j) = refl
same_entity (Row i) (Cell k l) = refl
same_entity (Cell i j) Global = refl
same_entity (Cell i j) (Column k) = refl
same_entity (Cell i j) (Row k) = refl
same_entity (Cell i j) (Cell k l) = refl

entity_eq_is : eq-value.it ≡ entity_eq
entity_eq_is = λ i x y. same_entity x y i

-- what a map has after a put, by the plain comparison
pub put_told : {T : Type 0} (es fs : List (Entity × T)) (e : Entity) (v : Option T)
    → ((q : Entity) → lookup (eq-value.it q) fs ≡ cond (eq-value.it e q) v (lookup (eq-value.it q) es))
    → (q : Entity) → lookup (entity_eq q) fs ≡ cond (entity_eq e q) v (lookup (entity_eq q) es)
put_told es fs e v put =
    subst (λ (eq : Entity → Entity → Bool). (q : Entity) → lookup (eq q) fs ≡ cond (eq e q) v (lookup (eq q) es)) entity_eq_is put

abbrev pub cell_of : Position → Entity
cell_of p = Cell p.row p.col

-- the entries, each for the entity of its key
abbrev entries_of : {K T : Type 0} → (K → Entity) → List (K × T) → List (Entity × T)
entries_of of es = map (λ e. (of e.0, e.1)) es

module _ {K T : Type 0} where
  -- whatever entity a key is put for, putting what is left would make of the map now what putting all makes of that before
  pub record Puts (post : K → Entity → Type 0) (left all : List (K × T)) (now before : Entity → Option T) : Type 0 where
    pub each : (of : K → Entity) → ((k : K) (e : Entity) → post k e → e ≡ of k)
        → (q : Entity) → update_all entity_eq now (entries_of of left) q ≡ update_all entity_eq before (entries_of of all) q

  -- one more is put
  pub puts_more : {post : K → Entity → Type 0} {left rest all : List (K × T)} {now next before : Entity → Option T} (k : K) (v : T) (e : Entity)
      → left ≡ (k, v) ∷ rest → post k e → ((q : Entity) → next q ≡ cond (entity_eq e q) (Some v) (now q))
      → Puts post left all now before → Puts post rest all next before
  puts_more {rest = rest} {now = now} k v e is answered put puts = record {
    each = λ of exact q.
        ap (λ f. update_all entity_eq f (entries_of of rest) q)
        (λ i q. (put q ∙ ap (λ j. cond (entity_eq j q) (Some v) (now q)) (exact k e answered)) i)
        ∙ ap (λ es. update_all entity_eq now (entries_of of es) q) (sym is) ∙ puts.each of exact q;
  }

module _ {T : Type 0} where
  -- `new` has the entries, each for the entity of its key, over what `old` has
  pub record Adds {K : Type 0} (h : K → Entity) (es : List (K × T)) (old new : Entity → Option T) : Type 0 where
    pub each : (q : Entity) → new q ≡ update_all entity_eq old (entries_of h es) q

  -- entries of one kind change nothing for an entity of another
  unchanged : {K : Type 0} (h : K → Entity) (q : Entity) → ((k : K) → entity_eq (h k) q ≡ false) → (f : Entity → Option T) (es : List (K × T))
      → update_all entity_eq f (entries_of h es) q ≡ f q
  unchanged h q apart f [] = refl
  unchanged h q apart f (e ∷ es) = grind (arith, unchanged h q apart (update entity_eq f (h e.0) (Some e.1)) es)

  elsewhere : {K : Type 0} (h : K → Entity) (q : Entity) → ((k : K) → entity_eq (h k) q ≡ false) → {es : List (K × T)} {old new : Entity → Option T}
      → Adds h es old new → new q ≡ old q
  elsewhere h q apart {es = es} {old = old} adds = adds.each q ∙ unchanged h q apart old es

  module _ {K : Type 0} (h : K → Entity) (eq : K → K → Bool) (same : (j k : K) → entity_eq (h j) (h k) ≡ eq j k) where
    at_key : (f : Entity → Option T) (es : List (K × T)) (k : K) → update_all entity_eq f (entries_of h es) (h k) ≡ update_all eq (λ j. f (h j)) es k
    at_key f [] k = refl
    at_key f (e ∷ es) k = grind (arith, at_key (update entity_eq f (h e.0) (Some e.1)) es k)

    -- an entity of the kind has what its key has, where it had nothing
    there : IsEquivalence eq → {es : List (K × T)} {old new : Entity → Option T} → IsDistinct eq (keys_of es) → Adds h es old new
        → (k : K) → old (h k) ≡ None → new (h k) ≡ lookup (eq k) es
    there equiv {es = es} {old = old} distinct adds k none =
        adds.each (h k) ∙ at_key old es k ∙ update_all_distinct equiv eq (λ x y. refl) (λ j. old (h j)) es k distinct
        ∙ ap (option_or (lookup (eq k) es)) none ∙ or_none (lookup (eq k) es)
      where
        or_none : (o : Option T) → option_or o None ≡ o
        or_none None = refl
        or_none (Some v) = refl

  -- what columns, rows and cells have, added in turn, and the global value over it, is what is stored
  pub gathered : (g : T) {cs rs : List (ℕ × T)} {ks : List (Position × T)} {none first second third : Entity → Option T}
      → IsDistinct eqb (keys_of cs) → IsDistinct eqb (keys_of rs) → IsDistinct position_eq (keys_of ks) → ((q : Entity) → none q ≡ None)
      → Adds (λ c. Column c) cs none first → Adds (λ r. Row r) rs first second → Adds cell_of ks second third
      → (q : Entity) → cond (entity_eq Global q) (Some g) (third q) ≡ held_for (view_of g cs rs ks) q
  gathered g columns rows cells none one two three Global = refl
  gathered g {cs = cs} columns rows cells none one two three (Column c) =
      elsewhere cell_of (Column c) (λ p. refl) three ∙ elsewhere (λ r. Row r) (Column c) (λ r. refl) two
      ∙ there (λ c. Column c) eqb (λ j k. refl) nat_eq_equiv columns one c (none (Column c)) ∙ sym (get_at_number cs c)
  gathered g {rs = rs} columns rows cells none one two three (Row r) =
      elsewhere cell_of (Row r) (λ p. refl) three
      ∙ there (λ r. Row r) eqb (λ j k. refl) nat_eq_equiv rows two r (elsewhere (λ c. Column c) (Row r) (λ c. refl) one ∙ none (Row r)) ∙ sym (get_at_number rs r)
  gathered g {ks = ks} columns rows cells none one two three (Cell r c) =
      let p : Position = record { row = r; col = c } in
      there cell_of position_eq (λ j k. refl) position_equiv cells three p
      (elsewhere (λ r. Row r) (Cell r c) (λ r. refl) two ∙ elsewhere (λ c. Column c) (Cell r c) (λ c. refl) one ∙ none (Cell r c))
      ∙ sym (get_at_position ks p)
