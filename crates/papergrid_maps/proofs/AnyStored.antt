-- A loop that looks for a value, and the values that a map holds.
use Rattle.std.proofs.Common.{◌≡◌, ℕ, zero, suc, Bool, true, false, List, [], ◌∷◌, ◌++◌, map, eqb, Some, sym, ap, subst, ◌∙◌, append_assoc, length, arith, ◌<◌}
use Rattle.std.specs.Prelude.{All, Any, IfSome}
use Rattle.std.specs.Bool.{OnTrue, OnFalse}
use Rattle.std.specs.List.{IsDistinct, slice_get, slice_index_or}
use Rattle.std.specs.Cmp.{IsEquivalence, nat_eq_equiv}
use Rattle.std.specs.Map.{lookup, keys_of, values_of}
use Rattle.std.proofs.lemmas.Map.Entries.{lookup_from_place, All-lookup}
use Rattle.papergrid_values.specs.declared.position.Position.{Position}
use Rattle.papergrid_values.specs.MapKeys.{position_eq}
use Rattle.papergrid_maps.specs.StoredMap.{HoldsValue, held_for}
use Rattle.papergrid_values.specs.declared.entity.Entity.{Entity}
use Rattle.papergrid_values.specs.declared.entity.Entity.TheVariants.{Global, Column, Row, Cell}
use Rattle.std.proofs.lemmas.Option.{same_Some}
use Rattle.papergrid_values.proofs.KeyLemmas.{get_at_number, get_at_position, position_equiv}
use Rattle.papergrid_maps.proofs.StoredMapLemmas.{view_of}
use Rattle.std.proofs.lemmas.List.{map-append, append-nil, length-append}
use Rattle.std.proofs.Math.Seq.{get_or-append_seam}
use Rattle.std.proofs.lemmas.List.Elements.{All-push}

-- the values seen so far, and those left, of all: P holds of each seen
pub record Passed {X : Type 0} (P : X → Type 0) (seen left all : List X) : Type 0 where
  pub split : seen ++ left ≡ all
  pub each : All P seen

pub passed_more : {A X : Type 0} (shows : A → X) (P : X → Type 0) (xs : List A) (x : A) (left rest all : List X) → left ≡ shows x ∷ rest → P (shows x)
    → Passed P (map shows xs) left all → Passed P (map shows (xs ++ x ∷ [])) rest all
passed_more shows P xs x left rest all is holds passed = record {
  split = ap (λ ys. ys ++ rest) (map-append shows xs (x ∷ [])) ∙ append_assoc (map shows xs) (shows x ∷ []) rest ∙ ap (λ ys. map shows xs ++ ys) (sym is) ∙ passed.split;
  each = subst (All P) (sym (map-append shows xs (x ∷ []))) (All-push P (map shows xs) (shows x) passed.each holds);
}

pub passed_all : {X : Type 0} (P : X → Type 0) (seen left all : List X) → left ≡ [] → Passed P seen left all → All P all
passed_all P seen left all is passed = subst (All P) (sym (append-nil seen) ∙ ap (λ ys. seen ++ ys) (sym is) ∙ passed.split) passed.each

pub found_at : {A X : Type 0} (shows : A → X) (P : X → Type 0) (xs : List A) (x : A) (left rest all : List X) → left ≡ shows x ∷ rest → P (shows x)
    → map shows xs ++ left ≡ all → Any P all
found_at {X = X} shows P xs x left rest all is holds split =
    let seen : List X = map shows xs in
    let whole : seen ++ shows x ∷ rest ≡ all = ap (λ zs. seen ++ zs) (sym is) ∙ split in
    let within : length seen < length (seen ++ shows x ∷ rest) = omega (arith, length-append {A = X} seen (shows x ∷ rest)) in
    subst (Any P) whole (length seen, shows x, within, get_or-append_seam seen (shows x) rest (shows x), holds)

-- ---- values by their keys

index_of_value : {K X : Type 0} (es : List (K × X)) (i : ℕ) (x : X) → i < length (values_of es) → slice_index_or (values_of es) i x ≡ x → (k : K) × (slice_get es i ≡ Some (k, x))
index_of_value [] i x within is = absurd (omega (arith, within))
index_of_value (e ∷ es) zero x within is = (e.0, ap (λ v. Some (e.0, v)) is)
index_of_value (e ∷ es) (suc i) x within is = index_of_value es i x (omega (arith, within)) is

module _ {K X : Type 0} {E : K → K → Bool} (laws : IsEquivalence E) (P : X → Type 0) (es : List (K × X)) where
  value_by_key : IsDistinct E (keys_of es) → Any P (values_of es) → (k : K) × (x : X) × (lookup (E k) es ≡ Some x) × P x
  value_by_key distinct any = grind (arith, index_of_value, lookup_from_place)

all_values : {K X : Type 0} (P : X → Type 0) (es : List (K × X)) → All P (values_of es) → All (λ e. P e.1) es
all_values P [] all i d within = absurd (omega (arith, within))
all_values P (e ∷ es) all zero d within = all 0 d.1 (omega arith)
all_values P (e ∷ es) all (suc i) d within = all_values P es (λ j c h. all (suc j) c (omega (arith, h))) i d (omega (arith, within))

at_key : {K X : Type 0} (P : X → Type 0) (test : K → Bool) (es : List (K × X)) (x : X) → All P (values_of es) → lookup test es ≡ Some x → P x
at_key P test es x all is = subst (λ o. IfSome o P) is (All-lookup P test es (all_values P es all))

module _ {T : Type 0} (g : T) (cs rs : List (ℕ × T)) (ks : List (Position × T)) (P : T → Type 0) where
  pub stored_in_columns : IsDistinct eqb (keys_of cs) → Any P (values_of cs) → (v : T) × HoldsValue (view_of g cs rs ks) v × P v
  stored_in_columns distinct any =
      let found = value_by_key nat_eq_equiv P cs distinct any in
      (found.1, (Column found.0, get_at_number cs found.0 ∙ found.2), found.3)

  pub stored_in_rows : IsDistinct eqb (keys_of rs) → Any P (values_of rs) → (v : T) × HoldsValue (view_of g cs rs ks) v × P v
  stored_in_rows distinct any =
      let found = value_by_key nat_eq_equiv P rs distinct any in
      (found.1, (Row found.0, get_at_number rs found.0 ∙ found.2), found.3)

  pub stored_in_cells : IsDistinct position_eq (keys_of ks) → Any P (values_of ks) → (v : T) × HoldsValue (view_of g cs rs ks) v × P v
  stored_in_cells distinct any =
      let found = value_by_key position_equiv P ks distinct any in
      (found.1, (Cell found.0.row found.0.col, get_at_position ks found.0 ∙ found.2), found.3)

  pub all_stored : P g → All P (values_of cs) → All P (values_of rs) → All P (values_of ks) → (v : T) → HoldsValue (view_of g cs rs ks) v → P v
  all_stored global columns rows cells v stored = of_entity stored.0 stored.1
    where
      of_entity : (entity : Entity) → held_for (view_of g cs rs ks) entity ≡ Some v → P v
      of_entity Global is = subst P (same_Some g v is) global
      of_entity (Column c) is = at_key P (eqb c) cs v columns (sym (get_at_number cs c) ∙ is)
      of_entity (Row r) is = at_key P (eqb r) rs v rows (sym (get_at_number rs r) ∙ is)
      of_entity (Cell r c) is =
          let p : Position = record { row = r; col = c } in
          at_key P (position_eq p) ks v cells (sym (get_at_position ks p) ∙ is)

pub on_true_map : {P Q : Type 0} (b : Bool) → (P → Q) → OnTrue b P → OnTrue b Q
on_true_map true f p = f p
on_true_map false f p = p

pub on_false_map : {P Q : Type 0} (b : Bool) → (P → Q) → OnFalse b P → OnFalse b Q
on_false_map true f p = p
on_false_map false f p = f p
