-- What the walks of std's vectors and slices give.
use Rattle.std.proofs.Common.{◌≡◌, ◌+◌, ◌<◌, ◌^◌, List, [], ◌∷◌, ◌++◌, length, map, refl, ap, sym, ◌∙◌, arith, Option, zero-add, Bor, Vec, length-append}
use Rattle.std.specs.Prelude.{vec_len, ⊤}
use Rattle.std.specs.Iterator.{Count, IsFinite, Yields, Drains, at_most}
use Rattle.std.specs.List.{AllZip}
use Rattle.std.specs.Slice.Iter.{iter_steps, iter_rest}
use Rattle.std.specs.declared.slice.Iter.{Iter}
use Rattle.std.specs.declared.vec.IntoIter.{IntoIter}
use Rattle.std.specs.Vec.Iter.{into_iter_steps, into_iter_items, into_iter_len}
use Rattle.std.proofs.lemmas.List.{append-nil, length-map}
use Rattle.papergrid_text.specs.Records.{IsShort, Gives, GivesRows}

pub map_twice : {A B C : Type 0} (f : A → B) (g : B → C) (xs : List A) → map g (map f xs) ≡ map (λ x. g (f x)) xs
map_twice f g [] = refl
map_twice f g (x ∷ xs) = ap (λ ys. g (f x) ∷ ys) (map_twice f g xs)

pub empty_of : {X : Type 0} (xs : List X) → length xs ≡ 0 → xs ≡ []
empty_of [] e = refl
empty_of (x ∷ xs) e = absurd (omega arith)

-- lists that R ties place by place, where R fixes what v reads of one by the other
pub map_from_zip : {A B C : Type 0} (R : A → B → Type 0) (v : B → C) (f : A → C) → ((a : A) (b : B) → R a b → v b ≡ f a) → (xs : List A) (ys : List B) → AllZip R xs ys → map v ys ≡ map f xs
map_from_zip R v f h [] [] z = refl
map_from_zip R v f h [] (b ∷ ys) z = absurd z
map_from_zip R v f h (a ∷ xs) [] z = absurd z
map_from_zip R v f h (a ∷ xs) (b ∷ ys) z = grind (arith, map_from_zip R v f h xs ys z.1)

pub list_from_zip : {A B : Type 0} (R : A → B → Type 0) (f : A → B) → ((a : A) (b : B) → R a b → b ≡ f a) → (xs : List A) (ys : List B) → AllZip R xs ys → ys ≡ map f xs
list_from_zip R f h [] [] z = refl
list_from_zip R f h [] (b ∷ ys) z = absurd z
list_from_zip R f h (a ∷ xs) [] z = absurd z
list_from_zip R f h (a ∷ xs) (b ∷ ys) z = grind (arith, list_from_zip R f h xs ys z.1)

-- ---- a vector by value

module _ {X Z : Type 0} where
  pub owned_yields : (s t : IntoIter X Z) (xs : List X) → Yields (into_iter_steps {X = X} {Z = Z}) s xs t → (into_iter_items s ≡ xs ++ into_iter_items t) × (length xs + into_iter_len t ≡ into_iter_len s)
  owned_yields s t [] e = (ap (λ u. into_iter_items u) e, zero-add (into_iter_len t) ∙ ap (λ u. into_iter_len u) (sym e))
  owned_yields s t (x ∷ xs) (j, step, rest) = grind (arith, owned_yields j t xs rest)

  -- what a whole walk gave are the items
  pub owned_drains : (s : IntoIter X Z) (xs : List X) → length (into_iter_items s) ≡ into_iter_len s → Drains (into_iter_steps {X = X} {Z = Z}) s xs → xs ≡ into_iter_items s
  owned_drains s xs same (u, (t, walked, last)) = grind (arith, owned_yields, length-append, empty_of, append-nil)

-- ---- a slice by reference

module _ {X : Type 0} where
  pub lent_yields : (s t : Iter X) (xs : List (Bor X)) → Yields (iter_steps {A = X}) s xs t → iter_rest s ≡ map (λ x. x.now) xs ++ iter_rest t
  lent_yields s t [] e = ap (λ u. iter_rest u) e
  lent_yields s t (x ∷ xs) (j, step, rest) = step ∙ ap (λ ys. x.now ∷ ys) (lent_yields j t xs rest)

  pub lent_drains : (s : Iter X) (xs : List (Bor X)) → Drains (iter_steps {A = X}) s xs → map (λ x. x.now) xs ≡ iter_rest s
  lent_drains s xs (u, (t, walked, last)) = grind (arith, empty_of, lent_yields, append-nil)

-- ---- how long the walks are

-- any walk from here gives fewer items than 2^64, and no item is asked for more than it has
pub short_by : {S A : Type 0} {can : S → Type 0} {left : S → Count} {steps : S → Option A → S → Type 0} (P : A → Type 0) → ((x : A) → P x) → (it : S) → can it → IsFinite (left it) →
    ((xs : List A) (t : S) → Yields steps it xs t → length xs < 2 ^ 64) → IsShort can left steps P it
short_by P all it may ends fits = grind arith

module _ {X Z : Type 0} where
  pub owned_short : (P : X → Type 0) → ((x : X) → P x) → (s : IntoIter X Z) → into_iter_len s < 2 ^ 64 → IsShort (λ _. ⊤) (λ s. at_most (into_iter_len s)) (into_iter_steps {X = X} {Z = Z}) P s
  owned_short P all s small = short_by P all s tt tt (λ xs t walked. let r = owned_yields s t xs walked in omega arith)

module _ {X : Type 0} where
  pub lent_short : (P : Bor X → Type 0) → ((x : Bor X) → P x) → (s : Iter X) → length (iter_rest s) < 2 ^ 64 → IsShort (λ _. ⊤) (λ s. at_most (length (iter_rest s))) (iter_steps {A = X}) P s
  lent_short P all s small = grind (arith, short_by, lent_yields, length-append, length-map)

-- ---- rows of cells

module _ {X Z Y : Type 0} {into : Vec (Vec X Y) Z → IntoIter (Vec X Y) Z → Type 0} {row_into : Vec X Y → IntoIter X Y → Type 0} where
  pub owned_rows : (v : Vec (Vec X Y) Z) (cells : List (List X)) → GivesRows into (into_iter_steps {X = Vec X Y} {Z = Z}) row_into (into_iter_steps {X = X} {Z = Y}) v cells
      → ((v : Vec (Vec X Y) Z) (it : IntoIter (Vec X Y) Z) → into v it → (into_iter_items it ≡ v.items) × (into_iter_len it ≡ vec_len v))
      → ((row : Vec X Y) (it : IntoIter X Y) → row_into row it → (into_iter_items it ≡ row.items) × (into_iter_len it ≡ vec_len row))
      → cells ≡ map (λ row. row.items) v.items
  owned_rows v cells gave made row_made =
      let m = made v gave.walk.iterator gave.walk.made in
      let rows_are : gave.rows ≡ v.items = owned_drains gave.walk.iterator gave.rows (ap length m.0 ∙ sym v.ok.0 ∙ sym m.1) gave.walk.walked ∙ m.0 in
      let one : (row : Vec X Y) (xs : List X) → Gives row_into (into_iter_steps {X = X} {Z = Y}) row xs → xs ≡ row.items
      = λ row xs gave. let n = row_made row gave.iterator gave.made in owned_drains gave.iterator xs (ap length n.0 ∙ sym row.ok.0 ∙ sym n.1) gave.walked ∙ n.0 in
      list_from_zip (Gives row_into (into_iter_steps {X = X} {Z = Y})) (λ row. row.items) one gave.rows cells gave.each ∙ ap (map (λ row. row.items)) rows_are

module _ {X Y W : Type 0} {into : W → Iter (Vec X Y) → Type 0} {row_into : Bor (Vec X Y) → Iter X → Type 0} where
  pub lent_rows : (w : W) (cells : List (List (Bor X))) → GivesRows into (iter_steps {A = Vec X Y}) row_into (iter_steps {A = X}) w cells
      → (items : W → List (Vec X Y)) → ((w : W) (it : Iter (Vec X Y)) → into w it → iter_rest it ≡ items w) → ((row : Bor (Vec X Y)) (it : Iter X) → row_into row it → iter_rest it ≡ row.now.items)
      → map (map (λ cell. cell.now)) cells ≡ map (λ row. row.items) (items w)
  lent_rows w cells gave items made row_made =
      let rows_are : map (λ x. x.now) gave.rows ≡ items w = lent_drains gave.walk.iterator gave.rows gave.walk.walked ∙ made w gave.walk.iterator gave.walk.made in
      let one : (row : Bor (Vec X Y)) (xs : List (Bor X)) → Gives row_into (iter_steps {A = X}) row xs → map (λ cell. cell.now) xs ≡ row.now.items
      = λ row xs gave. lent_drains gave.iterator xs gave.walked ∙ row_made row gave.iterator gave.made in
      grind (arith, map_from_zip, one, map_twice, rows_are)

module _ {X Z : Type 0} {into : Vec (Bor (List X)) Z → IntoIter (Bor (List X)) Z → Type 0} {row_into : Bor (List X) → Iter X → Type 0} where
  pub slice_rows : (v : Vec (Bor (List X)) Z) (cells : List (List (Bor X))) → GivesRows into (into_iter_steps {X = Bor (List X)} {Z = Z}) row_into (iter_steps {A = X}) v cells
      → ((v : Vec (Bor (List X)) Z) (it : IntoIter (Bor (List X)) Z) → into v it → (into_iter_items it ≡ v.items) × (into_iter_len it ≡ vec_len v))
      → ((row : Bor (List X)) (it : Iter X) → row_into row it → iter_rest it ≡ row.now)
      → map (map (λ cell. cell.now)) cells ≡ map (λ row. row.now) v.items
  slice_rows v cells gave made row_made =
      let m = made v gave.walk.iterator gave.walk.made in
      let rows_are : gave.rows ≡ v.items = owned_drains gave.walk.iterator gave.rows (ap length m.0 ∙ sym v.ok.0 ∙ sym m.1) gave.walk.walked ∙ m.0 in
      let one : (row : Bor (List X)) (xs : List (Bor X)) → Gives row_into (iter_steps {A = X}) row xs → map (λ cell. cell.now) xs ≡ row.now
      = λ row xs gave. lent_drains gave.iterator xs gave.walked ∙ row_made row gave.iterator gave.made in
      map_from_zip (Gives row_into (iter_steps {A = X})) (map (λ cell. cell.now)) (λ row. row.now) one gave.rows cells gave.each ∙ ap (map (λ row. row.now)) rows_are
