-- Lists, read item by item.
use Rattle.std.proofs.Common.{◌≡◌, ◌<◌, ◌≤◌, ◌+◌, ◌++◌, ◌∷◌, [], ℕ, zero, suc, List, Option, Some, None, refl, sym, ap, ◌∙◌, arith, cond, Bool, true, false, Err, append-nil, append_assoc}
use Rattle.std.specs.Option.{option_or, option_zip}
use Rattle.std.specs.Prelude.{if◌then◌else◌, option_and_then, option_map}
use Rattle.serde_json.specs.Data.{Data, Items, no_items, item, null, boolean, number, string, array, object}
use Rattle.serde_json.specs.Find.{as_array, get_item}
use Rattle.std.proofs.lemmas.Option.{none-some, same_Some}
use Rattle.std.specs.BTreeMap.{BTreeMap, get}
use Rattle.std.specs.Ordering.{is_eq}
use Rattle.papergrid_values.specs.MapKeys.{position_cmp}
use Rattle.papergrid_values.specs.declared.position.Position.{Position}
use Rattle.papergrid_json.specs.Documents.{AreColors, color_in, items_at}
use Rattle.papergrid_json.specs.ForProofs.Reading.{IsReading, IsReadingAs, IsReadingAsOr, IsReadingOr}
use Rattle.papergrid_json.specs.Spots.{count, each, is_missing, item_at}
use Rattle.papergrid_json.specs.declared.error.Fault.{Fault}
use Rattle.papergrid_json.specs.declared.error.Fault.TheVariants.{Memory, Unexpected, UnknownSetting}

map_same : {A : Type 0} (o : Option A) → option_map (λ a. a) o ≡ o
map_same None = refl
map_same (Some a) = refl

-- the items from one on
abbrev pub from : ℕ → Items → Items
from zero items = items
from (suc n) no_items = no_items
from (suc n) (item first items) = from n items

module _ {A : Type 0} (read : Option Data → Option A) where
  -- what was read, and the items behind it
  abbrev pub behind : List A → Items → Option (List A)
  behind done items = option_map (λ more. done ++ more) (each read items)

  at_start : (items : Items) → behind [] items ≡ each read items
  at_start items = map_same (each read items)

  at_end : (done : List A) → behind done no_items ≡ Some done
  at_end done = ap Some (append-nil done)

  read_one : (done : List A) (first : Data) (items : Items) (a : A) → read (Some first) ≡ Some a → behind done (item first items) ≡ behind (done ++ a ∷ []) items
  read_one done first items a is = rw is (one_more (each read items))
    where
      one_more : (o : Option (List A)) → option_map (λ more. done ++ more) (option_map (λ told. told.0 ∷ told.1) (option_zip (Some a) o)) ≡ option_map (λ more. (done ++ a ∷ []) ++ more) o
      one_more None = refl
      one_more (Some more) = ap Some (sym (append_assoc done (a ∷ []) more))

  read_none : (done : List A) (first : Data) (items : Items) → read (Some first) ≡ None → behind done (item first items) ≡ None
  read_none done first items is = rw is refl

-- an item before the end
nth : (items : Items) (n : ℕ) → n < count items → (first : Data) × (get_item n items ≡ Some first) × (from n items ≡ item first (from (suc n) items))
nth no_items n h = absurd (omega (arith, h))
nth (item first items) zero h = (first, refl, refl)
nth (item first items) (suc n) h = nth items n (omega (arith, h))

past_last : (items : Items) (n : ℕ) → count items ≤ n → from n items ≡ no_items
past_last no_items zero h = refl
past_last no_items (suc n) h = refl
past_last (item first items) zero h = absurd (omega (arith, h))
past_last (item first items) (suc n) h = past_last items n (omega (arith, h))

module _ (here : Option Data) (items : Items) where
  -- each item stands at its index
  abbrev pub StandThere : Type 0
  StandThere = (n : ℕ) → n < count items → item_at n here ≡ get_item n items

  pub in_list : option_and_then as_array here ≡ Some items → StandThere
  in_list h n = is_array here h n
    where
      is_array : (at : Option Data) → option_and_then as_array at ≡ Some items → (n : ℕ) → n < count items → item_at n at ≡ get_item n items
      is_array None h n less = absurd (none-some items h)
      is_array (Some null) h n less = absurd (none-some items h)
      is_array (Some (boolean b)) h n less = absurd (none-some items h)
      is_array (Some (number x)) h n less = absurd (none-some items h)
      is_array (Some (string text)) h n less = absurd (none-some items h)
      is_array (Some (array listed)) h n less = ap (get_item n) (same_Some _ _ h)
      is_array (Some (object fields)) h n less = absurd (none-some items h)

  pub in_optional_list : items_at here ≡ Some items → StandThere
  unfolding items_at
  in_optional_list h n less = by_test (is_missing here) h
    where
      by_test : (b : Bool) → (if b then Some no_items else option_and_then as_array here) ≡ Some items → item_at n here ≡ get_item n items
      by_test true h = let none : 0 ≡ count items = ap count (same_Some _ _ h) in absurd (omega (arith, less, none))
      by_test false h = in_list h n less

  module _ {A : Type 0} (read : Option Data → Option A) (there : StandThere) (done : List A) (n : ℕ) (less : n < count items) (spot : Option Data) (at : spot ≡ item_at n here) where
    one : {x : Option A} → read spot ≡ x → read (Some (nth items n less).0) ≡ x
    one is = sym (ap read (at ∙ there n less ∙ (nth items n less).1)) ∙ is

    -- an item is read
    read_at : (a : A) → read spot ≡ Some a → behind read done (from n items) ≡ behind read (done ++ a ∷ []) (from (n + 1) items)
    read_at a is =
        let next : suc n ≡ n + 1 = omega arith in
        ap (behind read done) (nth items n less).2 ∙ read_one read done _ _ a (one is) ∙ ap (λ m. behind read (done ++ a ∷ []) (from m items)) next

    -- an item tells nothing
    none_at : read spot ≡ None → behind read done (from n items) ≡ None
    none_at is = ap (behind read done) (nth items n less).2 ∙ read_none read done _ _ (one is)

-- all are read
all_read : {A : Type 0} (read : Option Data → Option A) (items : Items) (done : List A) (n : ℕ) → count items ≤ n → behind read done (from n items) ≡ Some done
all_read read items done n h = ap (behind read done) (past_last items n h) ∙ at_end read done

-- where one fault is that of another
pub refused_with : {A B C : Type 0} (Is : A → B → Type 0) (told : Option A) (one : Option C) (fault : Fault) → (one ≡ None → told ≡ None) → IsReading {A = C} one (Err fault) → IsReadingAs Is told (Err fault)
refused_with Is told one Memory none h = tt
refused_with Is told one (Unexpected path wanted) none h = none h
refused_with Is told one (UnknownSetting index name) none h = absurd h

-- the same beside settings that may have no name of theirs
pub refused_beside : {A B C : Type 0} (IsUnknown : ℕ → List ℕ → Type 0) (Is : A → B → Type 0) (told : Option A) (one : Option C) (fault : Fault) → (one ≡ None → told ≡ None)
    → IsReading {A = C} one (Err fault) → IsReadingAsOr IsUnknown Is told (Err fault)
refused_beside IsUnknown Is told one Memory none h = tt
refused_beside IsUnknown Is told one (Unexpected path wanted) none h = none h
refused_beside IsUnknown Is told one (UnknownSetting index name) none h = absurd h

pub refused_or : {A B C : Type 0} (IsOne IsUnknown : ℕ → List ℕ → Type 0) (Is : A → B → Type 0) (told : Option A) (one : Option C) (fault : Fault) → (one ≡ None → told ≡ None)
    → ((index : ℕ) (name : List ℕ) → IsOne index name → IsUnknown index name) → IsReadingOr {A = C} IsOne one (Err fault) → IsReadingAsOr IsUnknown Is told (Err fault)
refused_or IsOne IsUnknown Is told one Memory none unknown h = tt
refused_or IsOne IsUnknown Is told one (Unexpected path wanted) none unknown h = none h
refused_or IsOne IsUnknown Is told one (UnknownSetting index name) none unknown h = (none h.0, unknown index name.now h.1)

-- as many items as were counted
counted : (items : Option Items) (n : ℕ) → option_map count items ≡ Some n → (listed : Items) × (items ≡ Some listed) × (count listed ≡ n)
counted None n h = absurd (none-some n h)
counted (Some listed) n h = (listed, refl, same_Some _ _ h)

uncounted : (items : Option Items) → option_map count items ≡ None → items ≡ None
uncounted None h = refl
uncounted (Some items) h = absurd (none-some _ (sym h))

-- ---- a list that is read by an index

module _ {A : Type 0} (read : Option Data → Option A) (here : Option Data) (list : Option Items) where
  abbrev pub told_by_list : Option (List A)
  told_by_list = option_and_then (each read) list

  -- so many items have been read, of as many as there are
  abbrev pub IsReadTo : Option (List A) → List A → ℕ → ℕ → Type 0
  IsReadTo told done n end = (items : Items) × (list ≡ Some items) × (count items ≡ end) × (behind read done (from n items) ≡ told)

  module _ (told : Option (List A)) (is : told_by_list ≡ told) where
    pub begun : (done : List A) (end : ℕ) → option_map count list ≡ Some end → done ≡ [] → IsReadTo told done 0 end
    begun done end h none =
        let listed = counted list end h in
        (listed.0, listed.1, listed.2, ap (λ done. behind read done listed.0) none ∙ at_start read listed.0 ∙ ap (option_and_then (each read)) (sym listed.1) ∙ is)

    -- there is no list
    pub unlisted : option_map count list ≡ None → told ≡ None
    unlisted h = sym is ∙ ap (option_and_then (each read)) (uncounted list h)

  module _ (told : Option (List A)) (there : (items : Items) → list ≡ Some items → StandThere here items) (done : List A) (n end : ℕ) (so : IsReadTo told done n end) where
    pub finished : end ≤ n → told ≡ Some done
    finished h = sym so.3 ∙ all_read read so.0 done n (omega (arith, h, so.2))

    module _ (less : n < end) (spot : Option Data) (at : spot ≡ item_at n here) where
      before_end : n < count so.0
      before_end = omega (arith, less, so.2)

      pub goes_on : (a : A) (more : List A) → read spot ≡ Some a → more ≡ done ++ a ∷ [] → IsReadTo told more (n + 1) end
      goes_on a more is grown =
          let one = read_at here so.0 read (there so.0 so.1) done n before_end spot at a is in
          (so.0, so.1, so.2, ap (λ done. behind read done (from (n + 1) so.0)) grown ∙ sym one ∙ so.3)

      pub refused : read spot ≡ None → told ≡ None
      refused is = sym so.3 ∙ none_at here so.0 read (there so.0 so.1) done n before_end spot at is

-- ---- colours

-- the colours of a list with one more
pub color_of_more : (colors : List (Position × (List ℕ × List ℕ))) (one : Position × (List ℕ × List ℕ)) (position : Position)
    → color_in (colors ++ one ∷ []) position ≡ (if is_eq (position_cmp one.0 position) then Some one.1 else color_in colors position)
color_of_more [] one position = refl
color_of_more (first ∷ colors) one position =
    ap (λ later. option_or later (if is_eq (position_cmp first.0 position) then Some first.1 else None)) (color_of_more colors one position)
    ∙ by_test (is_eq (position_cmp one.0 position))
  where
    earlier : Option (List ℕ × List ℕ)
    earlier = if is_eq (position_cmp first.0 position) then Some first.1 else None

    by_test : (b : Bool) → option_or (if b then Some one.1 else color_in colors position) earlier ≡ (if b then Some one.1 else option_or (color_in colors position) earlier)
    by_test true = refl
    by_test false = refl

-- one more is put where it belongs
pub colors_with : (done : List (Position × (List ℕ × List ℕ))) (one : Position × (List ℕ × List ℕ)) (before after : BTreeMap Position (List ℕ × List ℕ)) → AreColors done before
    → ((position : Position) → get position_cmp after position ≡ cond (is_eq (position_cmp one.0 position)) (Some one.1) (get position_cmp before position)) → AreColors (done ++ one ∷ []) after
colors_with done one before after were put position =
    put position ∙ ap (cond (is_eq (position_cmp one.0 position)) (Some one.1)) (were position) ∙ sym (color_of_more done one position)
