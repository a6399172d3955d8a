-- What a slice lends, and what is made of it.
use Rattle.std.proofs.Common.{◌≡◌, ◌∙◌, ℕ, Bor, List, None, Option, Some, ap, arith, length, map, refl, sym}
use Rattle.std.specs.List.{slice_get}
use Rattle.std.specs.Option.{option_copied, option_map}
use Rattle.std.specs.Slice.{IsItemAt}
use Rattle.std.proofs.lemmas.Option.{slice_get-map, slice_get_past, slice_get_read}

-- the item that a slice lends
pub lent_at : {A : Type 0} (items : List A) (i : ℕ) (item : Option (Bor A)) → IsItemAt items i item → option_copied item ≡ slice_get items i
lent_at items i None is = sym (slice_get_past items i (omega arith))
lent_at items i (Some item) is = sym (slice_get_read items (length items) i item.now refl (omega arith) is.1)

-- what it is made into stands at its index in the list of all
pub made_at : {A B : Type 0} (of : A → B) (items : List A) (i : ℕ) (item : Option (Bor A)) → IsItemAt items i item →
    option_map of (option_copied item) ≡ slice_get (map of items) i
made_at of items i item is = ap (option_map of) (lent_at items i item is) ∙ sym (slice_get-map of items i)
