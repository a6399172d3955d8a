-- Plain values and lists at a path of a JSON value, where something may stand or nothing.
use Rattle.std.specs.Prelude.{ℕ, suc, ◌-◌, Bool, true, false, if◌then◌else◌, List, [], ◌∷◌, Option, Some, None, option_and_then, option_map, unwrap_or, is_some, ◌==◌}
use Rattle.std.specs.Option.{option_zip}
use Rattle.serde_json.specs.Data.{Data, Items, no_items, item}
use Rattle.serde_json.specs.Find.{as_array, as_bool, as_null, as_number, as_str, as_u64, at, get}
use Rattle.papergrid_text.specs.Text.{character_of}

-- nothing, or `null`
abbrev pub is_missing : Option Data → Bool
is_missing None = true
is_missing (Some value) = is_some (as_null value)

-- ---- plain values

-- a whole number from 0 on, of at most 64 bits
abbrev pub number_at : Option Data → Option ℕ
number_at here = option_and_then as_u64 (option_and_then as_number here)

-- true or false
abbrev pub flag_at : Option Data → Option Bool
flag_at here = option_and_then as_bool here

-- a text, as its bytes
abbrev pub text_at : Option Data → Option (List ℕ)
text_at here = option_and_then as_str here

-- the character of a text that is one
abbrev pub character_at : Option Data → Option ℕ
character_at here = option_and_then character_of (text_at here)

-- ---- lists

-- how many there are
abbrev pub count : Items → ℕ
count no_items = 0
count (item d rest) = suc (count rest)

-- an item of the list that stands there
abbrev pub item_at : ℕ → Option Data → Option Data
item_at index here = option_and_then (at index) here

-- a member of the object that stands there
abbrev pub member_at : List ℕ → Option Data → Option Data
member_at name here = option_and_then (get name) here

-- how many items the list has that stands there
abbrev pub count_at : Option Data → Option ℕ
count_at here = option_map count (option_and_then as_array here)

-- whether a list of so many items stands there
abbrev pub is_list_of : ℕ → Option Data → Bool
is_list_of n here = unwrap_or (option_map (λ items. items == n) (count_at here)) false

-- this, if so
abbrev pub when : {A : Type 0} → Bool → Option A → Option A
when b told = if b then told else None

-- what is read of what stands there, or none where nothing does
unfoldable pub optional : {A : Type 0} → (Option Data → Option A) → Option Data → Option (Option A)
optional read here = if is_missing here then Some None else option_map Some (read here)

-- two numbers
abbrev pub two_numbers_at : Option Data → Option (ℕ × ℕ)
two_numbers_at here = when (is_list_of 2 here) (option_zip (number_at (item_at 0 here)) (number_at (item_at 1 here)))

-- items, each as it is read; nothing where one of them tells nothing
abbrev pub each : {A : Type 0} → (Option Data → Option A) → Items → Option (List A)
each read no_items = Some []
each read (item first items) = option_map (λ told. told.0 ∷ told.1) (option_zip (read (Some first)) (each read items))

-- a list, each item as it is read
unfoldable pub list_at : {A : Type 0} → (Option Data → Option A) → Option Data → Option (List A)
list_at read here = option_and_then (each read) (option_and_then as_array here)

-- a word alone, or the one that a list begins with, and how many items follow
abbrev pub word_at : Option Data → Option (List ℕ × ℕ)
word_at here =
    if is_some (count_at here) then option_map (λ word. (word, unwrap_or (count_at here) 0 - 1)) (text_at (item_at 0 here))
    else option_map (λ word. (word, 0)) (text_at here)
