-- What a script is read to, line by line, is what all of its lines say.
use Rattle.std.proofs.Common.{◌≡◌, ◌≢◌, ◌⊎◌, ◌<◌, ◌+◌, ◌-◌, ◌++◌, ◌∷◌, [], ℕ, zero, suc, List, Bool, true, false, ◌||◌, Option, Some, None, option_map, Result, Ok, Err, map, length, nat_lt, refl, sym, ap, ◌∙◌, subst, arith, inl, inr, append_assoc, append-nil, length-append}
use Rattle.std.specs.Prelude.{option_and_then, slice_get, slice_set, filter}
use Rattle.std.specs.List.{AllZip, filter_map}
use Rattle.std.proofs.lemmas.List.{map-append, length-set}
use Rattle.std.proofs.lemmas.Option.{same_Some, none-some, slice_get-get_or}
use Rattle.std.proofs.lemmas.Grind.{flat_map-append}
use borrow.Author.Tests.{lt-ltb}
use Rattle.papergrid_script.specs.Spelling.{Said, Nothing, Columns, Set, Row, Cell, Says}
use Rattle.papergrid_script.specs.Grammar.{line_says}
use Rattle.papergrid_script.specs.ForProofs.Read.{script_lines}
use Rattle.papergrid_script.specs.Scripts.{Table}
use Rattle.papergrid_script.specs.ForProofs.Read.{empty_table, table_with_line, onto_last, or_bad, table_after, table_of}
use Rattle.papergrid_script.specs.Scripts.{IsBad, IsFirstBad, IsUnsaid, columns_said, setting_said, is_of_rows, last_or, rows_said, Describes}
use Rattle.papergrid_script.proofs.ReadLemmas.{line_read, map_some}
use Rattle.papergrid_script.proofs.SpellLemmas.{line_spelled}

-- ---- a cell more in the last row

onto_last-later : (row next : List (List ℕ)) (rows : List (List (List ℕ))) (text : List ℕ)
    → onto_last (row ∷ next ∷ rows) text ≡ option_map (λ more. row ∷ more) (onto_last (next ∷ rows) text)
onto_last-later row next rows text = grind arith

rows_said-onto_last : (rows more : List (List (List ℕ))) (text : List ℕ) → onto_last rows text ≡ Some more → rows_said more ≡ rows_said rows ++ Cell text ∷ []
rows_said-onto_last [] more text h = cc
rows_said-onto_last (row ∷ []) more text h = grind (arith, same_Some, append-nil, map-append)
rows_said-onto_last (row ∷ next ∷ rows) more text h =
    let later = map_some (λ more. row ∷ more) (onto_last (next ∷ rows) text) more (sym (onto_last-later row next rows text) ∙ h) in
    ap rows_said (sym later.2) ∙ ap (λ rest. (Row ∷ map (λ t. Cell t) row) ++ rest) (rows_said-onto_last (next ∷ rows) later.0 text later.1)
    ∙ sym (append_assoc (Row ∷ map (λ t. Cell t) row) (rows_said (next ∷ rows)) (Cell text ∷ []))

length-onto_last : (rows more : List (List (List ℕ))) (text : List ℕ) → onto_last rows text ≡ Some more → length more ≡ length rows
length-onto_last rows more text h = grind (arith, map_some, rows, length-set)

none_onto_last : (rows : List (List (List ℕ))) (text : List ℕ) → onto_last rows text ≡ None → rows ≡ []
none_onto_last [] text h = refl
none_onto_last (row ∷ rows) text h =
    let there = slice_get-get_or (row ∷ rows) (length (row ∷ rows) - 1) row (omega arith) in
    let found : onto_last (row ∷ rows) text ≡ Some _ = ap (option_map (λ r. slice_set (row ∷ rows) (length (row ∷ rows) - 1) (r ++ text ∷ []))) there in
    absurd (none-some _ (sym h ∙ found))

-- ---- what the lines tell

-- one table, and another after these lines
record After (old new : Table) (lines : List (List ℕ)) : Type 0 where
  saids : List Said
  each : map line_says lines ≡ map (λ s. Some s) saids
  columns : new.columns ≡ last_or old.columns (filter_map columns_said saids)
  settings : new.settings ≡ old.settings ++ filter_map setting_said saids
  rows : rows_said new.rows ≡ rows_said old.rows ++ filter is_of_rows saids

after_none : (table : Table) → After table table []
after_none table = record { saids = []; each = refl; columns = refl; settings = sym (append-nil table.settings); rows = sym (append-nil (rows_said table.rows)) }

both_cons : (x : Option Said) (s : Said) (xs ys : List (Option Said)) → x ≡ Some s → xs ≡ ys → x ∷ xs ≡ Some s ∷ ys
both_cons x s xs ys p q = rw (p, q) refl

after_one : (old next new : Table) (s : Said) (line : List ℕ) (lines : List (List ℕ)) → line_says line ≡ Some s → table_with_line old s ≡ Some next → After next new lines → After old new (line ∷ lines)
after_one old next new Nothing line lines says w rest = subst (λ t. After t new lines → After old new (line ∷ lines)) (same_Some _ _ w)
    (λ h. record { saids = Nothing ∷ h.saids; each = both_cons _ _ _ _ says h.each; columns = h.columns; settings = h.settings; rows = h.rows }) rest
after_one old next new (Columns n) line lines says w rest = subst (λ t. After t new lines → After old new (line ∷ lines)) (same_Some _ _ w)
    (λ h. record { saids = Columns n ∷ h.saids; each = both_cons _ _ _ _ says h.each; columns = h.columns; settings = h.settings; rows = h.rows }) rest
after_one old next new (Set setting) line lines says w rest = subst (λ t. After t new lines → After old new (line ∷ lines)) (same_Some _ _ w)
    (λ h. record {
      saids = Set setting ∷ h.saids;
      each = both_cons _ _ _ _ says h.each;
      columns = h.columns;
      settings = h.settings ∙ append_assoc old.settings (setting ∷ []) (filter_map setting_said h.saids);
      rows = h.rows;
    }) rest
after_one old next new Row line lines says w rest = subst (λ t. After t new lines → After old new (line ∷ lines)) (same_Some _ _ w)
    (λ h. record {
      saids = Row ∷ h.saids;
      each = both_cons _ _ _ _ says h.each;
      columns = h.columns;
      settings = h.settings;
      rows = h.rows ∙ ap (λ front. front ++ filter is_of_rows h.saids) (flat_map-append (λ texts. Row ∷ map (λ t. Cell t) texts) old.rows ([] ∷ []))
          ∙ append_assoc (rows_said old.rows) (Row ∷ []) (filter is_of_rows h.saids);
    }) rest
after_one old next new (Cell text) line lines says w rest =
    let onto = map_some (λ rows. record old { rows = rows }) (onto_last old.rows text) next w in
    subst (λ t. After t new lines → After old new (line ∷ lines)) onto.2
    (λ h. record {
      saids = Cell text ∷ h.saids;
      each = both_cons _ _ _ _ says h.each;
      columns = h.columns;
      settings = h.settings;
      rows = h.rows ∙ ap (λ front. front ++ filter is_of_rows h.saids) (rows_said-onto_last old.rows onto.0 text onto.1)
          ∙ append_assoc (rows_said old.rows) (Cell text ∷ []) (filter is_of_rows h.saids);
    }) rest

after_next : (number : ℕ) (old new : Table) (line : List ℕ) (lines : List (List ℕ)) (s : Said) → line_says line ≡ Some s
    → ((next : Table) → table_after (number + 1) next lines ≡ Ok new → After next new lines)
    → (o : Option Table) → table_with_line old s ≡ o → or_bad number o (λ next. table_after (number + 1) next lines) ≡ Ok new → After old new (line ∷ lines)
after_next number old new line lines s says later None w h = cc
after_next number old new line lines s says later (Some next) w h = after_one old next new s line lines says w (later next h)

after_said : (number : ℕ) (old new : Table) (line : List ℕ) (lines : List (List ℕ))
    → ((next : Table) → table_after (number + 1) next lines ≡ Ok new → After next new lines)
    → (o : Option Said) → line_says line ≡ o → or_bad number (option_and_then (table_with_line old) o) (λ next. table_after (number + 1) next lines) ≡ Ok new → After old new (line ∷ lines)
after_said number old new line lines later None says h = cc
after_said number old new line lines later (Some s) says h = after_next number old new line lines s says later (table_with_line old s) refl h

after_lines : (number : ℕ) (old new : Table) (lines : List (List ℕ)) → table_after number old lines ≡ Ok new → After old new lines
after_lines number old new [] h = let same : old ≡ new = cc in subst (λ t. After old t []) same (after_none old)
after_lines number old new (line ∷ lines) h = after_said number old new line lines (λ next. after_lines (number + 1) next new lines) (line_says line) refl h

-- a line is read to what it says, and says what it is read to
said : (line : List ℕ) (s : Said) → Says line s → line_says line ≡ Some s
said line s says = line_spelled line s says.0 says.1

each_says : (lines : List (List ℕ)) (saids : List Said) → map line_says lines ≡ map (λ s. Some s) saids → AllZip Says lines saids
each_says [] [] each = tt
each_says [] (s ∷ saids) each = cc
each_says (line ∷ lines) [] each = cc
each_says (line ∷ lines) (s ∷ saids) each = (line_read line s (cc), each_says lines saids (cc))

pub told : (input : List ℕ) (table : Table) → table_of input ≡ Ok table → Describes (script_lines input) table
unfolding table_of
told input table h =
    let after = after_lines 1 empty_table table (script_lines input) h in
    record { saids = after.saids; each = each_says (script_lines input) after.saids after.each; columns_last = after.columns; settings_all = after.settings; rows_all = after.rows }

-- ---- bad lines

-- no line before the i-th is read to the beginning of a row
abbrev NoRowRead : List (List ℕ) → ℕ → Type 0
NoRowRead lines i = (j : ℕ) (line : List ℕ) → j < i → slice_get lines j ≡ Some line → line_says line ≢ Some Row

-- the same as `IsBad`, where rows may have begun before these lines
abbrev BadIn : Bool → List (List ℕ) → ℕ → Type 0
BadIn begun lines i =
    (line : List ℕ) × (slice_get lines i ≡ Some line) × ((line_says line ≡ None) ⊎ ((text : List ℕ) × (line_says line ≡ Some (Cell text)) × (begun ≡ false) × NoRowRead lines i))

abbrev begins_row : Said → Bool
begins_row Row = true
begins_row s = false

abbrev has_rows : Table → Bool
has_rows table = nat_lt 0 (length table.rows)

or_parts : (a b : Bool) → a || b ≡ false → (a ≡ false) × (b ≡ false)
or_parts false b h = (refl, h)
or_parts true b h = cc

or_false : (a : Bool) → a ≡ a || false
or_false true = refl
or_false false = refl

or_true : (a : Bool) → true ≡ a || true
or_true true = refl
or_true false = refl

no_row_said : (s : Said) → (Some s ≡ Some Row → ⊥) → begins_row s ≡ false
no_row_said Row never = absurd (never refl)
no_row_said Nothing never = refl
no_row_said (Columns n) never = refl
no_row_said (Set setting) never = refl
no_row_said (Cell text) never = refl

bad_below : (begun : Bool) (line : List ℕ) (lines : List (List ℕ)) (s : Said) (i : ℕ) → line_says line ≡ Some s → BadIn begun (line ∷ lines) (suc i) → BadIn (begun || begins_row s) lines i
bad_below begun line lines s i says bad = (
  bad.0,
  bad.1,
  elim bad.2 [
    | inl none ↦ inl none
    | inr cell ↦
        let no_row : begins_row s ≡ false = no_row_said s (λ e. cell.3 0 line (omega arith) refl (says ∙ e)) in
        inr (cell.0, cell.1, rw (cell.2, no_row) refl, λ j other before at. cell.3 (suc j) other (omega arith) at)
  ],
)

bad_above : (begun : Bool) (line : List ℕ) (lines : List (List ℕ)) (s : Said) (i : ℕ) → line_says line ≡ Some s → BadIn (begun || begins_row s) lines i → BadIn begun (line ∷ lines) (suc i)
bad_above begun line lines s i says bad = grind arith

rows_after : (old next : Table) (s : Said) → table_with_line old s ≡ Some next → has_rows next ≡ has_rows old || begins_row s
rows_after old next Nothing w = ap has_rows (sym (same_Some _ _ w)) ∙ or_false (has_rows old)
rows_after old next (Columns n) w = ap has_rows (sym (same_Some _ _ w)) ∙ or_false (has_rows old)
rows_after old next (Set setting) w = ap has_rows (sym (same_Some _ _ w)) ∙ or_false (has_rows old)
rows_after old next Row w = grind (arith, length-append, same_Some, or_true)
rows_after old next (Cell text) w =
    let onto = map_some (λ rows. record old { rows = rows }) (onto_last old.rows text) next w in
    ap has_rows (sym onto.2) ∙ ap (λ n. nat_lt 0 n) (length-onto_last old.rows onto.0 text onto.1) ∙ or_false (has_rows old)

-- a line after which there is a table is not bad
good_first : (old next : Table) (s : Said) (line : List ℕ) (lines : List (List ℕ)) → line_says line ≡ Some s → table_with_line old s ≡ Some next → ¬ (BadIn (has_rows old) (line ∷ lines) 0)
good_first old next s line lines says w bad =
    let this : line ≡ bad.0 = same_Some _ _ bad.1 in
    elim bad.2 [
      | inl none ↦ none-some s (sym none ∙ ap line_says (sym this) ∙ says)
      | inr cell ↦
          let same : s ≡ Cell cell.0 = same_Some _ _ (sym says ∙ ap line_says this ∙ cell.1) in
          let empty : old.rows ≡ [] = no_rows old.rows cell.2 in
          let none : table_with_line old (Cell cell.0) ≡ None = ap (λ rows. option_map (λ more. record old { rows = more }) (onto_last rows cell.0)) empty in
          none-some next (sym none ∙ ap (table_with_line old) (sym same) ∙ w)
    ]
  where
    no_rows : (rows : List (List (List ℕ))) → nat_lt 0 (length rows) ≡ false → rows ≡ []
    no_rows [] h = refl
    no_rows (row ∷ rows) h = let some : nat_lt 0 (length (row ∷ rows)) ≡ true = lt-ltb _ _ (omega arith) in cc

no_bad_next : (number : ℕ) (old new : Table) (line : List ℕ) (lines : List (List ℕ)) (s : Said) → line_says line ≡ Some s
    → ((next : Table) → table_after (number + 1) next lines ≡ Ok new → (i : ℕ) → ¬ (BadIn (has_rows next) lines i))
    → (o : Option Table) → table_with_line old s ≡ o → or_bad number o (λ next. table_after (number + 1) next lines) ≡ Ok new → (i : ℕ) → ¬ (BadIn (has_rows old) (line ∷ lines) i)
no_bad_next number old new line lines s says later None w h i bad = cc
no_bad_next number old new line lines s says later (Some next) w h zero bad = good_first old next s line lines says w bad
no_bad_next number old new line lines s says later (Some next) w h (suc i) bad =
    later next h i (subst (λ b. BadIn b lines i) (sym (rows_after old next s w)) (bad_below (has_rows old) line lines s i says bad))

no_bad_said : (number : ℕ) (old new : Table) (line : List ℕ) (lines : List (List ℕ))
    → ((next : Table) → table_after (number + 1) next lines ≡ Ok new → (i : ℕ) → ¬ (BadIn (has_rows next) lines i))
    → (o : Option Said) → line_says line ≡ o → or_bad number (option_and_then (table_with_line old) o) (λ next. table_after (number + 1) next lines) ≡ Ok new → (i : ℕ) → ¬ (BadIn (has_rows old) (line ∷ lines) i)
no_bad_said number old new line lines later None says h = cc
no_bad_said number old new line lines later (Some s) says h = no_bad_next number old new line lines s says later (table_with_line old s) refl h

no_bad : (number : ℕ) (old new : Table) (lines : List (List ℕ)) → table_after number old lines ≡ Ok new → (i : ℕ) → ¬ (BadIn (has_rows old) lines i)
no_bad number old new [] h = λ i bad. none-some bad.0 bad.1
no_bad number old new (line ∷ lines) h = no_bad_said number old new line lines (λ next. no_bad (number + 1) next new lines) (line_says line) refl h

-- ---- the first bad line

record FirstBadIn (begun : Bool) (lines : List (List ℕ)) (i : ℕ) : Type 0 where
  bad : BadIn begun lines i
  first : (j : ℕ) → j < i → ¬ (BadIn begun lines j)

bad_here : (begun : Bool) (line : List ℕ) (lines : List (List ℕ)) → (line_says line ≡ None) ⊎ ((text : List ℕ) × (line_says line ≡ Some (Cell text)) × (begun ≡ false)) → FirstBadIn begun (line ∷ lines) 0
bad_here begun line lines why = grind arith

bad_later : (old next : Table) (s : Said) (line : List ℕ) (lines : List (List ℕ)) (i : ℕ) → line_says line ≡ Some s → table_with_line old s ≡ Some next → FirstBadIn (has_rows next) lines i
    → FirstBadIn (has_rows old) (line ∷ lines) (suc i)
bad_later old next s line lines i says w later = record {
  bad = bad_above (has_rows old) line lines s i says (subst (λ b. BadIn b lines i) (rows_after old next s w) later.bad);
  first = before;
}
  where
    before : (j : ℕ) → j < suc i → ¬ (BadIn (has_rows old) (line ∷ lines) j)
    before zero less bad = good_first old next s line lines says w bad
    before (suc j) less bad = later.first j (omega arith) (subst (λ b. BadIn b lines j) (sym (rows_after old next s w)) (bad_below (has_rows old) line lines s j says bad))

-- only a cell before the first row is refused by the table
refused_cell : (old : Table) (s : Said) → table_with_line old s ≡ None → (text : List ℕ) × (s ≡ Cell text) × (has_rows old ≡ false)
refused_cell old Nothing w = cc
refused_cell old (Columns n) w = cc
refused_cell old (Set setting) w = cc
refused_cell old Row w = cc
refused_cell old (Cell text) w = (text, refl, ap (λ rows. nat_lt 0 (length rows)) (none_onto_last old.rows text (nothing (onto_last old.rows text) w)))
  where
    nothing : (o : Option (List (List (List ℕ)))) → option_map (λ rows. record old { rows = rows }) o ≡ None → o ≡ None
    nothing None h = refl
    nothing (Some rows) h = cc

abbrev LayoutResult : ℕ → ℕ → Table → List (List ℕ) → Type 0
LayoutResult number m old lines = (i : ℕ) × (m ≡ number + i) × FirstBadIn (has_rows old) lines i

found_next : (number m : ℕ) (old : Table) (line : List ℕ) (lines : List (List ℕ)) (s : Said) → line_says line ≡ Some s
    → ((next : Table) → table_after (number + 1) next lines ≡ Err m → LayoutResult (number + 1) m next lines)
    → (o : Option Table) → table_with_line old s ≡ o → or_bad number o (λ next. table_after (number + 1) next lines) ≡ Err m → LayoutResult number m old (line ∷ lines)
found_next number m old line lines s says later None w h = grind (arith, refused_cell, bad_here)
found_next number m old line lines s says later (Some next) w h =
    let rest = later next h in
    (suc rest.0, omega (arith, rest.1), bad_later old next s line lines rest.0 says w rest.2)

found_said : (number m : ℕ) (old : Table) (line : List ℕ) (lines : List (List ℕ))
    → ((next : Table) → table_after (number + 1) next lines ≡ Err m → LayoutResult (number + 1) m next lines)
    → (o : Option Said) → line_says line ≡ o → or_bad number (option_and_then (table_with_line old) o) (λ next. table_after (number + 1) next lines) ≡ Err m → LayoutResult number m old (line ∷ lines)
found_said number m old line lines later None says h = let same : number ≡ m = cc in (0, omega arith, bad_here (has_rows old) line lines (inl says))
found_said number m old line lines later (Some s) says h = found_next number m old line lines s says later (table_with_line old s) refl h

found_bad : (number m : ℕ) (old : Table) (lines : List (List ℕ)) → table_after number old lines ≡ Err m → LayoutResult number m old lines
found_bad number m old [] h = cc
found_bad number m old (line ∷ lines) h = found_said number m old line lines (λ next. found_bad (number + 1) m next lines) (line_says line) refl h

is_bad : (lines : List (List ℕ)) (i : ℕ) → BadIn false lines i → IsBad lines i
is_bad lines i bad = (
  bad.0,
  bad.1,
  elim bad.2 [
    | inl none ↦ inl (λ s says. none-some s (sym none ∙ said bad.0 s says))
    | inr cell ↦ inr (cell.0, line_read bad.0 (Cell cell.0) cell.1, λ j line before at row. cell.3 j line before at (said line Row row))
  ],
)

bad_in : (lines : List (List ℕ)) (i : ℕ) → IsBad lines i → BadIn false lines i
bad_in lines i bad = (
  bad.0,
  bad.1,
  elim bad.2 [
    | inl unsaid ↦ inl (nothing_read (line_says bad.0) refl unsaid)
    | inr cell ↦ inr (cell.0, said bad.0 (Cell cell.0) cell.1, refl, λ j line before at row. cell.2 j line before at (line_read line Row row))
  ],
)
  where
    nothing_read : {line : List ℕ} (o : Option Said) → line_says line ≡ o → IsUnsaid line → line_says line ≡ None
    nothing_read None is unsaid = is
    nothing_read {line} (Some s) is unsaid = absurd (unsaid s (line_read line s is))

-- ---- the whole script

pub none_bad : (input : List ℕ) (table : Table) → table_of input ≡ Ok table → (i : ℕ) → ¬ (IsBad (script_lines input) i)
unfolding table_of
none_bad input table h i bad = no_bad 1 empty_table table (script_lines input) h i (bad_in (script_lines input) i bad)

pub first_bad_named : (input : List ℕ) (n : ℕ) → table_of input ≡ Err n → (i : ℕ) × (n ≡ i + 1) × IsFirstBad (script_lines input) i
unfolding table_of
first_bad_named input n h =
    let found = found_bad 1 n empty_table (script_lines input) h in (
      found.0,
      omega (arith, found.1),
      record {
        bad = is_bad (script_lines input) found.0 found.2.bad;
        first = λ j before bad. found.2.first j before (bad_in (script_lines input) j bad);
      },
    )

one_first : (lines : List (List ℕ)) (i j : ℕ) → IsFirstBad lines i → IsFirstBad lines j → i ≡ j
one_first lines i j at_i at_j = elim (order i j) [
  | inl less ↦ absurd (at_j.first i less at_i.bad)
  | inr other ↦ elim other [ inl same ↦ same | inr more ↦ absurd (at_i.first j more at_j.bad) ]
]
  where
    order : (i j : ℕ) → (i < j) ⊎ ((i ≡ j) ⊎ (j < i))
    order i j = grind arith

pub first_bad_found : (input : List ℕ) (i : ℕ) → IsFirstBad (script_lines input) i → table_of input ≡ Err (i + 1)
first_bad_found input i at = grind (arith, by_result, none_bad, first_bad_named, one_first)
  where
    by_result : (r : Result Table ℕ) → table_of input ≡ r → r ≡ Err (i + 1)
    by_result (Ok table) e = absurd (none_bad input table e i at.bad)
    by_result (Err n) e =
        let named = first_bad_named input n e in
        let same : named.0 ≡ i = one_first (script_lines input) named.0 i named.2 at in
        ap (λ m. Err m) (named.1 ∙ ap (λ k. k + 1) same)
