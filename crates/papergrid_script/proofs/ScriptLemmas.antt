-- An input is one script: what it is read to.
use Rattle.std.proofs.Common.{◌≡◌, ◌∙◌, ℕ, zero, suc, ◌++◌, List, [], ◌∷◌, Some, Result, Ok, Err, arith, inl, inr, map, refl, ap, sym, subst}
use Rattle.std.specs.Prelude.{filter, slice_get}
use Rattle.std.specs.List.{AllZip, filter_map}
use Rattle.std.proofs.lemmas.Option.{same_Some}
use Rattle.papergrid_script.specs.ForProofs.Read.{script_lines, table_of}
use Rattle.papergrid_script.specs.Scripts.{Describes, IsBad, IsScript, IsScriptOf, NoRowBefore, Table, columns_said, is_of_rows, last_or, rows_said, setting_said}
use Rattle.papergrid_script.specs.Seen.{GivesScript}
use Rattle.papergrid_script.specs.Spelling.{Said, Nothing, Columns, Set, Row, Cell, Says}
use Rattle.papergrid_script.specs.declared.script.Script.{Script}
use Rattle.papergrid_script.specs.declared.script.ScriptError.{ScriptError}
use Rattle.papergrid_script.specs.declared.script.ScriptError.TheVariants as script_errors
use Rattle.papergrid_script.proofs.DescribesLemmas.{first_bad_found, first_bad_named, told}
use Rattle.papergrid_script.proofs.ScriptLineLemmas.{lines_are, lines_only}
use Rattle.papergrid_script.proofs.SpellLemmas.{line_spelled}

-- a line says one thing
pub one-said : (line : List ℕ) (x y : Said) → Says line x → Says line y → x ≡ y
one-said line x y a b = same_Some _ _ (sym (line_spelled line x a.0 a.1) ∙ line_spelled line y b.0 b.1)

one-saids : (lines : List (List ℕ)) (xs ys : List Said) → AllZip Says lines xs → AllZip Says lines ys → xs ≡ ys
one-saids [] [] [] a b = refl
one-saids [] (x ∷ xs) ys a b = absurd a
one-saids [] xs (y ∷ ys) a b = absurd b
one-saids (line ∷ lines) [] ys a b = absurd a
one-saids (line ∷ lines) xs [] a b = absurd b
one-saids (line ∷ lines) (x ∷ xs) (y ∷ ys) a b = grind (arith, one-said, one-saids lines xs ys a.1 b.1)

-- ---- the rows

-- the cells of one row end where the next row begins
one-row : (rest : List (List (List ℕ))) → ((other : List (List (List ℕ))) → rows_said rest ≡ rows_said other → rest ≡ other) →
    (x y : List (List ℕ)) (other : List (List (List ℕ))) → map Cell x ++ rows_said rest ≡ map Cell y ++ rows_said other → (x ≡ y) × (rest ≡ other)
one-row rest later [] [] other is = (refl, later other is)
one-row [] later [] (t ∷ y) other is = cc is
one-row (row ∷ rest) later [] (t ∷ y) other is = cc is
one-row rest later (s ∷ x) [] [] is = cc is
one-row rest later (s ∷ x) [] (row ∷ other) is = cc is
one-row rest later (s ∷ x) (t ∷ y) other is =
    let head : s ≡ t = cc is in
    let more : map Cell x ++ rows_said rest ≡ map Cell y ++ rows_said other = cc is in
    let tail = one-row rest later x y other more in
    (λ i. head i ∷ tail.0 i, tail.1)

one-rows : (rows other : List (List (List ℕ))) → rows_said rows ≡ rows_said other → rows ≡ other
one-rows [] [] is = refl
one-rows [] (row ∷ other) is = cc is
one-rows (row ∷ rows) [] is = cc is
one-rows (row ∷ rows) (also ∷ other) is = grind (arith, one-row, one-rows rows)

-- ---- one table

one-table : (lines : List (List ℕ)) (a b : Table) → Describes lines a → Describes lines b → a ≡ b
one-table lines a b is also =
    let saids = one-saids lines is.saids also.saids is.each also.each in
    let columns = is.columns_last ∙ ap (λ s. last_or 0 (filter_map columns_said s)) saids ∙ sym also.columns_last in
    let settings = is.settings_all ∙ ap (filter_map setting_said) saids ∙ sym also.settings_all in
    let rows = one-rows a.rows b.rows (is.rows_all ∙ ap (filter is_of_rows) saids ∙ sym also.rows_all) in
    λ i. record { columns = columns i; settings = settings i; rows = rows i }

-- where a cell comes before any row, what is said of rows begins with a cell
first-cell : (lines : List (List ℕ)) (saids : List Said) (i : ℕ) (line text : List ℕ) → AllZip Says lines saids → slice_get lines i ≡ Some line → Says line (Cell text) → NoRowBefore lines i →
    (t : List ℕ) × (rest : List Said) × (filter is_of_rows saids ≡ Cell t ∷ rest)
first-cell [] saids i line text each at says before = cc at
first-cell (l ∷ lines) [] i line text each at says before = absurd each
first-cell (l ∷ lines) (s ∷ saids) zero line text each at says before =
    let here : line ≡ l = sym (same_Some _ _ at) in
    let same : s ≡ Cell text = one-said l s (Cell text) each.0 (subst (λ b. Says b (Cell text)) here says) in
    (text, filter is_of_rows saids, ap (λ x. filter is_of_rows (x ∷ saids)) same)
first-cell (l ∷ lines) (Row ∷ saids) (suc i) line text each at says before = absurd (before 0 l (omega arith) refl each.0)
first-cell (l ∷ lines) (Cell t ∷ saids) (suc i) line text each at says before = (t, filter is_of_rows saids, refl)
first-cell (l ∷ lines) (Nothing ∷ saids) (suc i) line text each at says before = first-cell lines saids i line text each.1 at says (λ j other less. before (suc j) other (omega arith))
first-cell (l ∷ lines) (Columns n ∷ saids) (suc i) line text each at says before = first-cell lines saids i line text each.1 at says (λ j other less. before (suc j) other (omega arith))
first-cell (l ∷ lines) (Set setting ∷ saids) (suc i) line text each at says before = first-cell lines saids i line text each.1 at says (λ j other less. before (suc j) other (omega arith))

begins-with-row : (rows : List (List (List ℕ))) (t : List ℕ) (rest : List Said) → rows_said rows ≡ Cell t ∷ rest → ⊥
begins-with-row [] t rest is = cc is
begins-with-row (row ∷ rows) t rest is = cc is

said-at : (lines : List (List ℕ)) (saids : List Said) (i : ℕ) (line : List ℕ) → AllZip Says lines saids → slice_get lines i ≡ Some line → (s : Said) × Says line s
said-at [] saids i line each at = cc at
said-at (l ∷ lines) [] i line each at = absurd each
said-at (l ∷ lines) (s ∷ saids) zero line each at = (s, subst (λ b. Says b s) (same_Some _ _ at) each.0)
said-at (l ∷ lines) (s ∷ saids) (suc i) line each at = said-at lines saids i line each.1 at

-- lines that describe a table have no bad one
none-bad : (lines : List (List ℕ)) (table : Table) (i : ℕ) → Describes lines table → IsBad lines i → ⊥
none-bad lines table i is bad = elim bad.2 [
  | inl unsaid ↦ let says = said-at lines is.saids i bad.0 is.each bad.1 in unsaid says.0 says.1
  | inr cell ↦
      let first = first-cell lines is.saids i bad.0 cell.0 is.each bad.1 cell.1 cell.2 in
      begins-with-row table.rows first.0 first.1 (is.rows_all ∙ first.2)
]

-- ---- one script

pub script-read : (input : List ℕ) (script : Result Table ℕ) → table_of input ≡ script → IsScript input script
script-read input (Ok table) is = (script_lines input, lines_are input, told input table is)
script-read input (Err number) is = (script_lines input, lines_are input, first_bad_named input number is)

of-lines : (input : List ℕ) (read script : Result Table ℕ) → table_of input ≡ read → IsScriptOf (script_lines input) script → script ≡ read
of-lines input read (Err number) is bad = ap (λ n. Err n) bad.1 ∙ sym (first_bad_found input bad.0 bad.2) ∙ is
of-lines input (Ok other) (Ok table) is describes = ap (λ t. Ok t) (one-table (script_lines input) table other describes (told input other is))
of-lines input (Err number) (Ok table) is describes =
    let named = first_bad_named input number is in
    absurd (none-bad (script_lines input) table named.0 describes named.2.bad)

pub script-only : (input : List ℕ) (script : Result Table ℕ) → IsScript input script → script ≡ table_of input
script-only input script is =
    of-lines input (table_of input) script refl (subst (λ lines. IsScriptOf lines script) (lines_only input is.0 is.1) is.2)

-- what is read is the script
pub gives-script : (input : List ℕ) (result : Result Script ScriptError) → GivesScript result (λ script. table_of input ≡ script) → GivesScript result (IsScript input)
gives-script input (Ok script) is = script-read input _ is
gives-script input (Err (script_errors.Bad number)) is = script-read input (Err number) is
gives-script input (Err script_errors.Memory) is = tt
