-- The lines of a script, one after another.
use Rattle.std.proofs.Common.{◌≡◌, ◌+◌, ◌∷◌, [], ℕ, List, Option, Some, None, Result, Ok, Err, false, map, length, nat_eq, refl, ◌∙◌, arith}
use Rattle.std.specs.Prelude.{option_and_then}
use Rattle.std.specs.List.{slice_split}
use Rattle.std.specs.Str.{IsUtf8, chars, is_utf8}
use Rattle.std.proofs.lemmas.Str.{is_utf8-from_IsUtf8}
use Rattle.std.proofs.lemmas.Bool.Decides.{nat_tests}
use Rattle.papergrid_script.specs.Spelling.{Said, Nothing}
use Rattle.papergrid_script.specs.Grammar.{line_says, text_says}
use Rattle.papergrid_script.specs.ForProofs.Read.{without_cr, without_empty_last, script_lines}
use Rattle.papergrid_script.specs.Scripts.{Table}
use Rattle.papergrid_script.specs.ForProofs.Read.{empty_table, table_with_line, or_bad, table_after, table_of}

or_bad-same : (number : ℕ) (o : Option Table) (f g : Table → Result Table ℕ) → ((table : Table) → f table ≡ g table) → or_bad number o f ≡ or_bad number o g
or_bad-same number None f g h = refl
or_bad-same number (Some table) f g h = h table

said-empty : line_says [] ≡ Some Nothing
unfolding line_says text_says is_utf8 chars
said-empty = refl

-- an empty line at the end says nothing, and so it may be counted or not
pub without_last : (number : ℕ) (table : Table) (parts : List (List ℕ)) → table_after number table (map without_cr (without_empty_last parts)) ≡ table_after number table (map without_cr parts)
without_last number table [] = refl
without_last number table ([] ∷ []) = rw said-empty refl
without_last number table ((b ∷ bs) ∷ []) = let some : nat_eq (length (b ∷ bs)) 0 ≡ false = grind (arith, nat_tests) in rw some refl
without_last number table (part ∷ next ∷ parts) =
    or_bad-same number (option_and_then (table_with_line table) (line_says (without_cr part))) _ _ (λ after. without_last (number + 1) after (next ∷ parts))

-- what the input tells is what its pieces do
pub table_of-pieces : (input : List ℕ) → table_of input ≡ table_after 1 empty_table (map without_cr (slice_split (λ b. nat_eq b 10) input))
unfolding table_of script_lines
table_of-pieces input = without_last 1 empty_table (slice_split (λ b. nat_eq b 10) input)

next_line : (R : Result Table ℕ) (left more : List (List ℕ)) (n : ℕ) (line : List ℕ) (read : Option Said) (old : Table) → left ≡ line ∷ more → read ≡ line_says (without_cr line)
    → R ≡ table_after n old (map without_cr left) → R ≡ or_bad n (option_and_then (table_with_line old) read) (λ next. table_after (n + 1) next (map without_cr more))
next_line R left more n line read old cut is so_far = so_far ∙ rw (cut, is) refl

-- a line that is text says what the text does
pub text_said : (bs : List ℕ) → IsUtf8 bs → text_says bs ≡ line_says bs
unfolding line_says
text_said bs text = rw (is_utf8-from_IsUtf8 bs text) refl

pub good_line : (R : Result Table ℕ) (left more : List (List ℕ)) (n : ℕ) (line : List ℕ) (read : Option Said) (old new : Table) → left ≡ line ∷ more → read ≡ line_says (without_cr line)
    → option_and_then (table_with_line old) read ≡ Some new
    → R ≡ table_after n old (map without_cr left) → R ≡ table_after (n + 1) new (map without_cr more)
good_line R left more n line read old new cut is good so_far = next_line R left more n line read old cut is so_far ∙ rw good refl

pub bad_line : (R : Result Table ℕ) (left more : List (List ℕ)) (n : ℕ) (line : List ℕ) (read : Option Said) (old : Table) → left ≡ line ∷ more → read ≡ line_says (without_cr line)
    → option_and_then (table_with_line old) read ≡ None
    → R ≡ table_after n old (map without_cr left) → R ≡ Err n
bad_line R left more n line read old cut is bad so_far = next_line R left more n line read old cut is so_far ∙ rw bad refl

pub no_more_lines : (R : Result Table ℕ) (left : List (List ℕ)) (n : ℕ) (table : Table) → left ≡ [] → R ≡ table_after n table (map without_cr left) → R ≡ Ok table
no_more_lines R left n table none so_far = so_far ∙ rw none refl
