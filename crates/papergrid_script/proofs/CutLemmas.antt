-- An input that begins with text and goes on with what is no text: the line where the text ends is bad.
use Rattle.std.proofs.Common.{◌≡◌, ◌≢◌, ◌<◌, ◌≤◌, ◌+◌, ◌-◌, ◌++◌, ◌∷◌, [], ℕ, zero, suc, List, Bool, true, false, cond, Option, Some, None, Result, Ok, Err, map, length, get_or, take, drop, refl, sym, ap, ◌∙◌, subst, arith}
use Rattle.std.specs.Prelude.{◌==◌, option_and_then}
use Rattle.std.specs.List.{All, join_with_byte, onto_first}
use Rattle.std.specs.Result.{is_ok}
use Rattle.std.specs.Str.{IsUtf8, IsValidUpTo, is_utf8}
use Rattle.std.proofs.Math.Seq.{take-add, take-suc, take-length, take-append-add, drop-append-add, get_or-append_seam}
use Rattle.std.proofs.lemmas.Bool.{eqb-true, ne_eqb}
use Rattle.std.proofs.lemmas.List.{append_assoc, take-append-drop, length-append, length-drop}
use Rattle.std.proofs.lemmas.List.Elements.{All-head, All-tail}
use Rattle.std.proofs.lemmas.List.Splits.{slice_split_at, slice_split-cons_no}
use Rattle.std.proofs.lemmas.Str.{IsUtf8-append, IsUtf8-drop, IsUtf8-take, IsUtf8-from_ascii, IsUtf8-from_is_utf8, IsCharBoundary-after_ascii}
use Rattle.std.proofs.lemmas.Str.Ascii.{IsAscii-nil, IsAscii-cons}
use Rattle.papergrid_text.specs.Text.{HasNoNewline, split_lines}
use Rattle.papergrid_text.proofs.Splits.{is_split}
use Rattle.papergrid_script.specs.Grammar.{line_says}
use Rattle.papergrid_script.specs.ForProofs.Read.{without_cr}
use Rattle.papergrid_script.specs.declared.script.Script.{Script}
use Rattle.papergrid_script.specs.declared.script.ScriptError.{ScriptError}
use Rattle.papergrid_script.specs.declared.script.ScriptError.TheVariants as script_errors
use Rattle.papergrid_script.specs.Scripts.{Table}
use Rattle.papergrid_script.specs.ForProofs.Read.{empty_table, table_with_line, or_bad, table_after, table_of}
use Rattle.papergrid_script.specs.Seen.{GivesScript}
use Rattle.papergrid_script.proofs.LineLemmas.{table_of-pieces}

-- ---- the first part

abbrev first_of : List (List ℕ) → List ℕ
first_of [] = []
first_of (part ∷ parts) = part

abbrev rest_of : List (List ℕ) → List (List ℕ)
rest_of [] = []
rest_of (part ∷ parts) = parts

parts_step : (b : ℕ) (v : Bool) (parts : List (List ℕ)) → cond v ([] ∷ parts) (onto_first b parts) ≡ first_of (cond v ([] ∷ parts) (onto_first b parts)) ∷ rest_of (cond v ([] ∷ parts) (onto_first b parts))
parts_step b true parts = refl
parts_step b false [] = refl
parts_step b false (part ∷ parts) = refl

some_part : (bs : List ℕ) → split_lines bs ≡ first_of (split_lines bs) ∷ rest_of (split_lines bs)
some_part [] = refl
some_part (b ∷ bs) = parts_step b (b == 10) (split_lines bs)

-- bytes without a newline come before the first part of the rest
split_after : (line rest : List ℕ) → HasNoNewline line → split_lines (line ++ rest) ≡ (line ++ first_of (split_lines rest)) ∷ rest_of (split_lines rest)
split_after [] rest plain = some_part rest
split_after (b ∷ line) rest plain =
    slice_split-cons_no (λ c. c == 10) b (line ++ rest) (ne_eqb b 10 (All-head (λ c. c ≢ 10) b line plain))
    ∙ ap (onto_first b) (split_after line rest (All-tail (λ c. c ≢ 10) b line plain))

longer_step : (b : ℕ) (bs : List ℕ) (parts : List (List ℕ)) → ((k : ℕ) × (first_of parts ≡ take k bs)) → (k : ℕ) × (first_of (onto_first b parts) ≡ take (suc k) (b ∷ bs))
longer_step b bs [] h = (0, refl)
longer_step b bs (part ∷ parts) h = (h.0, ap (λ more. b ∷ more) h.1)

front_step : (b : ℕ) (bs : List ℕ) (v : Bool) (parts : List (List ℕ)) → ((k : ℕ) × (first_of parts ≡ take k bs)) → (k : ℕ) × (first_of (cond v ([] ∷ parts) (onto_first b parts)) ≡ take k (b ∷ bs))
front_step b bs true parts h = (0, refl)
front_step b bs false parts h = let more = longer_step b bs parts h in (suc more.0, more.1)

-- the first part is a front
is_front : (bs : List ℕ) → (k : ℕ) × (first_of (split_lines bs) ≡ take k bs)
is_front [] = (0, refl)
is_front (b ∷ bs) = front_step b bs (b == 10) (split_lines bs) (is_front bs)

-- ---- where text ends

-- no byte more of the rest makes the text longer
record Ends (text rest : List ℕ) : Type 0 where
  pub utf8 : IsUtf8 text
  pub some : 0 < length rest
  pub longest : (k : ℕ) → 0 < k → ¬ (IsUtf8 (text ++ take k rest))

ends_at : (input : List ℕ) (n : ℕ) → IsValidUpTo input n → Ends (take n input) (drop n input)
ends_at input n valid = record {
  utf8 = valid.front;
  some = let left = length-drop n input in let short = valid.short in omega arith;
  longest = λ k more utf8. valid.longest (n + k) (omega arith) (subst IsUtf8 (sym (take-add n k input)) utf8);
}

ascii_text : (b : ℕ) → b < 128 → IsUtf8 (b ∷ [])
ascii_text b below = IsUtf8-from_ascii (b ∷ []) (IsAscii-cons b [] below IsAscii-nil)

goes_step : (line : List ℕ) (b : ℕ) (bs : List ℕ) (v : Bool) (parts : List (List ℕ)) → (b == 10) ≡ v → Ends line (b ∷ bs) → ((k : ℕ) × (first_of parts ≡ take k bs)) → ¬ (IsUtf8 (line ++ first_of (cond v ([] ∷ parts) (onto_first b parts))))
goes_step line b bs true parts newline ends front utf8 =
    ends.longest 1 (omega arith) (IsUtf8-append line (b ∷ []) ends.utf8 (subst (λ c. IsUtf8 (c ∷ [])) (sym (eqb-true b 10 newline)) (ascii_text 10 (omega arith))))
goes_step line b bs false parts newline ends front utf8 =
    let more = longer_step b bs parts front in
    ends.longest (suc more.0) (omega arith) (subst (λ part. IsUtf8 (line ++ part)) more.1 utf8)

-- the line where the text ends is no text
no_text : (line rest : List ℕ) → Ends line rest → ¬ (IsUtf8 (line ++ first_of (split_lines rest)))
no_text line [] ends utf8 = let some = ends.some in absurd (omega arith)
no_text line (b ∷ bs) ends utf8 = goes_step line b bs (b == 10) (split_lines bs) refl ends (is_front bs) utf8

-- nor is it without a CR at its end
with_cr : (line : List ℕ) (v : Bool) → (get_or line (length line - 1) 0 == 13) ≡ v → IsUtf8 (cond v (take (length line - 1) line) line) → IsUtf8 line
with_cr line false other utf8 = utf8
with_cr [] true is utf8 = cc
with_cr (b ∷ bs) true is utf8 =
    let line : List ℕ = b ∷ bs in
    let n : length line ≡ suc (length line - 1) = omega arith in
    let whole : line ≡ take (length line - 1) line ++ 13 ∷ [] =
    sym (take-length line) ∙ ap (λ k. take k line) n ∙ take-suc line (length line - 1) 0 (omega arith)
    ∙ ap (λ c. take (length line - 1) line ++ c ∷ []) (eqb-true (get_or line (length line - 1) 0) 13 is) in
    subst IsUtf8 (sym whole) (IsUtf8-append (take (length line - 1) line) (13 ∷ []) utf8 (ascii_text 13 (omega arith)))

is_false : (b : Bool) → ¬ (b ≡ true) → b ≡ false
is_false true never = absurd (never refl)
is_false false never = refl

says_nothing : (line : List ℕ) → ¬ (IsUtf8 line) → line_says (without_cr line) ≡ None
unfolding line_says
says_nothing line never =
    let bad : is_utf8 (without_cr line) ≡ false = is_false (is_utf8 (without_cr line)) (λ e. never (with_cr line (get_or line (length line - 1) 0 == 13) refl (IsUtf8-from_is_utf8 (without_cr line) e))) in
    rw bad refl

-- and each line before it is the same
ends_after : (line text rest : List ℕ) → Ends (line ++ 10 ∷ text) rest → Ends text rest
ends_after line text rest ends =
    let n = length-append line (10 ∷ text) in
    let newline : get_or (line ++ 10 ∷ text) (length line) 0 ≡ 10 = get_or-append_seam line 10 text 0 in
    let boundary = IsCharBoundary-after_ascii (line ++ 10 ∷ text) (length line) ends.utf8 (omega arith) (omega arith) in
    let front = subst IsUtf8 (take-append-add line (10 ∷ text) 1) (IsUtf8-take (line ++ 10 ∷ text) (length line + 1) ends.utf8 boundary) in
    record {
      utf8 = subst IsUtf8 (drop-append-add line (10 ∷ text) 1) (IsUtf8-drop (line ++ 10 ∷ text) (length line + 1) ends.utf8 boundary);
      some = ends.some;
      longest = λ k more utf8. ends.longest k more (subst IsUtf8 (simp append_assoc) (IsUtf8-append (line ++ 10 ∷ []) (text ++ take k rest) front utf8));
    }

-- ---- what the input tells

-- what is told where the front tells this, and the line of this number goes on with what is no text
abbrev pub cut_short : ℕ → Result Table ℕ → Result Table ℕ
cut_short last (Ok table) = Err last
cut_short last (Err number) = Err number

cut_step : (last number : ℕ) (o : Option Table) (f g : Table → Result Table ℕ) → ((table : Table) → f table ≡ cut_short last (g table)) → or_bad number o f ≡ cut_short last (or_bad number o g)
cut_step last number None f g h = refl
cut_step last number (Some table) f g h = h table

cut_last : (last : ℕ) (o : Option Table) → Err last ≡ cut_short last (or_bad last o (λ table. Ok table))
cut_last last None = refl
cut_last last (Some table) = refl

cut_lines : (parts : List (List ℕ)) (rest : List ℕ) (number last : ℕ) (table : Table) → 0 < length parts → All HasNoNewline parts → Ends (join_with_byte 10 parts) rest → last + 1 ≡ number + length parts
    → table_after number table (map without_cr (split_lines (join_with_byte 10 parts ++ rest))) ≡ cut_short last (table_after number table (map without_cr parts))
cut_lines [] rest number last table some plain ends count = absurd (omega arith)
cut_lines (line ∷ []) rest number last table some plain ends count =
    let same : number ≡ last = omega arith in
    let split = split_after line rest (All-head HasNoNewline line [] plain) in
    let bad = says_nothing (line ++ first_of (split_lines rest)) (no_text line rest ends) in
    rw (split, bad, same) (cut_last last (option_and_then (table_with_line table) (line_says (without_cr line))))
cut_lines (line ∷ next ∷ more) rest number last table some plain ends count =
    let text : List ℕ = join_with_byte 10 (next ∷ more) in
    let split : split_lines (line ++ 10 ∷ (text ++ rest)) ≡ line ∷ split_lines (text ++ rest) = slice_split_at (λ b. b == 10) line 10 (text ++ rest) (λ k d below. ne_eqb _ 10 (All-head HasNoNewline line (next ∷ more) plain k d below)) refl in
    ap (λ bytes. table_after number table (map without_cr (split_lines bytes))) (append_assoc line (10 ∷ text) rest)
    ∙ ap (λ lines. table_after number table (map without_cr lines)) split
    ∙ cut_step last number (option_and_then (table_with_line table) (line_says (without_cr line))) _ _
    (λ after. cut_lines (next ∷ more) rest (number + 1) last after (omega arith) (All-tail HasNoNewline line (next ∷ more) plain) (ends_after line text rest ends) (omega arith))

cut_table : (input : List ℕ) (n : ℕ) → IsValidUpTo input n → table_of input ≡ cut_short (length (split_lines (take n input))) (table_of (take n input))
cut_table input n valid =
    let is = is_split (take n input) in
    let parts : List (List ℕ) = split_lines (take n input) in
    table_of-pieces input
    ∙ ap (λ bytes. table_after 1 empty_table (map without_cr (split_lines bytes))) (sym (take-append-drop n input) ∙ ap (λ text. text ++ drop n input) (sym is.joined))
    ∙ cut_lines parts (drop n input) 1 (length parts) empty_table is.some is.plain (subst (λ text. Ends text (drop n input)) (sym is.joined) (ends_at input n valid)) (omega arith)
    ∙ ap (cut_short (length parts)) (sym (table_of-pieces (take n input)))

-- ---- what is given for the front

all_taken : (n : ℕ) (bytes : List ℕ) → length bytes ≤ n → take n bytes ≡ bytes
all_taken zero [] all = refl
all_taken (suc n) [] all = refl
all_taken zero (b ∷ bytes) all = absurd (omega arith)
all_taken (suc n) (b ∷ bytes) all = ap (λ more. b ∷ more) (all_taken n bytes (omega arith))

pub all_given : (input text : List ℕ) (r : Result Script ScriptError) → text ≡ take (length text) input → length input ≤ length text → GivesScript r (λ s. table_of text ≡ s) → GivesScript r (λ s. table_of input ≡ s)
all_given input text r front all given = subst (λ bytes. GivesScript r (λ s. table_of bytes ≡ s)) (front ∙ all_taken (length text) input all) given

front_cut : (input text : List ℕ) → text ≡ take (length text) input → IsValidUpTo input (length text) → table_of input ≡ cut_short (length (split_lines text)) (table_of text)
front_cut input text front valid = cut_table input (length text) valid ∙ ap (λ bytes. cut_short (length (split_lines bytes)) (table_of bytes)) (sym front)

-- a fault stays what it is
pub fault_given : (input text : List ℕ) (r : Result Script ScriptError) → text ≡ take (length text) input → IsValidUpTo input (length text) → is_ok r ≡ false → GivesScript r (λ s. table_of text ≡ s) → GivesScript r (λ s. table_of input ≡ s)
fault_given input text (Ok script) front valid fault given = cc
fault_given input text (Err (script_errors.Bad number)) front valid fault given = front_cut input text front valid ∙ ap (cut_short (length (split_lines text))) given
fault_given input text (Err script_errors.Memory) front valid fault given = tt

-- and in place of a table comes the line where the text ends
pub line_given : (input text : List ℕ) (r : Result Script ScriptError) → text ≡ take (length text) input → IsValidUpTo input (length text) → is_ok r ≡ true → GivesScript r (λ s. table_of text ≡ s) → table_of input ≡ Err (length (split_lines text))
line_given input text (Ok script) front valid ok given = front_cut input text front valid ∙ ap (cut_short (length (split_lines text))) given
line_given input text (Err e) front valid ok given = cc
