-- The widths of lines.
use Rattle.std.proofs.Common.{◌≡◌, ℕ, ◌-◌, ◌<◌, List, [], ◌∷◌, ◌++◌, length, map, refl, ap, sym, ◌∙◌, arith, max, get_or, subst, Bor, false}
use Rattle.std.specs.Prelude.{◌==◌}
use Rattle.std.specs.List.{join_with_byte}
use Rattle.std.specs.Str.Lines.{lines_of_parts, strip_carriage_return}
use Rattle.std.proofs.lemmas.Bool.{ne_eqb}
use Rattle.std.proofs.lemmas.List.{map-append}
use Rattle.std.proofs.lemmas.List.Splits.{join_with_byte-slice_split}
use Rattle.std.proofs.lemmas.Str.{chars-nil}
use Rattle.std.proofs.Math.Dec.{eqb-suc-zero}
use Rattle.unicode_width.specs.Width.{str_width}
use Rattle.papergrid_text.specs.Text.{HasNoCrLf, greatest_width, width_of, split_lines, text_dimension, text_width, cached_by_new, with_width}
use Rattle.papergrid_text.specs.LineCache.{answered_lines}
use Rattle.papergrid_text.proofs.Splits.{is_split}

-- ---- one more line

greatest_width-more : (parts : List (List ℕ)) (part : List ℕ) → greatest_width (parts ++ part ∷ []) ≡ max (greatest_width parts) (width_of part)
greatest_width-more [] part = omega arith
greatest_width-more (p ∷ parts) part = let e = greatest_width-more parts part in omega arith

pub greatest_of-more : (lines : List (Bor (List ℕ))) (line : Bor (List ℕ)) (old w new : ℕ) → old ≡ greatest_width (map (λ x. x.now) lines) → w ≡ width_of line.now → new ≡ max old w → new ≡ greatest_width (map (λ x. x.now) (lines ++ line ∷ []))
greatest_of-more lines line old w new e is n = rw map-append (n ∙ ap (λ k. max k w) e ∙ ap (max (greatest_width (map (λ x. x.now) lines))) is ∙ sym (greatest_width-more (map (λ x. x.now) lines) line.now))

-- a text of one line is as wide as the line
pub width_of_one : (text : List ℕ) (lines : List (List ℕ)) → lines ≡ split_lines text → length lines < 2 → greatest_width lines ≡ width_of text
width_of_one text [] e small = let s = (is_split text).some in let n = ap length e in absurd (omega arith)
width_of_one text (line ∷ []) e small =
    let same : line ≡ text = ap (join_with_byte 10) e ∙ (is_split text).joined in
    let m : max (width_of line) 0 ≡ width_of line = omega arith in m ∙ ap width_of same
width_of_one text (line ∷ next ∷ more) e small = absurd (omega arith)

-- and nothing is kept of it
pub none_kept : (lines : List (List ℕ)) → length lines < 2 → cached_by_new lines ≡ []
none_kept [] small = refl
none_kept (line ∷ []) small = refl
none_kept (line ∷ next ∷ more) small = absurd (omega arith)

-- what is answered of the lines kept are all lines of the text
pub all_answered : (text : List ℕ) (lines : List (List ℕ)) → lines ≡ split_lines text → answered_lines text (greatest_width lines) (cached_by_new lines) ≡ map with_width lines
all_answered text [] e = let s = (is_split text).some in let n = ap length e in absurd (omega arith)
all_answered text (line ∷ []) e =
    let w : max (width_of line) 0 ≡ width_of line = omega arith in
    λ i. (sym (ap (join_with_byte 10) e ∙ (is_split text).joined) i, w i) ∷ []
all_answered text (line ∷ next ∷ more) e = refl

-- ---- where there is no CR LF, std's lines are as wide as the lines of the text

pub str_width-nil : str_width false [] ≡ 0
unfolding str_width
str_width-nil = refl

pub width_of-nil : width_of [] ≡ 0
width_of-nil = ap (str_width false) chars-nil ∙ str_width-nil

no_crlf_tail : (xs ys : List ℕ) → HasNoCrLf (xs ++ ys) → HasNoCrLf ys
no_crlf_tail [] ys h = h
no_crlf_tail (x ∷ xs) ys h = no_crlf_tail xs ys (λ front back e. h (x ∷ front) back (ap (λ zs. x ∷ zs) e))

no_cr_end : (xs rest : List ℕ) → HasNoCrLf (xs ++ (10 ∷ rest)) → (get_or xs (length xs - 1) 0 == 13) ≡ false
no_cr_end [] rest h = refl
no_cr_end (x ∷ []) rest h = ne_eqb x 13 (λ e. h [] rest (ap (λ y. y ∷ 10 ∷ rest) e))
no_cr_end (x ∷ y ∷ xs) rest h = grind (arith, no_crlf_tail, no_cr_end (y ∷ xs) rest (no_crlf_tail (x ∷ []) (y ∷ xs ++ (10 ∷ rest)) h))

strip_none : (xs rest : List ℕ) → HasNoCrLf (xs ++ (10 ∷ rest)) → strip_carriage_return xs ≡ xs
strip_none xs rest h = rw (no_cr_end xs rest h) refl

same_widths : (parts : List (List ℕ)) → HasNoCrLf (join_with_byte 10 parts) → greatest_width (lines_of_parts parts) ≡ greatest_width parts
same_widths [] h = refl
same_widths ([] ∷ []) h = let e = width_of-nil in omega arith
same_widths ((x ∷ xs) ∷ []) h = rw (eqb-suc-zero (length xs)) refl
same_widths (x ∷ y ∷ more) h =
    let rest : List ℕ = join_with_byte 10 (y ∷ more) in
    let others = same_widths (y ∷ more) (no_crlf_tail (10 ∷ []) rest (no_crlf_tail x (10 ∷ rest) h)) in
    omega (arith, ap width_of (strip_none x rest h))

pub same_dimension : (text : List ℕ) → HasNoCrLf text → text_dimension text ≡ (length (split_lines text), text_width text)
same_dimension text h =
    let same = same_widths (split_lines text) (subst HasNoCrLf (sym (join_with_byte-slice_split 10 text)) h) in
    ap (λ w. (length (split_lines text), w)) (sym same)
