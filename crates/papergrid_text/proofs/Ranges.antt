-- The steps of `measure_lines`.
use Rattle.std.proofs.Common.{◌≡◌, ℕ, ◌+◌, ◌-◌, ◌<◌, ◌≤◌, List, [], ◌∷◌, ◌++◌, length, map, refl, ap, sym, ◌∙◌, arith, suc, drop, get_or, subst, length-append, append_assoc, lit<, Bor}
use Rattle.std.specs.Prelude.{slice_range}
use Rattle.std.specs.List.{join_with_byte}
use Rattle.std.specs.Str.{IsCharBoundary, IsUtf8}
use Rattle.std.proofs.Math.Seq.{take-append_seam, drop-append_seam, get_or-append_seam}
use Rattle.std.proofs.lemmas.List.{append-nil, map-append}
use Rattle.std.proofs.lemmas.List.Splits.{join_with_byte-slice_split}
use Rattle.std.proofs.lemmas.Str.{IsCharBoundary-end, IsCharBoundary-start, IsCharBoundary-before_ascii, IsCharBoundary-after_ascii}
use Rattle.papergrid_text.specs.declared.line_cache.LineRange.{LineRange}
use Rattle.papergrid_text.specs.LineCache.{IsInsideText, line_of_range}
use Rattle.papergrid_text.specs.Text.{with_width, width_of, split_lines}

-- the rest of the text, from `start` on, is the lines left joined by newlines
abbrev pub IsRest : List ℕ → ℕ → List (List ℕ) → Type 0
IsRest text start [] = Unit {0}
IsRest text start (line ∷ more) = (front : List ℕ) × (text ≡ front ++ join_with_byte 10 (line ∷ more)) × (length front ≡ start) × IsCharBoundary text start

-- the part of a text that stands between two others
slice_mid : (front line back text : List ℕ) (start : ℕ) → text ≡ front ++ (line ++ back) → length front ≡ start → slice_range text start (start + length line) ≡ line
slice_mid front line back text start e n =
    let d : drop start text ≡ line ++ back = ap (drop start) e ∙ ap (λ k. drop k (front ++ (line ++ back))) (sym n) ∙ drop-append_seam front (line ++ back) in
    let k : (start + length line) - start ≡ length line = omega arith in
    rw (k, d) (take-append_seam line back)

pub record Stepped (text line : List ℕ) (start : ℕ) (more : List (List ℕ)) : Type 0 where
  pub inside : (width : ℕ) → IsInsideText text (record { start = start; end = start + length line; width = width })
  pub same : slice_range text start (start + length line) ≡ line
  pub left : IsRest text (start + length line + 1) more
  pub fits : start + length line ≤ length text

step : (text line : List ℕ) (start : ℕ) (more : List (List ℕ)) → IsUtf8 text → IsRest text start (line ∷ more) → Stepped text line start more
step text line start [] utf8 (front, e, n, begins) =
    let len : length text ≡ start + length line = ap length e ∙ length-append front line ∙ ap (λ k. k + length line) n in
    record {
      inside = λ width. record { in_order = omega arith; begins = begins; ends = subst (λ k. IsCharBoundary text k) len (IsCharBoundary-end text) };
      same = slice_mid front line [] text start (e ∙ ap (λ l. front ++ l) (sym (append-nil line))) n;
      left = tt;
      fits = omega arith;
    }
step text line start (next ∷ more) utf8 (front, e, n, begins) =
    let rest = join_with_byte 10 (next ∷ more) in
    let len : length text ≡ start + length line + suc (length rest)
    = let a = ap length e in let b = length-append front (line ++ (10 ∷ rest)) in let c = length-append line (10 ∷ rest) in omega arith in
    let regroup_more : (front ++ line) ++ (10 ∷ rest) ≡ ((front ++ line) ++ 10 ∷ []) ++ rest = simp append_assoc in
    let parts : text ≡ (front ++ line) ++ (10 ∷ rest) = e ∙ (simp append_assoc) in
    let at : length (front ++ line) ≡ start + length line = length-append front line ∙ ap (λ k. k + length line) n in
    let newline : get_or text (start + length line) 0 ≡ 10 = ap (λ t. get_or t (start + length line) 0) parts ∙ ap (λ k. get_or ((front ++ line) ++ (10 ∷ rest)) k 0) (sym at) ∙ get_or-append_seam (front ++ line) 10 rest 0 in
    let below : start + length line < length text = omega arith in
    let ascii : get_or text (start + length line) 0 < 128 = rw newline (lit< tt) in
    record {
      inside = λ width. record { in_order = omega arith; begins = begins; ends = IsCharBoundary-before_ascii text (start + length line) below ascii };
      same = slice_mid front line (10 ∷ rest) text start e n;
      left = ((front ++ line) ++ 10 ∷ [], parts ∙ regroup_more, length-append (front ++ line) (10 ∷ []) ∙ ap (λ k. k + 1) at, IsCharBoundary-after_ascii text (start + length line) utf8 below ascii);
      fits = omega arith;
    }

-- the step from one line to the next, where what is left is told by an equation
pub step_by : (text line : List ℕ) (start : ℕ) (left more : List (List ℕ)) → IsUtf8 text → left ≡ line ∷ more → IsRest text start left → Stepped text line start more
step_by text line start left more utf8 e rest = step text line start more utf8 (subst (λ ls. IsRest text start ls) e rest)

pub rest_at_start : (text : List ℕ) (left : List (List ℕ)) → left ≡ split_lines text → IsUtf8 text → IsRest text 0 left
rest_at_start text [] e utf8 = tt
rest_at_start text (line ∷ more) e utf8 = ([], sym (ap (join_with_byte 10) e ∙ join_with_byte-slice_split 10 text), refl, IsCharBoundary-start text utf8)

-- one more range
pub lines_more : (text : List ℕ) (ranges : List LineRange) (range : LineRange) (lines : List (Bor (List ℕ))) (line : Bor (List ℕ)) → map (line_of_range text) ranges ≡ map with_width (map (λ l. l.now) lines) → slice_range text range.start range.end ≡ line.now → range.width ≡ width_of line.now → map (line_of_range text) (ranges ++ range ∷ []) ≡ map with_width (map (λ l. l.now) (lines ++ line ∷ []))
lines_more text ranges range lines line e same is = grind (arith, same, map-append)
