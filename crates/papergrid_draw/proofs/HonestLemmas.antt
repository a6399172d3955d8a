-- Lines that are drawn as those of UTF-8 texts are as wide as is said of them.
use Rattle.std.proofs.Common.{◌≡◌, ◌∙◌, ap, inl, inr, refl, subst, sym, ℕ, ◌+◌, ◌<◌, List, [], ◌∷◌, ◌++◌, append_assoc, arith, drop, get_or, length, length-append, lit<, map}
use Rattle.std.specs.Prelude.{All, IsUtf8}
use Rattle.std.specs.List.{join_with_byte}
use Rattle.std.proofs.Math.Seq.{drop-append_seam, get_or-append_seam, take-append_seam}
use Rattle.std.proofs.lemmas.List.Elements.{All-cons, All-head, All-nil, All-tail}
use Rattle.std.proofs.lemmas.List.Splits.{join_with_byte-slice_split}
use Rattle.std.proofs.lemmas.Str.{IsCharBoundary-after_ascii, IsCharBoundary-before_ascii, IsUtf8-drop, IsUtf8-take}
use Rattle.papergrid_values.specs.declared.position.Position.{Position}
use Rattle.papergrid_text.specs.Text.{split_lines, with_width}
use Rattle.papergrid_layout.specs.Laws.{IsCellAt}
use Rattle.papergrid_layout.specs.Places.{IsVisibleCell}
use Rattle.papergrid_draw.specs.Drawings.{Drawing, layout_of}
use Rattle.papergrid_draw.specs.Laws.{AreLinesAt}
use Rattle.papergrid_draw.specs.Separated.{IsHonest, IsMeasuredLine}
use Rattle.papergrid_draw.proofs.EstimateLemmas.{cell-or-none}

-- a text cut at a newline
record AreUtf8 (line rest : List ℕ) : Type 0 where
  line_is : IsUtf8 line
  rest_is : IsUtf8 rest

cut-utf8 : (line rest : List ℕ) → IsUtf8 (line ++ 10 ∷ rest) → AreUtf8 line rest
cut-utf8 line rest utf8 =
    let text : List ℕ = line ++ 10 ∷ rest in
    let newline : get_or text (length line) 0 ≡ 10 = get_or-append_seam line 10 rest 0 in
    let all : length text ≡ length line + length (10 ∷ rest) = length-append line (10 ∷ rest) in
    let below : length line < length text = omega arith in
    let ascii : get_or text (length line) 0 < 128 = rw newline (lit< tt) in
    let regroup : text ≡ (line ++ 10 ∷ []) ++ rest = sym (append_assoc line (10 ∷ []) rest) in
    let past : length (line ++ 10 ∷ []) ≡ length line + 1 = length-append line (10 ∷ []) in
    let later : drop (length line + 1) text ≡ rest =
    ap (λ n. drop n text) (sym past) ∙ ap (drop (length (line ++ 10 ∷ []))) regroup ∙ drop-append_seam (line ++ 10 ∷ []) rest in
    record {
      line_is = subst IsUtf8 (take-append_seam line (10 ∷ rest)) (IsUtf8-take text (length line) utf8 (IsCharBoundary-before_ascii text (length line) below ascii));
      rest_is = subst IsUtf8 later (IsUtf8-drop text (length line + 1) utf8 (IsCharBoundary-after_ascii text (length line) utf8 below ascii));
    }

-- the lines of a text that is UTF-8 are
pub parts-utf8 : (parts : List (List ℕ)) → IsUtf8 (join_with_byte 10 parts) → All IsUtf8 parts
parts-utf8 [] utf8 = All-nil IsUtf8
parts-utf8 (part ∷ []) utf8 = All-cons IsUtf8 part [] utf8 (All-nil IsUtf8)
parts-utf8 (part ∷ next ∷ more) utf8 =
    let cut = cut-utf8 part (join_with_byte 10 (next ∷ more)) utf8 in
    All-cons IsUtf8 part (next ∷ more) cut.line_is (parts-utf8 (next ∷ more) cut.rest_is)

lines-utf8 : (text : List ℕ) → IsUtf8 text → All IsUtf8 (split_lines text)
lines-utf8 text utf8 = parts-utf8 (split_lines text) (subst IsUtf8 (sym (join_with_byte-slice_split 10 text)) utf8)

-- and with their widths they are as wide as is said
all-measured : (parts : List (List ℕ)) → All IsUtf8 parts → All IsMeasuredLine (map with_width parts)
all-measured [] all = All-nil IsMeasuredLine
all-measured (part ∷ parts) all =
    All-cons IsMeasuredLine (with_width part) (map with_width parts) (All-head IsUtf8 part parts all, refl) (all-measured parts (All-tail IsUtf8 part parts all))

pub texts-honest : {C : Type 0} (d : Drawing) (text : C → List ℕ) (rows : List (List C)) →
    ((p : Position) → IsVisibleCell (layout_of d) p → AreLinesAt text rows p (d.lines p)) →
    ((p : Position) (cell : C) → IsCellAt rows p cell → IsUtf8 (text cell)) → IsHonest d
texts-honest d text rows are utf8 p cell =
    let lines = are p cell in
    elim (cell-or-none rows p) [
      | inl here ↦
          subst (All IsMeasuredLine) (sym (lines.of_cell here.0 here.1))
          (all-measured (split_lines (text here.0)) (lines-utf8 (text here.0) (utf8 p here.0 here.1)))
      | inr none ↦ subst (All IsMeasuredLine) (sym (lines.of_none none)) (All-nil IsMeasuredLine)
    ]
