-- The first of std's lines, and the lines of cells that are made of other cells.
use Rattle.std.proofs.Common.{◌≡◌, ◌≢◌, ◌∙◌, ℕ, Bool, true, false, List, [], ◌∷◌, None, Option, Some, ap, map, refl, sym, take, arith}
use Rattle.std.specs.Prelude.{MatchOption, option_and_then, option_map, slice_get, slice_index_or, if◌then◌else◌}
use Rattle.std.specs.Iterator.{AlwaysYields}
use Rattle.std.specs.List.{All}
use Rattle.std.specs.Str.Lines.{lines_of_parts}
use Rattle.std.proofs.lemmas.List.Elements.{All-cons, All-head, All-nil, All-take}
use Rattle.std.proofs.lemmas.Option.{slice_get-map}
use Rattle.papergrid_values.specs.declared.position.Position.{Position}
use Rattle.papergrid_text.specs.Text.{HasNoNewline, IsLines, split_lines, with_width}
use Rattle.papergrid_text.proofs.Splits.{is_split, only_split}
use Rattle.papergrid_layout.specs.Tables.{TableParts}
use Rattle.papergrid_draw.specs.Contents.{lines_of}
use Rattle.papergrid_draw.specs.Drawings.{drawn_of}
use Rattle.papergrid_draw.specs.Cells.{lines_at, text_lines}
use Rattle.papergrid.specs.Compact.{first_line, first_text}
use Rattle.papergrid.specs.Sized.{drawing_of_rows}

-- the first item of what yields a list, or none
pub first_item : {S A B : Type 0} (steps : S → Option A → S → Type 0) (v : A → B) (s t : S) (ys : List B) (r : Option A) (d : B) →
    AlwaysYields steps v s ys → steps s r t → MatchOption r (d ≡ slice_index_or ys 0 d) (λ x. v x ≡ slice_index_or ys 0 d)
first_item steps v s t [] None d yields step = refl
first_item steps v s t [] (Some x) d yields step = absurd (yields x t step)
first_item steps v s t (y ∷ ys) None d yields step = absurd (yields.0 t step)
first_item steps v s t (y ∷ ys) (Some x) d yields step = (yields.1 x t step).0

-- ---- a first line has no newline

plain_or_none : (empty : Bool) (x : List ℕ) → HasNoNewline x → HasNoNewline (slice_index_or (if empty then [] else (x ∷ [])) 0 [])
plain_or_none true x plain = All-nil (λ b. b ≢ 10)
plain_or_none false x plain = plain

plain_or_cut : (cuts : Bool) (n : ℕ) (x : List ℕ) → HasNoNewline x → HasNoNewline (if cuts then take n x else x)
plain_or_cut true n x plain = All-take (λ b. b ≢ 10) n x plain
plain_or_cut false n x plain = plain

first_plain : (parts : List (List ℕ)) → All HasNoNewline parts → HasNoNewline (slice_index_or (lines_of_parts parts) 0 [])
first_plain [] plain = All-nil (λ b. b ≢ 10)
first_plain (x ∷ []) plain = plain_or_none _ x (All-head HasNoNewline x [] plain)
first_plain (x ∷ y ∷ more) plain = plain_or_cut _ _ x (All-head HasNoNewline x (y ∷ more) plain)

-- so it is the one line of itself
pub one_line : (text : List ℕ) → first_line text ≡ text_lines (first_text text)
one_line text =
    let line : List ℕ = first_text text in
    let is : IsLines line (line ∷ []) = record {
      some = omega arith;
      plain = All-cons HasNoNewline line [] (first_plain (split_lines text) (is_split text).plain) (All-nil HasNoNewline);
      joined = refl;
    } in
    ap (map with_width) (only_split line (line ∷ []) is)

-- ---- cells of cells

module _ {A B : Type 0} (of : A → B) (lines : B → List (List ℕ × ℕ)) (others : A → List (List ℕ × ℕ)) (same : (x : A) → others x ≡ lines (of x)) where
  lines_in_cell : (cell : Option A) → lines_of others cell ≡ lines_of lines (option_map of cell)
  lines_in_cell None = refl
  lines_in_cell (Some cell) = same cell

  lines_in_row : (column : ℕ) (row : Option (List A)) →
      lines_of others (option_and_then (λ cells. slice_get cells column) row)
      ≡ lines_of lines (option_and_then (λ cells. slice_get cells column) (option_map (map of) row))
  lines_in_row column None = refl
  lines_in_row column (Some row) = lines_in_cell (slice_get row column) ∙ sym (ap (lines_of lines) (slice_get-map of row column))

  -- where cells have the lines of what is made of them, so do rows of them
  pub lines_of_made : (rows : List (List A)) (p : Position) → lines_at others rows p ≡ lines_at lines (map (map of) rows) p
  lines_of_made rows p = grind (arith, lines_in_row, slice_get-map)

  -- and the drawings of the rows are one
  pub same_drawing : (rows : List (List A)) (parts : TableParts) (color : Position → Option (List ℕ × List ℕ)) →
      drawing_of_rows others parts rows color ≡ drawing_of_rows lines parts (map (map of) rows) color
  same_drawing rows parts color = λ i. drawn_of (λ _ p. lines_of_made rows p i) (λ _. color) parts rows
