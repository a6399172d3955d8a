-- Tables with the sizes of a dimension, and why they are not drawn.
use Rattle.std.proofs.Common.{◌≡◌, ◌∙◌, ℕ, Global, List, Option, Vec, length, map, refl, subst, sym, arith}
use Rattle.std.proofs.lemmas.List.{length-map}
use Rattle.papergrid_values.specs.declared.position.Position.{Position}
use Rattle.papergrid_config.specs.declared.spanned.SpannedConfig.{SpannedConfig}
use Rattle.papergrid_layout.specs.Tables.{HasSizes, TableParts}
use Rattle.papergrid_draw.specs.Drawings.{Drawing, drawn_of}
use Rattle.papergrid_draw.specs.Cells.{lines_at, text_lines}
use Rattle.papergrid.specs.Sized.{drawing_of_rows, parts_of, texts_at}
use Rattle.papergrid.specs.TextRows.{IsTextDrawing}
use Rattle.papergrid.specs.declared.held.HeldTable.{HeldTable}
use Rattle.papergrid.proofs.HeldLemmas.{lines_of_texts}

-- what holds of a table and its drawing holds of those with equal counts, rows and colours
pub drawn_same : {T C K : Type 0} (lines : T → List (List ℕ × ℕ)) (texts : K → List ℕ × List ℕ) (color_at : C → Position → Option K)
    (config : SpannedConfig) (widths heights : ℕ → ℕ) (P : TableParts → Drawing → Type 0)
    (shape other_shape : ℕ × ℕ) (rows others : List (Vec T Global)) (colors other_colors : C) →
    shape ≡ other_shape → rows ≡ others → colors ≡ other_colors →
    (let parts = parts_of config widths heights shape in
    P parts (drawing_of_rows lines parts (map (λ row. row.items) rows) (texts_at texts color_at colors))) →
    (let parts = parts_of config widths heights other_shape in
    P parts (drawing_of_rows lines parts (map (λ row. row.items) others) (texts_at texts color_at other_colors)))
drawn_same {T = T} {C = C} lines texts color_at config widths heights P shape other_shape rows others colors other_colors s r c is =
    let drawn : ℕ × ℕ → List (Vec T Global) → C → Type 0 = λ n held k.
    P (parts_of config widths heights n)
    (drawing_of_rows lines (parts_of config widths heights n) (map (λ row. row.items) held) (texts_at texts color_at k)) in
    subst (λ n. drawn n others other_colors) s (subst (λ held. drawn shape held other_colors) r (subst (λ k. drawn shape rows k) c is))

-- what holds of a table of texts that are held and its drawing holds of the rows of cells
module _ {T C K : Type 0} (lines_in : List ℕ → List (List ℕ × ℕ)) (text : T → List ℕ) (texts : K → List ℕ × List ℕ) (color_at : C → Position → Option K)
    (config : SpannedConfig) (widths heights : ℕ → ℕ) (P : TableParts → Drawing → Type 0)
    (count columns other_columns : ℕ) (rows others : List (Vec T Global)) (colors : C) where
  pub drawn_rows : count ≡ length others → columns ≡ other_columns → rows ≡ others →
      (let parts = parts_of config widths heights (count, columns) in
      P parts (drawn_of (λ held. lines_at lines_in (map (λ row. map text row.items) held)) (λ _. texts_at texts color_at colors) parts rows)) →
      (let parts = parts_of config widths heights (length (map (λ row. row.items) others), other_columns) in
      P parts (drawing_of_rows (λ cell. lines_in (text cell)) parts (map (λ row. row.items) others) (texts_at texts color_at colors)))
  drawn_rows n k r is = grind (arith, lines_of_texts, length-map)

-- the drawing of rows of texts that are held is one of the rows yielded
pub text_drawing : {T C K : Type 0} (text : T → List ℕ) (texts : K → List ℕ × List ℕ) (color_at : C → Position → Option K)
    (config : SpannedConfig) (widths heights : ℕ → ℕ) (tells : List (List T) → Type 0)
    (count columns other_columns : ℕ) (rows others : List (Vec T Global)) (colors : C) →
    count ≡ length others → columns ≡ other_columns → rows ≡ others → tells (map (λ row. row.items) others) →
    IsTextDrawing text tells other_columns config widths heights (texts_at texts color_at colors)
    (drawn_of (λ held. lines_at text_lines (map (λ row. map text row.items) held)) (λ _. texts_at texts color_at colors) (parts_of config widths heights (count, columns)) rows)
text_drawing {T = T} text texts color_at config widths heights tells count columns other_columns rows others colors n k r told =
    let d = drawn_of (λ held. lines_at text_lines (map (λ (row : Vec T Global). map text row.items) held)) (λ _. texts_at texts color_at colors)
    (parts_of config widths heights (count, columns)) rows in
    record {
      cells = map (λ (row : Vec T Global). row.items) others;
      told = told;
      is = drawn_rows text_lines text texts color_at config widths heights (λ parts drawn. d ≡ drawn) count columns other_columns rows others colors n k r refl;
    }

-- so is that of a table that is held, of its shape, its rows and the colours that are lent with them
pub held_drawing : {T C K : Type 0} (text : T → List ℕ) (texts : K → List ℕ × List ℕ) (color_at : C → Position → Option K)
    (config : SpannedConfig) (widths heights : ℕ → ℕ) (tells : List (List T) → Type 0) (columns : ℕ)
    (held : HeldTable T) (shape : ℕ × ℕ) (rows : List (Vec T Global)) (lent colors : C) →
    tells (map (λ row. row.items) held.rows.items) → held.columns ≡ columns →
    shape ≡ (length held.rows.items, held.columns) → rows ≡ held.rows.items → lent ≡ colors →
    IsTextDrawing text tells columns config widths heights (texts_at texts color_at colors)
    (drawn_of (λ h. lines_at text_lines (map (λ row. map text row.items) h)) (λ _. texts_at texts color_at lent) (parts_of config widths heights shape) rows)
held_drawing {T = T} {C = C} text texts color_at config widths heights tells columns held shape rows lent colors told wide s r l =
    let drawn : ℕ × ℕ → C → Drawing = λ n k. drawn_of (λ h. lines_at text_lines (map (λ (row : Vec T Global). map text row.items) h))
    (λ _. texts_at texts color_at k) (parts_of config widths heights n) rows in
    grind (arith, drawn, text_drawing)

-- sizes for rows that are yielded are sizes for those that are held
pub sized_rows : {A B : Type 0} (has : ℕ → Type 0) (held : A → B) (rows : List A) (count : ℕ) →
    count ≡ length rows → HasSizes has (length (map held rows)) → HasSizes has count
sized_rows has held rows count same = subst (HasSizes has) (length-map rows held ∙ sym same)
