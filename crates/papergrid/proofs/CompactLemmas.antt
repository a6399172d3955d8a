-- The drawing of a table whose cells are all alike.
use Rattle.std.proofs.Common.{◌≡◌, ◌≢◌, ◌⊎◌, ◌∙◌, ◌≤◌, ℕ, zero, suc, Global, List, Option, Vec, ap, arith, inl, inr, length, map, refl, subst, sym, rules}
use Rattle.std.specs.Prelude.{slice_index}
use Rattle.std.specs.List.{range_with_len}
use Rattle.std.specs.declared.alloc.AllocError.{AllocError}
use Rattle.std.proofs.lemmas.List.{length-map}
use Rattle.std.proofs.lemmas.List.Sums.{sum_by-cons}
use Rattle.papergrid_values.specs.declared.position.Position.{Position}
use Rattle.papergrid_values.specs.declared.compact.CompactConfig.{CompactConfig}
use Rattle.papergrid_layout.specs.Tables.{IsTotalTooLarge}
use Rattle.papergrid_layout.specs.Places.{sum_from}
use Rattle.papergrid_draw.specs.Drawings.{Drawing, drawn_of, layout_of}
use Rattle.papergrid_draw.specs.declared.error.DrawError.{DrawError}
use Rattle.papergrid_draw.specs.declared.error.DrawError.TheVariants.{Memory, TooLarge, Write}
use Rattle.papergrid_draw.specs.Sinks.{IsRefusal}
use Rattle.papergrid_draw.specs.Cells.{lines_at}
use Rattle.papergrid.specs.Compact.{AreRowsTooHigh, IsCompactDrawing, IsCompactTable, compact_height, first_line}
use Rattle.papergrid.specs.Sized.{drawing_of_rows, parts_of, texts_at}
use Rattle.papergrid.specs.Printed.{IsPrintFault}
use Rattle.papergrid.specs.declared.held.CompactTable.{CompactTable}
use Rattle.papergrid.proofs.GridLemmas.{drawn_rows}

-- heights that are equal where there is a row
heights_same : (n h k : ℕ) → (n ≢ 0 → h ≡ k) → map (λ _. h) (range_with_len 0 n) ≡ map (λ _. k) (range_with_len 0 n)
heights_same zero h k same = refl
heights_same (suc n) h k same = ap (λ height. map (λ _. height) (range_with_len 0 (suc n))) (same (λ e. omega (arith, e)))

-- one row is no higher than all
one_of_all : (h n : ℕ) → n ≢ 0 → h ≤ sum_from (slice_index (map (λ _. h) (range_with_len 0 n))) 0 (length (map (λ _. h) (range_with_len 0 n)))
one_of_all h zero some = absurd (some refl)
one_of_all h (suc n) some = search (rules, sum_by-cons)

module _ {T : Type 0} (text : T → List ℕ) (tells : List (List T) → Type 0) (columns : ℕ) (compact : CompactConfig) (widths : ℕ → ℕ) where
  -- the drawing of a compact table is one of the rows yielded
  compact_drawing : {C K : Type 0} (texts : K → List ℕ × List ℕ) (color_at : C → Position → Option K) (colors : C)
      (table : CompactTable T) (rows : List (Vec T Global)) →
      IsCompactTable tells compact columns table → rows ≡ table.held.rows.items →
      IsCompactDrawing text tells columns compact widths (texts_at texts color_at colors)
      (drawn_of (λ held. lines_at first_line (map (λ row. map text row.items) held)) (λ _. texts_at texts color_at colors)
      (parts_of table.config widths (λ _. table.height) (length table.held.rows.items, table.held.columns)) rows)
  compact_drawing texts color_at colors table rows is r =
      let held = table.held in
      let cells : List (List T) = map (λ (row : Vec T Global). row.items) held.rows.items in
      let here : Drawing = drawn_of (λ held. lines_at first_line (map (λ (row : Vec T Global). map text row.items) held)) (λ _. texts_at texts color_at colors)
      (parts_of table.config widths (λ _. table.height) (length held.rows.items, held.columns)) rows in
      let drawn : List ℕ → Drawing = λ heights. drawing_of_rows (λ cell. first_line (text cell))
      (record { config = table.config; widths = map widths (range_with_len 0 columns); heights = heights }) cells (texts_at texts color_at colors) in
      let count_of : length cells ≡ length held.rows.items = length-map held.rows.items (λ (row : Vec T Global). row.items) in
      record {
        config = table.config;
        made = is.made;
        cells = cells;
        told = is.told;
        is = subst (λ heights. here ≡ drawn heights)
            (heights_same (length cells) table.height (compact_height compact) (λ some. is.has_height (λ none. some (count_of ∙ none))))
            (drawn_rows first_line text texts color_at table.config widths (λ _. table.height) (λ _ d. here ≡ d)
            (length held.rows.items) held.columns columns rows held.rows.items colors refl is.has_columns r refl);
      }

  -- so is that of its shape, its rows, the height of each and the colours that are lent with them
  pub compact_held : {C K : Type 0} (texts : K → List ℕ × List ℕ) (color_at : C → Position → Option K)
      (table : CompactTable T) (wide : ℕ → ℕ) (height : ℕ) (shape : ℕ × ℕ) (rows : List (Vec T Global)) (lent colors : C) →
      IsCompactTable tells compact columns table → wide ≡ widths → height ≡ table.height →
      shape ≡ (length table.held.rows.items, table.held.columns) → rows ≡ table.held.rows.items → lent ≡ colors →
      IsCompactDrawing text tells columns compact widths (texts_at texts color_at colors)
      (drawn_of (λ held. lines_at first_line (map (λ row. map text row.items) held)) (λ _. texts_at texts color_at lent)
      (parts_of table.config wide (λ _. height) shape) rows)
  compact_held {C = C} texts color_at table wide height shape rows lent colors is w h s r l =
      let drawn : (ℕ → ℕ) → ℕ → ℕ × ℕ → C → Drawing = λ size high n k. drawn_of (λ held. lines_at first_line (map (λ (row : Vec T Global). map text row.items) held))
      (λ _. texts_at texts color_at k) (parts_of table.config size (λ _. high) n) rows in
      let Is : Drawing → Type 0 = IsCompactDrawing text tells columns compact widths (texts_at texts color_at colors) in
      let whole : ℕ × ℕ = (length table.held.rows.items, table.held.columns) in
      subst (λ size. Is (drawn size height shape lent)) (sym w) (subst (λ high. Is (drawn widths high shape lent)) (sym h)
      (subst (λ n. Is (drawn widths table.height n lent)) (sym s)
      (subst (λ k. Is (drawn widths table.height whole k)) (sym l) (compact_drawing texts color_at colors table rows is r))))

  -- rows that are higher than the greatest `usize` are the rows of a drawing that is too large
  pub drawn_too_large : (color : Position → Option (List ℕ × List ℕ)) → AreRowsTooHigh tells compact →
      (d : Drawing) × IsCompactDrawing text tells columns compact widths color d × IsTotalTooLarge (layout_of d)
  drawn_too_large color is =
      let all = one_of_all (compact_height compact) (length is.cells) is.some in (
        drawing_of_rows (λ cell. first_line (text cell))
            (parts_of is.config widths (λ _. compact_height compact) (length is.cells, columns)) is.cells color,
        record { config = is.config; made = is.made; cells = is.cells; told = is.told; is = refl },
        inr (omega (arith, all, is.high)),
      )

  -- so a refusal has this reason
  pub refused : (color : Position → Option (List ℕ × List ℕ)) (e : DrawError) →
      ((error : AllocError) × (e ≡ Memory error)) ⊎ ((e ≡ TooLarge) × AreRowsTooHigh tells compact) →
      IsRefusal e → IsPrintFault (IsCompactDrawing text tells columns compact widths color) e
  refused color e (inl (error, is)) named = absurd (subst IsRefusal is named)
  refused color e (inr (is, high)) named = let drawn = drawn_too_large color high in (drawn.0, drawn.1, inl (is, drawn.2))

  -- and no write has failed
  pub unwritten : (e : DrawError) → ((error : AllocError) × (e ≡ Memory error)) ⊎ ((e ≡ TooLarge) × AreRowsTooHigh tells compact) → e ≢ Write
  unwritten e (inl (error, is)) = λ write. let never : Memory error ≡ Write = sym is ∙ write in cc never
  unwritten e (inr (is, high)) = λ write. let never : TooLarge ≡ Write = sym is ∙ write in cc never
