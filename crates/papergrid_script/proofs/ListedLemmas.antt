-- What settings make, told by lists of what stands where: of a script that is written out these can be computed.
use Rattle.std.proofs.Common.{◌≡◌, ℕ, Bool, List, [], ◌∷◌, ◌++◌, Option, Some, None, map, length, refl, sym, ap, ◌∙◌, ◌==◌, arith}
use Rattle.std.specs.Prelude.{◌||◌, Result, Ok, Err, is_some, flat_map, not, reverse, unwrap_or}
use Rattle.std.specs.Cmp.{IsTotalOrder, nat_cmp_total}
use Rattle.std.specs.FinMap.{FinMap, contains_key, empty, entries, find, get, keys, put, get-entries, entries-insert, len-empty, len-entries}
use Rattle.std.specs.List.{list_any}
use Rattle.std.specs.Ordering.{nat_cmp}
use Rattle.std.specs.declared.cmp.Ordering.{Ordering}
use Rattle.papergrid_values.specs.Borders.{has_left, has_right, has_top, has_bottom, has_horizontal, has_vertical}
use Rattle.papergrid_values.specs.declared.borders.Borders.{Borders}
use Rattle.papergrid_values.specs.declared.horizontal_line.HorizontalLine.{HorizontalLine}
use Rattle.papergrid_values.specs.declared.indent.Indent.{Indent}
use Rattle.papergrid_values.specs.declared.position.Position.{Position}
use Rattle.papergrid_values.specs.declared.sides.Sides.{Sides}
use Rattle.papergrid_values.specs.declared.vertical_line.VerticalLine.{VerticalLine}
use Rattle.papergrid_values.specs.declared.direction.Direction.{Direction}
use Rattle.papergrid_values.specs.declared.direction.Direction.TheVariants.{Columns, Rows}
use Rattle.papergrid_tables.specs.BorderCalls.{BorderCall}
use Rattle.papergrid_values.specs.MapKeys.{position_cmp}
use Rattle.papergrid_tables.specs.ForProofs.LineSearch.{ends_at_column, ends_at_row, vertical_line_at, horizontal_line_at}
use Rattle.papergrid_tables.specs.ForProofs.LineTested.{horizontal_tested, line_test, vertical_tested}
use Rattle.papergrid_values.proofs.Tabulated.{tabulation, with_value}
use Rattle.papergrid_tables.proofs.Made.{borders_made, named_columns, named_positions, named_rows}
use Rattle.papergrid_tables.specs.BorderParts.{at_ends, parts_from}
use Rattle.papergrid_maps.proofs.Made.{named_anchors, spans_made}
use Rattle.papergrid_maps.specs.Spans.{SpanCall, Spans, from_two, span_along}
use Rattle.papergrid_maps.specs.ForProofs.SpanVisible.{seen_visible, visible_seen, visible_test}
use Rattle.papergrid_maps.specs.ForProofs.VisibleSearch.{is_hidden_by}
use Rattle.papergrid_maps.specs.Visible.{is_visible}
use Rattle.papergrid_maps.proofs.SpanSearch.{effective_span}
use Rattle.papergrid_values.proofs.KeyLemmas.{position_total}
use Rattle.papergrid_values.proofs.ResultLemmas.{same_answer}
use Rattle.papergrid_config.specs.Parts.{character_calls, span_calls}
use Rattle.papergrid_config.specs.declared.setting.Setting.{Setting}
use Rattle.papergrid_maps.specs.Grids.{Grid, size_after, size_before}
use Rattle.papergrid_tables.specs.LineTests.{line_along}
use Rattle.papergrid_tracks.specs.declared.sizing.Sizing.{Sizing}
use Rattle.papergrid_script.specs.declared.answer.RunEnd.{RunEnd}
use Rattle.papergrid_script.specs.declared.answer.RunEnd.TheVariants.{BadScript}
use Rattle.papergrid_script.proofs.OutcomeLemmas.{outcome-computed, outcome-only}
use Rattle.papergrid_script.specs.Estimates.{Estimate}
use Rattle.papergrid_script.proofs.Estimated.{estimate_by, estimate_of, outcome_of}
use Rattle.papergrid_config.proofs.Made.{grid_of, padding_of}
use Rattle.papergrid_walk.specs.Measures.{text_measure}
use Rattle.papergrid_script.specs.Outputs.{bad_line_text, estimate_end, estimate_text, outcome_end, outcome_text}
use Rattle.papergrid_script.specs.Rows.{GivesBy}
use Rattle.papergrid_script.specs.Scripts.{Table}
use Rattle.papergrid_script.specs.ForProofs.Read.{table_of}

no_entries : {A : Type 0} (es : List A) → length es ≡ 0 → es ≡ []
no_entries [] e = refl
no_entries (x ∷ es) e = absurd (omega arith)

module _ {K X : Type 0} (R : K → K → Ordering) where
  abbrev pub with_entry : List (K × X) → K → Option X → List (K × X)
  with_entry es key None = es
  with_entry es key (Some v) = put R key v es

  -- the entries of a tabulated map
  abbrev pub listed : (K → Option X) → List K → List (K × X)
  listed value [] = []
  listed value (key ∷ keys) = with_entry (listed value keys) key (value key)

  entries-with_value : IsTotalOrder R → (m : FinMap R X) (key : K) (o : Option X) → entries (with_value m key o) ≡ with_entry (entries m) key o
  entries-with_value total m key None = refl
  entries-with_value total m key (Some v) = entries-insert total m key v

  entries-tabulated : IsTotalOrder R → (value : K → Option X) (keys : List K) → entries (tabulation {R = R} value keys) ≡ listed value keys
  entries-tabulated total value [] = no_entries _ (sym (len-entries (empty {R = R})) ∙ len-empty R X)
  entries-tabulated total value (key ∷ keys) = grind (arith, entries-with_value, tabulation, entries-tabulated total value keys)

-- ---- lines, by lists

-- by the value of the whole table, the frame, the lines across that end there, a line of its own, the edges and the corners
abbrev line_by : {T A L : Type 0} → Option T → Bool → (Option A → Bool) → List (ℕ × A) → List (ℕ × L) → (Position → ℕ) → List (Position × T) → List (Position × T) → ℕ → Bool
line_by global framed ends across lines number edges corners position =
    is_some global
    || (framed
    || (list_any (λ k. ends (find nat_cmp k across)) (map (λ e. e.0) across)
    || (is_some (find nat_cmp position lines)
    || (list_any (λ p. number p == position) (map (λ e. e.0) edges) || list_any (λ p. number p == position) (map (λ e. e.0) corners)))))

line-entries : {T A L : Type 0} (global : Option T) (framed : Bool) (ends : Option A → Bool) (across : FinMap nat_cmp A) (lines : FinMap nat_cmp L) (number : Position → ℕ) (edges corners : FinMap position_cmp T) (position : ℕ)
    → (is_some global || (framed || (list_any (λ k. ends (get across k)) (keys across) || (contains_key lines position || (list_any (λ p. number p == position) (keys edges) || list_any (λ p. number p == position) (keys corners))))))
    ≡ line_by global framed ends (entries across) (entries lines) number (entries edges) (entries corners) position
line-entries global framed ends across lines number edges corners position = λ i.
    is_some global
    || (framed
    || (list_any (λ k. ends (get-entries across k i)) (map (λ e. e.0) (entries across))
    || (is_some (get-entries lines position i)
    || (list_any (λ p. number p == position) (map (λ e. e.0) (entries edges)) || list_any (λ p. number p == position) (map (λ e. e.0) (entries corners))))))

module _ {T : Type 0} (global : Option T) (frame : Borders T) where
  abbrev pub vertical_by : List (ℕ × HorizontalLine T) → List (ℕ × VerticalLine T) → List (Position × T) → List (Position × T) → ℕ → ℕ → Bool
  vertical_by across lines edges corners c count =
      line_by global (at_ends c count (has_left frame) (has_right frame) (has_vertical frame)) (ends_at_column c count) across lines (λ p. p.col) edges corners c

  abbrev pub horizontal_by : List (ℕ × VerticalLine T) → List (ℕ × HorizontalLine T) → List (Position × T) → List (Position × T) → ℕ → ℕ → Bool
  horizontal_by across lines edges corners r count =
      line_by global (at_ends r count (has_top frame) (has_bottom frame) (has_horizontal frame)) (ends_at_row r count) across lines (λ p. p.row) edges corners r

-- ---- the lines that calls make

module _ {T : Type 0} (calls : List (BorderCall T)) where
  abbrev older : List (BorderCall T)
  older = reverse calls

  abbrev rows_listed : List (ℕ × HorizontalLine T)
  rows_listed = listed nat_cmp (parts_from older).horizontal_line (flat_map named_rows older)

  abbrev columns_listed : List (ℕ × VerticalLine T)
  columns_listed = listed nat_cmp (parts_from older).vertical_line (flat_map named_columns older)

  abbrev horizontal_edges_listed : List (Position × T)
  horizontal_edges_listed = listed position_cmp (parts_from older).horizontal_edge (flat_map named_positions older)

  abbrev vertical_edges_listed : List (Position × T)
  vertical_edges_listed = listed position_cmp (parts_from older).vertical_edge (flat_map named_positions older)

  abbrev corners_listed : List (Position × T)
  corners_listed = listed position_cmp (parts_from older).corner (flat_map named_positions older)

  abbrev pub vertical_listed : ℕ → ℕ → Bool
  vertical_listed = vertical_by (parts_from older).global (parts_from older).frame rows_listed columns_listed vertical_edges_listed corners_listed

  abbrev pub horizontal_listed : ℕ → ℕ → Bool
  horizontal_listed = horizontal_by (parts_from older).global (parts_from older).frame columns_listed rows_listed horizontal_edges_listed corners_listed

  rows_are : entries (borders_made calls).horizontal_lines ≡ rows_listed
  rows_are = entries-tabulated nat_cmp nat_cmp_total (parts_from older).horizontal_line (flat_map named_rows older)

  columns_are : entries (borders_made calls).vertical_lines ≡ columns_listed
  columns_are = entries-tabulated nat_cmp nat_cmp_total (parts_from older).vertical_line (flat_map named_columns older)

  corners_are : entries (borders_made calls).corners ≡ corners_listed
  corners_are = entries-tabulated position_cmp position_total (parts_from older).corner (flat_map named_positions older)

  made_vertical : (c count : ℕ) → vertical_line_at (borders_made calls) c count ≡ vertical_listed c count
  made_vertical c count =
      let made = borders_made calls in
      line-entries made.global (at_ends c count (has_left made.frame) (has_right made.frame) (has_vertical made.frame)) (ends_at_column c count) made.horizontal_lines made.vertical_lines (λ p. p.col) made.vertical_edges made.corners c
      ∙ (λ i. vertical_by (parts_from older).global (parts_from older).frame (rows_are i) (columns_are i) (entries-tabulated position_cmp position_total (parts_from older).vertical_edge (flat_map named_positions older) i) (corners_are i) c count)

  made_horizontal : (r count : ℕ) → horizontal_line_at (borders_made calls) r count ≡ horizontal_listed r count
  made_horizontal r count =
      let made = borders_made calls in
      line-entries made.global (at_ends r count (has_top made.frame) (has_bottom made.frame) (has_horizontal made.frame)) (ends_at_row r count) made.vertical_lines made.horizontal_lines (λ p. p.row) made.horizontal_edges made.corners r
      ∙ (λ i. horizontal_by (parts_from older).global (parts_from older).frame (columns_are i) (rows_are i) (entries-tabulated position_cmp position_total (parts_from older).horizontal_edge (flat_map named_positions older) i) (corners_are i) r count)

-- ---- spans, by lists

abbrev pub span_by : List (Position × ℕ) → Position → ℕ
span_by spans p = unwrap_or (find position_cmp p spans) 1

abbrev pub spans_by : List (Position × ℕ) → List (Position × ℕ) → Direction → Position → ℕ
spans_by columns rows Columns p = span_by columns p
spans_by columns rows Rows p = span_by rows p

abbrev pub shows_by : List (Position × ℕ) → List (Position × ℕ) → Position → Bool
shows_by columns rows p = not (is_hidden_by (spans_by columns rows) (map (λ e. e.0) columns ++ map (λ e. e.0) rows) p)

spans-entries : (held : Spans) (direction : Direction) (p : Position) → span_along held direction p ≡ spans_by (entries held.columns) (entries held.rows) direction p
spans-entries held Columns p = λ i. unwrap_or (get-entries held.columns p i) 1
spans-entries held Rows p = λ i. unwrap_or (get-entries held.rows p i) 1

shows-entries : (held : Spans) (p : Position) → is_visible held p ≡ shows_by (entries held.columns) (entries held.rows) p
shows-entries held p =
    same_answer _ _ (visible_test held p).1 (seen_visible held p, visible_seen held p)
    ∙ (λ i. not (is_hidden_by (λ d q. spans-entries held d q i)
    (map (λ e. e.0) (entries held.columns) ++ map (λ e. e.0) (entries held.rows)) p))

module _ (calls : List SpanCall) where
  abbrev anchors : List Position
  anchors = flat_map named_anchors (reverse calls)

  abbrev pub column_spans_listed : List (Position × ℕ)
  column_spans_listed = listed position_cmp (λ p. from_two (effective_span Columns p calls)) anchors

  abbrev pub row_spans_listed : List (Position × ℕ)
  row_spans_listed = listed position_cmp (λ p. from_two (effective_span Rows p calls)) anchors

  column_spans_are : entries (spans_made calls).columns ≡ column_spans_listed
  column_spans_are = entries-tabulated position_cmp position_total (λ p. from_two (effective_span Columns p calls)) anchors

  row_spans_are : entries (spans_made calls).rows ≡ row_spans_listed
  row_spans_are = entries-tabulated position_cmp position_total (λ p. from_two (effective_span Rows p calls)) anchors

  made_shows : (p : Position) → is_visible (spans_made calls) p ≡ shows_by column_spans_listed row_spans_listed p
  made_shows p = shows-entries (spans_made calls) p ∙ (λ i. shows_by (column_spans_are i) (row_spans_are i) p)

  made_spans : (direction : Direction) (p : Position) → span_along (spans_made calls) direction p ≡ spans_by column_spans_listed row_spans_listed direction p
  made_spans direction p = spans-entries (spans_made calls) direction p ∙ (λ i. spans_by (column_spans_are i) (row_spans_are i) direction p)

-- ---- what is read of settings, by lists

abbrev pub lines_listed : List (BorderCall ℕ) → Direction → ℕ → ℕ → Bool
lines_listed calls Columns count position = vertical_listed calls position count
lines_listed calls Rows count position = horizontal_listed calls position count

made_lines : (calls : List (BorderCall ℕ)) (direction : Direction) (count position : ℕ) → line_along (borders_made calls) direction count position ≡ lines_listed calls direction count position
made_lines calls Columns count position =
    same_answer _ _ (line_test (borders_made calls) Columns count position).1 (vertical_tested (borders_made calls) position count) ∙ made_vertical calls position count
made_lines calls Rows count position =
    same_answer _ _ (line_test (borders_made calls) Rows count position).1 (horizontal_tested (borders_made calls) position count) ∙ made_horizontal calls position count

abbrev pub grid_by : (Position → Sides Indent) → List (Position × ℕ) → List (Position × ℕ) → List (BorderCall ℕ) → Grid
grid_by padding columns rows lines = record {
  shows = shows_by columns rows;
  span = spans_by columns rows;
  before = λ direction p. size_before direction (padding p);
  after = λ direction p. size_after direction (padding p);
  draws = lines_listed lines;
}

abbrev pub listed_grid : List Setting → Grid
listed_grid settings =
    let calls = flat_map span_calls settings in
    grid_by (padding_of settings) (column_spans_listed calls) (row_spans_listed calls) (flat_map character_calls settings)

grid_listed : (settings : List Setting) → grid_of settings ≡ listed_grid settings
unfolding grid_of
grid_listed settings = grind (arith, made_shows, made_spans, padding_of, made_lines)

-- ---- what is written

abbrev pub listed_estimate : Sizing → Table → Estimate
listed_estimate sizing table = estimate_by sizing (listed_grid table.settings) text_measure table.columns table.rows

estimate_listed : (sizing : Sizing) (table : Table) → estimate_of sizing table ≡ listed_estimate sizing table
estimate_listed sizing table = ap (λ grid. estimate_by sizing grid text_measure table.columns table.rows) (grid_listed table.settings)

abbrev pub listed_text : Sizing → Result Table ℕ → List ℕ
listed_text sizing (Err number) = bad_line_text number
listed_text sizing (Ok table) = estimate_text (listed_estimate sizing table)

abbrev pub listed_end : Sizing → Result Table ℕ → RunEnd
listed_end sizing (Err number) = BadScript
listed_end sizing (Ok table) = estimate_end (listed_estimate sizing table)

same_text : (sizing : Sizing) (script : Result Table ℕ) → outcome_text (outcome_of sizing script) ≡ listed_text sizing script
same_text sizing (Err number) = refl
same_text sizing (Ok table) = ap estimate_text (estimate_listed sizing table)

same_end : (sizing : Sizing) (script : Result Table ℕ) → outcome_end (outcome_of sizing script) ≡ listed_end sizing script
same_end sizing (Err number) = refl
same_end sizing (Ok table) = ap estimate_end (estimate_listed sizing table)

-- a worked script gives what is computed of it
pub worked : (sizing : Sizing) (script output : List ℕ) (end : RunEnd) → listed_text sizing (table_of script) ≡ output → listed_end sizing (table_of script) ≡ end → GivesBy sizing script output end
worked sizing script output end text ends =
    let outcome = outcome_of sizing (table_of script) in
    let end_is : outcome_end outcome ≡ end = same_end sizing (table_of script) ∙ ends in
    let text_is : outcome_text outcome ≡ output = same_text sizing (table_of script) ∙ text in
    record {
      answer = (outcome, outcome-computed sizing script, (sym end_is, sym text_is));
      alone = λ other bytes is.
          let same = outcome-only sizing script is.0 is.1 in
          (is.2.0 ∙ ap outcome_end same ∙ end_is, is.2.1 ∙ ap outcome_text same ∙ text_is);
    }
