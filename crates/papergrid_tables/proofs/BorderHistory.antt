-- One more call on a border table, by the entries of its maps.
use Rattle.std.proofs.Common.{◌≡◌, ℕ, Bool, cond, List, [], ◌∷◌, ◌++◌, eqb, Option, Some, None, sym, ap, refl, ◌∙◌, arith, rules}
use Rattle.std.specs.Option.{option_or}
use Rattle.std.proofs.lemmas.List.{reverse-append}
use Rattle.std.specs.Map.{lookup}
use Rattle.std.specs.Ordering.{nat_cmp}
use Rattle.std.specs.FinMap.{get, from_entries}
use Rattle.papergrid_values.specs.Borders.{frame_with}
use Rattle.papergrid_values.specs.declared.direction.Direction.TheVariants.{Columns, Rows}
use Rattle.papergrid_values.specs.declared.position.Position.{Position}
use Rattle.papergrid_values.specs.declared.border.Border.{Border}
use Rattle.papergrid_values.specs.declared.borders.Borders.{Borders}
use Rattle.papergrid_values.specs.declared.horizontal_line.HorizontalLine.{HorizontalLine}
use Rattle.papergrid_values.specs.declared.vertical_line.VerticalLine.{VerticalLine}
use Rattle.papergrid_tables.specs.BorderCalls.{BorderCall, InsertBorder, RemoveBorder, InsertHorizontalLine, RemoveHorizontalLine, InsertVerticalLine, RemoveVerticalLine, SetBorders, Clear, is_edge_of, is_corner_of, edge_part, corner_part}
use Rattle.papergrid_values.specs.History.{AppendsHistory}
use Rattle.papergrid_tables.specs.StoredBorders.{StoredBorders, HasBorderHistory, parts_of_borders}
use Rattle.papergrid_values.specs.MapKeys.{position_cmp, position_eq}
use Rattle.papergrid_tables.specs.BorderParts.{parts_after_call, parts_from}
use Rattle.papergrid_values.proofs.KeyLemmas.{get_at_number, get_at_position}
use Rattle.papergrid_values.proofs.EntryLemmas.{same_positions}

-- what one map of lines holds after a change
line_changed : {L : Type 0} (k : ℕ) (line : Option L) (es es' : List (ℕ × L)) → ((n : ℕ) → lookup (eqb n) es' ≡ cond (eqb k n) line (lookup (eqb n) es))
    → (n : ℕ) → get (from_entries {R = nat_cmp} es') n ≡ cond (eqb k n) line (get (from_entries {R = nat_cmp} es) n)
line_changed k line es es' changed n = get_at_number es' n ∙ changed n ∙ ap (cond (eqb k n) line) (sym (get_at_number es n))

module _ {T : Type 0} where
  abbrev pub table_of : Option T → Borders T → List (ℕ × HorizontalLine T) → List (ℕ × VerticalLine T) → List (Position × T) → List (Position × T) → List (Position × T) → StoredBorders T
  table_of g f hl vl he ve ks = record {
    global = g;
    frame = f;
    horizontal_lines = from_entries hl;
    vertical_lines = from_entries vl;
    horizontal_edges = from_entries he;
    vertical_edges = from_entries ve;
    corners = from_entries ks;
  }

  history_step : (old new : StoredBorders T) (call : BorderCall T) → parts_of_borders new ≡ parts_after_call call (parts_of_borders old) → AppendsHistory HasBorderHistory old new (call ∷ [])
  history_step old new call step calls told = grind (arith, reverse-append)

  none_told : parts_of_borders (table_of None (frame_with None) [] [] [] [] []) ≡ parts_from []
  none_told = search (rules, get_at_number, get_at_position)

  pub new_history : HasBorderHistory [] (table_of None (frame_with None) [] [] [] [] [])
  new_history = none_told

  pub new_cleared : (calls : List (BorderCall T)) → HasBorderHistory (calls ++ Clear ∷ []) (table_of None (frame_with None) [] [] [] [] [])
  new_cleared calls = none_told ∙ ap parts_from (sym (reverse-append calls (Clear ∷ [])))

  -- ---- what one map holds after it

  gained : (parts : Position → Option T) (es es' : List (Position × T)) → ((p : Position) → lookup (position_eq p) es' ≡ option_or (parts p) (lookup (position_eq p) es))
      → (p : Position) → get (from_entries {R = position_cmp} es') p ≡ option_or (parts p) (get (from_entries {R = position_cmp} es) p)
  gained parts es es' gains p = get_at_position es' p ∙ gains p ∙ ap (option_or (parts p)) (sym (get_at_position es p))

  lost : (test : Position → Bool) (es es' : List (Position × T)) → ((p : Position) → lookup (position_eq p) es' ≡ cond (test p) None (lookup (position_eq p) es))
      → (p : Position) → get (from_entries {R = position_cmp} es') p ≡ cond (test p) None (get (from_entries {R = position_cmp} es) p)
  lost test es es' loses p = get_at_position es' p ∙ loses p ∙ ap (cond (test p) None) (sym (get_at_position es p))

  module _ (g : Option T) (f : Borders T) (hl : List (ℕ × HorizontalLine T)) (vl : List (ℕ × VerticalLine T)) (he ve ks : List (Position × T)) where
    pub history_insert_border : (he' ve' ks' : List (Position × T)) (cell : Position) (b : Border T)
        → ((p : Position) → lookup (position_eq p) he' ≡ option_or (edge_part Rows cell b p) (lookup (position_eq p) he))
        → ((p : Position) → lookup (position_eq p) ve' ≡ option_or (edge_part Columns cell b p) (lookup (position_eq p) ve))
        → ((p : Position) → lookup (position_eq p) ks' ≡ option_or (corner_part cell b p) (lookup (position_eq p) ks))
        → AppendsHistory HasBorderHistory (table_of g f hl vl he ve ks) (table_of g f hl vl he' ve' ks') (InsertBorder cell b ∷ [])
    history_insert_border he' ve' ks' cell b horizontal vertical corners = history_step _ _ (InsertBorder cell b) (λ i. record {
      global = g;
      frame = f;
      horizontal_line = λ n. get (from_entries {R = nat_cmp} hl) n;
      vertical_line = λ n. get (from_entries {R = nat_cmp} vl) n;
      horizontal_edge = λ p. gained (edge_part Rows cell b) he he' horizontal p i;
      vertical_edge = λ p. gained (edge_part Columns cell b) ve ve' vertical p i;
      corner = λ p. gained (corner_part cell b) ks ks' corners p i;
    })

    pub history_remove_border : (he' ve' ks' : List (Position × T)) (cell : Position)
        → ((p : Position) → lookup (position_eq p) he' ≡ cond (is_edge_of Rows cell p) None (lookup (position_eq p) he))
        → ((p : Position) → lookup (position_eq p) ve' ≡ cond (is_edge_of Columns cell p) None (lookup (position_eq p) ve))
        → ((p : Position) → lookup (position_eq p) ks' ≡ cond (is_corner_of cell p) None (lookup (position_eq p) ks))
        → AppendsHistory HasBorderHistory (table_of g f hl vl he ve ks) (table_of g f hl vl he' ve' ks') (RemoveBorder cell ∷ [])
    history_remove_border he' ve' ks' cell horizontal vertical corners = history_step _ _ (RemoveBorder cell) (λ i. record {
      global = g;
      frame = f;
      horizontal_line = λ n. get (from_entries {R = nat_cmp} hl) n;
      vertical_line = λ n. get (from_entries {R = nat_cmp} vl) n;
      horizontal_edge = λ p. lost (is_edge_of Rows cell) he he' horizontal p i;
      vertical_edge = λ p. lost (is_edge_of Columns cell) ve ve' vertical p i;
      corner = λ p. lost (is_corner_of cell) ks ks' corners p i;
    })

    pub history_insert_horizontal_line : (hl' : List (ℕ × HorizontalLine T)) (k : ℕ) (line : HorizontalLine T)
        → ((n : ℕ) → lookup (eqb n) hl' ≡ cond (eqb k n) (Some line) (lookup (eqb n) hl))
        → AppendsHistory HasBorderHistory (table_of g f hl vl he ve ks) (table_of g f hl' vl he ve ks) (InsertHorizontalLine k line ∷ [])
    history_insert_horizontal_line hl' k line written =
        let old = parts_of_borders (table_of g f hl vl he ve ks) in
        history_step _ _ (InsertHorizontalLine k line) (λ i. record old { horizontal_line = λ n. line_changed k (Some line) hl hl' written n i })

    pub history_remove_horizontal_line : (hl' : List (ℕ × HorizontalLine T)) (k : ℕ)
        → ((n : ℕ) → lookup (eqb n) hl' ≡ cond (eqb k n) None (lookup (eqb n) hl))
        → AppendsHistory HasBorderHistory (table_of g f hl vl he ve ks) (table_of g f hl' vl he ve ks) (RemoveHorizontalLine k ∷ [])
    history_remove_horizontal_line hl' k removed =
        let old = parts_of_borders (table_of g f hl vl he ve ks) in
        history_step _ _ (RemoveHorizontalLine k) (λ i. record old { horizontal_line = λ n. line_changed k None hl hl' removed n i })

    pub history_insert_vertical_line : (vl' : List (ℕ × VerticalLine T)) (k : ℕ) (line : VerticalLine T)
        → ((n : ℕ) → lookup (eqb n) vl' ≡ cond (eqb k n) (Some line) (lookup (eqb n) vl))
        → AppendsHistory HasBorderHistory (table_of g f hl vl he ve ks) (table_of g f hl vl' he ve ks) (InsertVerticalLine k line ∷ [])
    history_insert_vertical_line vl' k line written =
        let old = parts_of_borders (table_of g f hl vl he ve ks) in
        history_step _ _ (InsertVerticalLine k line) (λ i. record old { vertical_line = λ n. line_changed k (Some line) vl vl' written n i })

    pub history_remove_vertical_line : (vl' : List (ℕ × VerticalLine T)) (k : ℕ)
        → ((n : ℕ) → lookup (eqb n) vl' ≡ cond (eqb k n) None (lookup (eqb n) vl))
        → AppendsHistory HasBorderHistory (table_of g f hl vl he ve ks) (table_of g f hl vl' he ve ks) (RemoveVerticalLine k ∷ [])
    history_remove_vertical_line vl' k removed =
        let old = parts_of_borders (table_of g f hl vl he ve ks) in
        history_step _ _ (RemoveVerticalLine k) (λ i. record old { vertical_line = λ n. line_changed k None vl vl' removed n i })

    pub history_set_borders : (frame : Borders T) → AppendsHistory HasBorderHistory (table_of g f hl vl he ve ks) (table_of g frame hl vl he ve ks) (SetBorders frame ∷ [])
    history_set_borders frame = history_step _ _ (SetBorders frame) refl

    -- edges and corners that answer alike are stored alike
    pub same_table : (he' ve' ks' : List (Position × T))
        → ((p : Position) → lookup (position_eq p) he' ≡ lookup (position_eq p) he) → ((p : Position) → lookup (position_eq p) ve' ≡ lookup (position_eq p) ve)
        → ((p : Position) → lookup (position_eq p) ks' ≡ lookup (position_eq p) ks)
        → table_of g f hl vl he' ve' ks' ≡ table_of g f hl vl he ve ks
    same_table he' ve' ks' horizontal vertical corners = grind (arith, same_positions)
