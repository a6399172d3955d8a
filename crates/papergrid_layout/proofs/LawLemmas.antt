-- What the laws rest on.
use Rattle.std.proofs.Common.{◌≡◌, ◌∙◌, ℕ, ◌+◌, Bool, List, [], ◌∷◌, ◌++◌, ◌&&◌, refl, ap, subst, sym, inl, inr, nat_le, arith, rules}
use Rattle.std.specs.Prelude.{◌↔◌, All, IsTrue, filter, flat_map, reverse}
use Rattle.std.proofs.lemmas.Bool.{cases_Bool}
use Rattle.std.proofs.lemmas.List.{append-nil, length-map, reverse-append}
use Rattle.std.proofs.lemmas.List.Elements.{All-head, All-tail, filter-append}
use Rattle.papergrid_values.specs.declared.position.Position.{Position}
use Rattle.papergrid_text.specs.LineCache.{answered_lines}
use Rattle.papergrid_text.specs.Measured.{Measured}
use Rattle.papergrid_text.proofs.Widths.{all_answered}
use Rattle.papergrid_values.specs.declared.direction.Direction.{Direction}
use Rattle.papergrid_tracks.specs.Ranges.{demand_of}
use Rattle.papergrid_values.specs.MapKeys.{position_eq}
use Rattle.papergrid_tables.specs.BorderParts.{HasLine, parts_from}
use Rattle.papergrid_maps.specs.EffectiveCall.{IsEffective}
use Rattle.papergrid_maps.specs.Spans.{IsEffectiveSpan, RemoveSpans, SetSpan, SpanCall, decides_span, is_same_direction}
use Rattle.papergrid_maps.proofs.SpanSearch.{effective_span, span_from}
use Rattle.papergrid_maps.proofs.EffectiveSpanLemmas.{IsEffectiveSpan-only, effective_span-IsEffectiveSpan}
use Rattle.papergrid_config.specs.Parts.{span_calls}
use Rattle.papergrid_config.specs.History.{HasSettingHistory}
use Rattle.papergrid_values.specs.Compact.{all_sides, spaces}
use Rattle.papergrid_config.specs.declared.setting.Setting.{Setting}
use Rattle.papergrid_config.specs.declared.spanned.SpannedConfig.{SpannedConfig}
use Rattle.papergrid_walk.specs.Cells.{demands_by, demands_of, placed_from, placed_row, side}
use Rattle.papergrid_maps.specs.Grids.{Grid}
use Rattle.papergrid_config.specs.Grids.{IsGridOf, spanned_grid}
use Rattle.papergrid_walk.specs.Measures.{cell_measure, line_measure}
use Rattle.papergrid_walk.specs.ForProofs.Visits.{demands_by-append}
use Rattle.papergrid_config.proofs.SettingGridLemmas.{grid-decided, one-grid}
use Rattle.papergrid_layout.specs.Laws.{AreReordered, IsNewText}

-- ---- measures

module _ {C : Type 0} (direction : Direction) (grid : Grid) (f g : C → ℕ × ℕ) (P : C → Type 0) (same : (x : C) → P x → f x ≡ g x) where
  same_row : (r c : ℕ) (cells : List C) → All P cells → demands_by direction grid f (placed_row r c cells) ≡ demands_by direction grid g (placed_row r c cells)
  same_row r c [] all = refl
  same_row r c (x ∷ cells) all =
      let one = same x (All-head P x cells all) in
      let rest = same_row r (c + 1) cells (All-tail P x cells all) in
      let p : Position = record { row = r; col = c } in
      elim (cases_Bool (grid.shows p)) [
        | inl t ↦ rw t (λ k. demand_of direction p (grid.span direction p) (side direction (one k) + grid.before direction p + grid.after direction p) ∷ rest k)
        | inr t ↦ rw t rest
      ]

  same_from : (r : ℕ) (rows : List (List C)) → All (All P) rows → demands_by direction grid f (placed_from r rows) ≡ demands_by direction grid g (placed_from r rows)
  same_from r [] all = refl
  same_from r (row ∷ rows) all =
      let one = same_row r 0 row (All-head (All P) row rows all) in
      let rest = same_from (r + 1) rows (All-tail (All P) row rows all) in
      demands_by-append f direction grid (placed_row r 0 row) (placed_from (r + 1) rows)
      ∙ (λ k. one k ++ rest k)
      ∙ sym (demands_by-append g direction grid (placed_row r 0 row) (placed_from (r + 1) rows))

  -- where two measures agree on each cell, the cells ask for the same
  pub same_measures : (rows : List (List C)) → All (All P) rows → demands_of direction grid f rows ≡ demands_of direction grid g rows
  same_measures rows all = same_from 0 rows all

pub new_text_measures : {S : Type 0} (text : S → List ℕ) (t : Measured S) → IsNewText text t →
    cell_measure (λ u. u.width) (λ u. answered_lines (text u.text) u.width u.lines) t ≡ line_measure (λ u. text u.text) t
new_text_measures text t is = grind (arith, all_answered, length-map)

-- ---- span calls anywhere in a list

filter-reverse : (test : SpanCall → Bool) (calls : List SpanCall) → filter test (reverse calls) ≡ reverse (filter test calls)
filter-reverse test [] = refl
filter-reverse test (call ∷ calls) =
    ap (filter test) (reverse-append (call ∷ []) calls)
    ∙ filter-append test (reverse calls) (call ∷ [])
    ∙ ap (λ xs. xs ++ filter test (call ∷ [])) (filter-reverse test calls)
    ∙ elim (cases_Bool (test call)) [
      | inl t ↦ rw t (sym (reverse-append (call ∷ []) (filter test calls)))
      | inr f ↦ rw f (append-nil (reverse (filter test calls)))
    ]

-- calls that do not decide a cell's span leave it
span_from-decided : (d : Direction) (p : Position) (calls : List SpanCall) → span_from d p (filter (decides_span d p) calls) ≡ span_from d p calls
span_from-decided d p [] = refl
span_from-decided d p (RemoveSpans e ∷ older) = grind (arith, cases_Bool (is_same_direction e d), span_from-decided d p older)
span_from-decided d p (SetSpan e q n ∷ older) = elim (cases_Bool (is_same_direction e d && (nat_le 1 n && position_eq q p))) [
  | inl t ↦ rw t (rw t refl)
  | inr f ↦ rw f (span_from-decided d p older)
]

module _ (settings other : List Setting) (same : AreReordered settings other) where
  abbrev span_of : List Setting → Direction → Position → ℕ
  span_of list d p = effective_span d p (flat_map span_calls list)

  by_decided : (d : Direction) (p : Position) (calls : List SpanCall) → effective_span d p calls ≡ span_from d p (reverse (filter (decides_span d p) calls))
  by_decided d p calls = sym (span_from-decided d p (reverse calls)) ∙ ap (span_from d p) (filter-reverse (decides_span d p) calls)

  same_span : (d : Direction) (p : Position) → span_of settings d p ≡ span_of other d p
  same_span d p =
      by_decided d p (flat_map span_calls settings) ∙ ap (λ calls. span_from d p (reverse calls)) (same.spans d p) ∙ sym (by_decided d p (flat_map span_calls other))

  pub reordered_grid : (grid : Grid) → IsGridOf settings grid → IsGridOf other grid
  reordered_grid grid is = record {
    spans = λ d p.
        let calls = flat_map span_calls other in
        subst (IsEffectiveSpan d p calls) (sym (IsEffectiveSpan-only d p (flat_map span_calls settings) (grid.span d p) (is.spans d p) ∙ same_span d p)) (effective_span-IsEffectiveSpan d p calls);
    visible = is.visible;
    padding = λ p sides decided. is.padding p sides (subst (λ calls. IsEffective calls (all_sides (spaces 0)) p sides) (sym same.padding) decided);
    lines = λ d i count. subst (λ calls. IsTrue (grid.draws d count i) ↔ HasLine d (parts_from (reverse calls)) i count) same.characters (is.lines d i count);
  }

  pub same_grid : (x y : SpannedConfig) → HasSettingHistory settings x → HasSettingHistory other y → spanned_grid x ≡ spanned_grid y
  same_grid x y told also = search (rules, one-grid, reordered_grid, grid-decided)
