-- What the settings of a request are.
use Rattle.std.proofs.Common.{◌≡◌, get_or, ℕ, Bool, true, false, List, [], ◌∷◌, ◌++◌, All, Option, Some, None, flat_map, length, refl, cond}
use Rattle.std.specs.Prelude.{nat_lt}
use Rattle.std.specs.List.{filter, range_with_len}
use Rattle.std.proofs.lemmas.List.Elements.{All-append, All-cons, All-map, All-nil}
use Rattle.papergrid_values.specs.declared.alignment.AlignmentHorizontal.{AlignmentHorizontal}
use Rattle.papergrid_values.specs.declared.alignment.AlignmentHorizontal.TheVariants.{Right}
use Rattle.papergrid_values.specs.declared.alignment.AlignmentVertical.{AlignmentVertical}
use Rattle.papergrid_values.specs.declared.entity.Entity.{Entity}
use Rattle.papergrid_values.specs.declared.entity.Entity.TheVariants.{Column, Global}
use Rattle.papergrid_values.specs.declared.horizontal_line.HorizontalLine.{HorizontalLine}
use Rattle.papergrid_values.specs.declared.position.Position.{Position}
use Rattle.papergrid_config.specs.Applied.{is_in_range}
use Rattle.papergrid_config.specs.declared.setting.Setting.{Setting}
use Rattle.papergrid_config.specs.declared.setting.Setting.TheVariants.{InsertHorizontalLine, SetAlignmentHorizontal, SetAlignmentVertical, SetBorders, SetColumnSpan, SetPadding, SetRowSpan}
use Rattle.papergrid_csv.specs.Numbers.{is_numeric}
use Rattle.papergrid_csv.specs.Requests.{column_alignment, columns_named, common_alignment, entry_settings, first_row, head_line, number_settings, rows_below, settings_of, span_settings}
use Rattle.papergrid_csv.specs.declared.request.Alignment.{Alignment}
use Rattle.papergrid_csv.specs.declared.request.Alignment.TheVariants.{Auto, Fixed}
use Rattle.papergrid_csv.specs.declared.request.ColumnName.{ColumnName}
use Rattle.papergrid_csv.specs.declared.request.Request.{Request}
use Rattle.papergrid_csv.specs.declared.request.Span.{Span}

-- those of alignments and spans
abbrev pub others : Request → ℕ → List (List (List ℕ)) → List Setting
others request columns rows =
    SetAlignmentHorizontal Global (common_alignment request.alignment)
    ∷ (number_settings (rows_below request.has_head rows) columns request.alignment ++ (SetAlignmentVertical Global request.vertical
    ∷ (flat_map (entry_settings request columns rows) request.columns.items ++ flat_map span_settings request.spans.items)))

-- ---- what holds of all of them

module _ (P : Setting → Type 0) where
  all-of : {A : Type 0} (f : A → List Setting) → ((a : A) → All P (f a)) → (xs : List A) → All P (flat_map f xs)
  all-of f each [] = All-nil P
  all-of f each (x ∷ xs) = All-append P (f x) (flat_map f xs) (each x) (all-of f each xs)

  module _ (aligned : (entity : Entity) (alignment : AlignmentHorizontal) → P (SetAlignmentHorizontal entity alignment))
      (vertical : (entity : Entity) (alignment : AlignmentVertical) → P (SetAlignmentVertical entity alignment)) where
    numbers-all : (below : List (List (List ℕ))) (columns : ℕ) (alignment : Alignment) → All P (number_settings below columns alignment)
    numbers-all below columns (Fixed alignment) = All-nil P
    numbers-all below columns Auto =
        let picked = filter (is_numeric below) (range_with_len 0 columns) in
        All-map P (λ column. SetAlignmentHorizontal (Column column) Right) picked (λ k d within. aligned (Column (get_or picked k d)) Right)

    module _ (request : Request) (columns : ℕ) (rows : List (List (List ℕ))) where
      entry-all : (entry : ColumnName × Alignment) → All P (entry_settings request columns rows entry)
      entry-all entry =
          let named = columns_named (first_row rows) columns entry.0 in
          All-map P (λ column. SetAlignmentHorizontal (Column column) (column_alignment (rows_below request.has_head rows) column entry.1)) named
          (λ k d within. aligned (Column (get_or named k d)) (column_alignment (rows_below request.has_head rows) (get_or named k d) entry.1))

      -- those of alignments and spans
      pub others-all : All P (flat_map span_settings request.spans.items) → All P (others request columns rows)
      others-all spans =
          All-cons P (SetAlignmentHorizontal Global (common_alignment request.alignment)) _ (aligned Global (common_alignment request.alignment))
          (All-append P (number_settings (rows_below request.has_head rows) columns request.alignment) _ (numbers-all (rows_below request.has_head rows) columns request.alignment)
          (All-cons P (SetAlignmentVertical Global request.vertical) _ (vertical Global request.vertical)
          (All-append P (flat_map (entry_settings request columns rows) request.columns.items) (flat_map span_settings request.spans.items)
          (all-of (entry_settings request columns rows) entry-all request.columns.items) spans)))

  pub spans-all : ((p : Position) (n : ℕ) → P (SetColumnSpan p n)) → ((p : Position) (n : ℕ) → P (SetRowSpan p n)) → (spans : List Span) → All P (flat_map span_settings spans)
  spans-all across down spans = all-of span_settings each spans
    where
      each : (span : Span) → All P (span_settings span)
      each span =
          All-cons P (SetColumnSpan span.position span.columns) (SetRowSpan span.position span.rows ∷ []) (across span.position span.columns)
          (All-cons P (SetRowSpan span.position span.rows) [] (down span.position span.rows) (All-nil P))

-- each may be applied
pub all-in-range : (request : Request) (columns : ℕ) (rows : List (List (List ℕ))) → All (λ setting. is_in_range setting ≡ true) (settings_of request columns rows)
all-in-range request columns rows =
    All-cons P (SetBorders request.frame) (head_line request.head (length rows) ++ (SetPadding Global request.padding ∷ others request columns rows)) refl
    (All-append P (head_line request.head (length rows)) (SetPadding Global request.padding ∷ others request columns rows) (head request.head)
    (All-cons P (SetPadding Global request.padding) (others request columns rows) refl
    (others-all P (λ _ _. refl) (λ _ _. refl) request columns rows (spans-all P (λ _ _. refl) (λ _ _. refl) request.spans.items))))
  where
    P : Setting → Type 0
    P setting = is_in_range setting ≡ true

    chosen : (b : Bool) (line : HorizontalLine ℕ) → All P (cond b (InsertHorizontalLine 1 line ∷ []) [])
    chosen true line = All-cons P (InsertHorizontalLine 1 line) [] refl (All-nil P)
    chosen false line = All-nil P

    head : (line : Option (HorizontalLine ℕ)) → All P (head_line line (length rows))
    head None = All-nil P
    head (Some line) = chosen (nat_lt 1 (length rows)) line
