-- Settings that no column, no row and no cell has of its own are those of each position.
use Rattle.std.proofs.Common.{◌≡◌, ◌↔◌, Bool, false, [], ◌∷◌, Option, Some, None, IsTrue, refl, sym, ◌∙◌}
use Rattle.std.specs.Prelude.{unwrap_or}
use Rattle.std.specs.FinMap.{get}
use Rattle.std.proofs.lemmas.Bool.{false_from_ne_true, iff_false}
use Rattle.papergrid_values.specs.Keys.{sides_parts}
use Rattle.papergrid_values.specs.Parts.{none_set}
use Rattle.papergrid_values.specs.declared.alignment.AlignmentHorizontal.{AlignmentHorizontal}
use Rattle.papergrid_values.specs.declared.ansi_buf.ANSIBuf.{ANSIBuf}
use Rattle.papergrid_values.specs.declared.entity.Entity.TheVariants.{Global, Column, Row, Cell}
use Rattle.papergrid_values.specs.declared.position.Position.{Position}
use Rattle.papergrid_values.specs.declared.sides.Sides.{Sides}
use Rattle.papergrid_maps.specs.StoredColors.{IsBlank}
use Rattle.papergrid_maps.specs.StoredMap.{HasNothing, Stored, HoldsValue, stored_value}
use Rattle.papergrid_config.specs.Queries.{HasSetSide}
use Rattle.papergrid_config.specs.declared.spanned.SpannedConfig.{SpannedConfig}
use Rattle.papergrid_draw.specs.Contents as contents
use Rattle.papergrid_draw.specs.Contents.{look_of}
use Rattle.papergrid_draw.specs.ForProofs.Blanks.{IsBetweenBlanks}
use Rattle.papergrid_draw.specs.ForProofs.Looks.{IsCommonLook}
use Rattle.papergrid_draw.specs.declared.blanks.Blanks.{Blanks}

-- ---- nothing is held

none_of : {T : Type 0} (o : Option T) → ((o ≡ None → ⊥) → ⊥) → o ≡ None
none_of None refuted = refl
none_of (Some v) refuted = absurd (refuted (λ e. (cc)))

pub nothing_of : {T : Type 0} (held : Stored T) → ((HasNothing held → ⊥) → ⊥) → HasNothing held
nothing_of held refuted = record {
  columns = λ c. none_of (get held.columns c) (λ other. refuted (λ nothing. other (nothing.columns c)));
  rows = λ r. none_of (get held.rows r) (λ other. refuted (λ nothing. other (nothing.rows r)));
  cells = λ p. none_of (get held.cells p) (λ other. refuted (λ nothing. other (nothing.cells p)));
}

blank_of : {C : Type 0} (held : Stored (Option C)) → ((IsBlank held → ⊥) → ⊥) → IsBlank held
blank_of held refuted = record {
  nothing = nothing_of held (λ other. refuted (λ blank. other blank.nothing));
  global = none_of held.global (λ other. refuted (λ blank. other blank.global));
}

-- then the value of the whole table is that of each position
value_of_all : {T : Type 0} (held : Stored T) → HasNothing held → (p : Position) → stored_value held p ≡ held.global
value_of_all held nothing p = λ i. unwrap_or (nothing.cells p i) (unwrap_or (nothing.columns p.col i) (unwrap_or (nothing.rows p.row i) held.global))

pub same_value : {T : Type 0} (held : Stored T) → HasNothing held → (p q : Position) → stored_value held p ≡ stored_value held q
same_value held nothing p q = value_of_all held nothing p ∙ sym (value_of_all held nothing q)

-- ---- no colour is held

-- the value of a position is held for some entity
module _ {T : Type 0} (held : Stored T) (p : Position) where
  found : (cell column row : Option T) → get held.cells p ≡ cell → get held.columns p.col ≡ column → get held.rows p.row ≡ row → HoldsValue held (unwrap_or cell (unwrap_or column (unwrap_or row held.global)))
  found (Some v) column row in_cell in_column in_row = (Cell p.row p.col, in_cell)
  found None (Some v) row in_cell in_column in_row = (Column p.col, in_column)
  found None None (Some v) in_cell in_column in_row = (Row p.row, in_row)
  found None None None in_cell in_column in_row = (Global, refl)

  holds_value : HoldsValue held (stored_value held p)
  holds_value = found (get held.cells p) (get held.columns p.col) (get held.rows p.row) refl refl refl

-- four sides of which none is set
abbrev no_side : {C : Type 0} → Sides (Option C)
no_side = record { top = None; bottom = None; left = None; right = None }

all_none : {C : Type 0} (a b c d : Option C) → (none_set (a ∷ b ∷ c ∷ d ∷ []) ≡ false → ⊥) → (a ≡ None) × (b ≡ None) × (c ≡ None) × (d ≡ None)
all_none None None None None unset = (refl, refl, refl, refl)
all_none (Some x) b c d unset = absurd (unset refl)
all_none None (Some x) c d unset = absurd (unset refl)
all_none None None (Some x) d unset = absurd (unset refl)
all_none None None None (Some x) unset = absurd (unset refl)

unset_is : {C : Type 0} (sides : Sides (Option C)) → (none_set (sides_parts sides) ≡ false → ⊥) → sides ≡ no_side
unset_is sides unset =
    let e = all_none sides.top sides.bottom sides.left sides.right unset in
    λ i. record { top = e.0 i; bottom = e.1 i; left = e.2 i; right = e.3 i }

no_color : (held : Stored (Sides (Option ANSIBuf))) → (HasSetSide held → ⊥) → (p : Position) → stored_value held p ≡ no_side
no_color held unset p = unset_is (stored_value held p) (λ set. unset (stored_value held p, holds_value held p, set))

-- ---- a look

-- is that of each position, with the horizontal alignment there
pub common_look : (config : SpannedConfig) → IsCommonLook config → (p q : Position) →
    record (look_of config p) { horizontal = stored_value config.alignment_horizontal q } ≡ look_of config q
common_look config common p q =
    let padding = same_value config.padding common.padding p q in
    let padding_color = no_color config.padding_color common.padding_color p ∙ sym (no_color config.padding_color common.padding_color q) in
    let trim_horizontal = same_value config.trim_horizontal common.trim_horizontal p q in
    let trim_vertical = same_value config.trim_vertical common.trim_vertical p q in
    let line_alignment = same_value config.line_alignment common.line_alignment p q in
    let vertical = same_value config.alignment_vertical common.vertical p q in
    let justification = same_value config.justification common.justification p q in
    let color = same_value config.justification_color common.justification_color.nothing p q in
    λ i. record {
      padding = padding i;
      padding_color = padding_color i;
      formatting = record {
        horizontal_trim = trim_horizontal i;
        vertical_trim = trim_vertical i;
        allow_lines_alignment = line_alignment i;
      };
      horizontal = stored_value config.alignment_horizontal q;
      vertical = vertical i;
      justification = justification i;
      justification_color = color i;
    }

-- what stands between blanks does so by any horizontal alignment
pub aligned_blanks : (look : contents.Look) (blanks : Blanks) (horizontal : AlignmentHorizontal) → IsBetweenBlanks look blanks →
    IsBetweenBlanks (record look { horizontal = horizontal }) blanks
aligned_blanks look blanks horizontal between = record {
  left = between.left;
  right = between.right;
  left_fill = between.left_fill;
  right_fill = between.right_fill;
  left_color = between.left_color;
  right_color = between.right_color;
  justification = between.justification;
  justification_color = between.justification_color;
  top = between.top;
  line = between.line;
  lines = between.lines;
}

-- what the queries of a configuration answer
pub record Answers (config : SpannedConfig) (padding padding_color formatting vertical justification : Bool) : Type 0 where
  pub of_padding : IsTrue padding ↔ (HasNothing config.padding → ⊥)
  pub of_padding_color : IsTrue padding_color ↔ HasSetSide config.padding_color
  pub of_formatting : IsTrue formatting ↔ (HasNothing config.trim_horizontal × (HasNothing config.trim_vertical × HasNothing config.line_alignment) → ⊥)
  pub of_vertical : IsTrue vertical ↔ (HasNothing config.alignment_vertical → ⊥)
  pub of_justification : IsTrue justification ↔ (HasNothing config.justification × IsBlank config.justification_color → ⊥)

module _ (config : SpannedConfig) (padding padding_color formatting vertical justification : Bool) (told : Answers config padding padding_color formatting vertical justification) where
  -- none of them found something: the look is common
  pub common_from : padding ≡ false → padding_color ≡ false → formatting ≡ false → vertical ≡ false → justification ≡ false → IsCommonLook config
  common_from a b c e f =
      let flags = iff_false told.of_formatting c in
      let fills = iff_false told.of_justification f in
      record {
        padding = nothing_of config.padding (iff_false told.of_padding a);
        padding_color = iff_false told.of_padding_color b;
        trim_horizontal = nothing_of config.trim_horizontal (λ other. flags (λ all. other all.0));
        trim_vertical = nothing_of config.trim_vertical (λ other. flags (λ all. other all.1.0));
        line_alignment = nothing_of config.line_alignment (λ other. flags (λ all. other all.1.1));
        vertical = nothing_of config.alignment_vertical (iff_false told.of_vertical e);
        justification = nothing_of config.justification (λ other. fills (λ all. other all.0));
        justification_color = blank_of config.justification_color (λ other. fills (λ all. other all.1));
      }

  -- and a common look leaves them nothing to find
  pub nothing_found : IsCommonLook config → (padding ≡ false) × (padding_color ≡ false) × (formatting ≡ false) × (vertical ≡ false) × (justification ≡ false)
  nothing_found common = (
    false_from_ne_true padding (λ found. told.of_padding.0 found common.padding),
    false_from_ne_true padding_color (λ found. common.padding_color (told.of_padding_color.0 found)),
    false_from_ne_true formatting (λ found. told.of_formatting.0 found (common.trim_horizontal, (common.trim_vertical, common.line_alignment))),
    false_from_ne_true vertical (λ found. told.of_vertical.0 found common.vertical),
    false_from_ne_true justification (λ found. told.of_justification.0 found (common.justification, common.justification_color)),
  )
