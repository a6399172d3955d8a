-- Tables that hold the same settings have the same picture.
use Rattle.std.proofs.Common.{◌≡◌, ◌∙◌, ap, subst, ℕ, ◌+◌, ◌==◌, ◌||◌, if◌then◌else◌, List, [], ◌∷◌, ◌++◌, Option, map, unwrap_or}
use Rattle.std.specs.Prelude.{◌↔◌, IsSome, IsTrue}
use Rattle.std.specs.FinMap.{get}
use Rattle.std.specs.List.{enumerate_from, flat_map, join_with_byte, range_with_len}
use Rattle.std.specs.Option.{option_or}
use Rattle.papergrid_values.specs.Positions.{position_of}
use Rattle.papergrid_values.specs.declared.direction.Direction.TheVariants.{Rows}
use Rattle.papergrid_values.specs.declared.offset.Offset.{Offset}
use Rattle.papergrid_values.specs.declared.position.Position.{Position}
use Rattle.papergrid_tables.specs.BorderParts.{found_vertical}
use Rattle.papergrid_tables.specs.Overrides.{found_override, override_at}
use Rattle.papergrid_tables.specs.StoredBorders.{parts_of_borders}
use Rattle.papergrid_config.specs.ConfigSame.{HoldTheSameSettings}
use Rattle.papergrid_config.specs.declared.spanned.SpannedConfig.{SpannedConfig}
use Rattle.papergrid_layout.specs.Places.{begin_along, line_offset, track_line, track_size}
use Rattle.papergrid_draw.specs.Bytes.{line_bytes}
use Rattle.papergrid_draw.specs.Characters.{Mark, has_overrides, plain_mark, segment, segment_character, segment_piece, vertical}
use Rattle.papergrid_draw.specs.Drawings.{Drawing, layout_of}
use Rattle.papergrid_draw.specs.Drawn.{OnLine, RuleLine, TextLine, after_these, column_stretch, content_from, crossing_stretch, drawn_lines, draws_horizontal, draws_vertical, over_line, owner_at, rule_line, rule_lines, stands_over, text_line, vertical_pieces}
use Rattle.papergrid_draw.specs.Lined.{ended_lines, lined}
use Rattle.papergrid_draw.specs.Margins.{printed, printed_lines, with_margins}
use Rattle.papergrid_draw.specs.Pieces.{Line, fill_text}
use Rattle.papergrid_draw.proofs.OverrideLemmas.{has_overrides-IsOverridden, tells_overrides}
use Rattle.papergrid_draw.proofs.PrinterLemmas.{bottom_lines, top_lines}

-- a drawing, and overrides of another configuration that are the same, however they are kept
module _ (d : Drawing) (x : SpannedConfig) where
  abbrev other : Drawing
  other = record d {
    config = record d.config {
      alloc = x.alloc;
      horizontal_chars = x.horizontal_chars;
      vertical_chars = x.vertical_chars;
      horizontal_colors = x.horizontal_colors;
      vertical_colors = x.vertical_colors;
    };
  }

  record HasSameOverrides : Type 0 where
    horizontal_chars : override_at x.horizontal_chars ≡ override_at d.config.horizontal_chars
    vertical_chars : override_at x.vertical_chars ≡ override_at d.config.vertical_chars
    horizontal_colors : override_at x.horizontal_colors ≡ override_at d.config.horizontal_colors
    vertical_colors : override_at x.vertical_colors ≡ override_at d.config.vertical_colors

  module _ (same : HasSameOverrides) where
    -- ---- lines of the table

    same-vertical : (p : Position) (height k : ℕ) → vertical other.config d.shape p height k ≡ vertical d.config d.shape p height k
    same-vertical p height k = λ i. record {
      kind = Line;
      text = fill_text (unwrap_or (option_or (found_override (same.vertical_chars i p) k height)
          (found_vertical (parts_of_borders d.config.characters) p d.shape.1)) d.config.missing) 1;
      columns = 1;
      color = option_or (found_vertical (parts_of_borders d.config.colors) p d.shape.1) (found_override (same.vertical_colors i p) k height);
    }

    same-verticals : (r j k : ℕ) → vertical_pieces other r j k ≡ vertical_pieces d r j k
    same-verticals r j k = ap (λ piece. if draws_vertical d j then piece ∷ [] else []) (same-vertical (position_of (r, j)) (d.heights r) k)

    -- some character is overridden by one as by the other
    same-overridden : (p : Position) → has_overrides (get x.horizontal_chars p) ≡ has_overrides (get d.config.horizontal_chars p)
    same-overridden p =
        tells_overrides (has_overrides (get x.horizontal_chars p)) d.config.horizontal_chars p
        (subst (λ (held : Position → Offset → Option ℕ). IsTrue (has_overrides (get x.horizontal_chars p)) ↔ ((o : Offset) × IsSome (held p o)))
        same.horizontal_chars (has_overrides-IsOverridden x.horizontal_chars p))

    same-segment : (p : Position) (width : ℕ) → segment other.config d.shape p width ≡ segment d.config d.shape p width
    same-segment p width = λ i.
        if same-overridden p i then map (λ k. record {
          piece = segment_piece d.config d.shape p (unwrap_or (found_override (same.horizontal_chars i p) k width) (segment_character d.config d.shape p)) 1;
          own = found_override (same.horizontal_colors i p) k width;
        }) (range_with_len 0 width)
        else if width == 0 then [] else (plain_mark (segment_piece d.config d.shape p (segment_character d.config d.shape p) width) ∷ [])

    -- ---- lines of the picture

    same-text : (r k : ℕ) → text_line other r k ≡ text_line d r k
    same-text r k = λ i.
        flat_map (λ c. after_these d (same-verticals r c k i)
        (content_from d (owner_at d r c) c (begin_along (layout_of d) Rows (position_of (r, c)) + k))) (range_with_len 0 d.shape.1)
        ++ same-verticals r d.shape.1 k i

    same-stretch : (i c : ℕ) → column_stretch other i c ≡ column_stretch d i c
    same-stretch i c =
        ap (λ (marks : List Mark). if stands_over d i c
        then over_line d (content_from d (owner_at d i c) c (line_offset (track_size (layout_of d) Rows) (track_line (layout_of d) Rows) i))
        else map OnLine marks) (same-segment (position_of (i, c)) (d.widths c))

    same-rule : (i : ℕ) → rule_line other i ≡ rule_line d i
    same-rule i = λ k. flat_map (λ c. crossing_stretch d i c ++ same-stretch i c k) (range_with_len 0 d.shape.1) ++ crossing_stretch d i d.shape.1

    same-rules : (i : ℕ) → rule_lines other i ≡ rule_lines d i
    same-rules i = ap (λ line. if draws_horizontal d i then RuleLine line ∷ [] else []) (same-rule i)

    same-lines : drawn_lines other ≡ drawn_lines d
    same-lines = λ i.
        flat_map (λ r. same-rules r i ++ map (λ k. TextLine (same-text r k i)) (range_with_len 0 (d.heights r))) (range_with_len 0 d.shape.0)
        ++ same-rules d.shape.0 i

    -- lines with their margins that are written in the same way
    same-written : (write : List (List ℕ) → List ℕ) →
        (if d.shape.0 == 0 || d.shape.1 == 0 then [] else write (printed_lines other)) ≡ (if d.shape.0 == 0 || d.shape.1 == 0 then [] else write (printed_lines d))
    same-written write =
        ap (λ drawn. if d.shape.0 == 0 || d.shape.1 == 0 then []
        else write (top_lines d ++ map (with_margins d) (enumerate_from 0 (map line_bytes drawn)) ++ bottom_lines d))
        same-lines

    same-printed : printed other ≡ printed d
    unfolding printed
    same-printed = same-written (join_with_byte 10)

    same-lined : lined other ≡ lined d
    unfolding lined
    same-lined = same-written ended_lines

-- of two drawings whose configurations hold the same
module _ (d e : Drawing) (same : HoldTheSameSettings d.config e.config) (widths : d.widths ≡ e.widths) (heights : d.heights ≡ e.heights)
    (shape : d.shape ≡ e.shape) (lines : d.lines ≡ e.lines) (color : d.color ≡ e.color) where
  but-overrides : d ≡ other e d.config
  but-overrides = λ i. record {
    config = same.but_overrides i;
    widths = widths i;
    heights = heights i;
    shape = shape i;
    lines = lines i;
    color = color i;
  }

  overrides : HasSameOverrides e d.config
  overrides = record {
    horizontal_chars = same.horizontal_chars;
    vertical_chars = same.vertical_chars;
    horizontal_colors = same.horizontal_colors;
    vertical_colors = same.vertical_colors;
  }

  pub same-settings-picture : printed d ≡ printed e
  same-settings-picture = ap printed but-overrides ∙ same-printed e d.config overrides

  pub same-settings-lines : lined d ≡ lined e
  same-settings-lines = ap lined but-overrides ∙ same-lined e d.config overrides
