use Rattle.std.proofs.Common.{ap}
use Rattle.std.proofs.Math.Bool.{beq}
use Rattle.std.specs.Prelude.{nat_eq}
use Rattle.std.specs.Cmp.{bool_eq_equiv, nat_eq_equiv}
use Rattle.std.proofs.lemmas.Bool.{and_from, and_parts, eqb-true}
use Rattle.papergrid_values.specs.contracts.alignment.AlignmentHorizontalPartialEq.TheImpl as alignment_horizontal
use Rattle.papergrid_values.specs.contracts.alignment.AlignmentVerticalPartialEq.TheImpl as alignment_vertical
use Rattle.papergrid_values.specs.contracts.ansi_buf.ANSIBufPartialEq.TheImpl as color
use Rattle.papergrid_values.specs.contracts.indent.IndentPartialEq.TheImpl as indent
use Rattle.papergrid_values.specs.contracts.offset.OffsetPartialEq.TheImpl as offset
use Rattle.papergrid_tables.proofs.BorderAgree.{and_four}
use Rattle.papergrid_maps.proofs.StoredAgree.{spans_agree}
use Rattle.papergrid_config.proofs.EqualLemmas.{optional_eq, same_color, same_horizontal, same_indent, same_offset, same_optional, same_sides, same_vertical, sides_eq}
use Rattle.papergrid_config.proofs.SameLemmas.{equal_at, equal_borders, equal_maps, equal_overrides, equal_spans, exact_bool, exact_borders, exact_color, exact_horizontal, exact_indent, exact_map, exact_offset, exact_optional, exact_overrides, exact_sides, exact_vertical, spans_are}
use Rattle.papergrid_config.proofs.laws.equal_configurations.Goals as goal

pub returns : goal.returns
returns c x y = (
  λ h.
      let first = and_four h in
      let second = and_four first.3 in
      let third = and_four second.3 in
      let fourth = and_four third.3 in
      let fifth = and_four fourth.3 in
      let sixth = and_four fifth.3 in
      let last = and_parts _ _ sixth.3 in
      record {
        but_overrides = λ i. record {
          alloc = x.alloc;
          padding = exact_map (sides_eq indent.ghosts.eq) (exact_sides indent.ghosts.eq exact_indent) x.padding y.padding first.0 i;
          padding_color = exact_map (sides_eq optional_eq) (exact_sides optional_eq exact_optional) x.padding_color y.padding_color first.1 i;
          trim_horizontal = exact_map beq exact_bool x.trim_horizontal y.trim_horizontal first.2 i;
          trim_vertical = exact_map beq exact_bool x.trim_vertical y.trim_vertical second.0 i;
          line_alignment = exact_map beq exact_bool x.line_alignment y.line_alignment second.1 i;
          alignment_horizontal = exact_map alignment_horizontal.ghosts.eq exact_horizontal x.alignment_horizontal y.alignment_horizontal second.2 i;
          alignment_vertical = exact_map alignment_vertical.ghosts.eq exact_vertical x.alignment_vertical y.alignment_vertical third.0 i;
          justification = exact_map nat_eq eqb-true x.justification y.justification third.1 i;
          justification_color = exact_map optional_eq exact_optional x.justification_color y.justification_color third.2 i;
          characters = exact_borders nat_eq eqb-true x.characters y.characters fourth.0 i;
          colors = exact_borders color.ghosts.eq exact_color x.colors y.colors fourth.1 i;
          horizontal_chars = x.horizontal_chars;
          vertical_chars = x.vertical_chars;
          horizontal_colors = x.horizontal_colors;
          vertical_colors = x.vertical_colors;
          spans = spans_are x.spans y.spans ((spans_agree x.spans y.spans).0 sixth.0) i;
          margin = (exact_sides indent.ghosts.eq exact_indent) x.margin y.margin sixth.1 i;
          margin_color = (exact_sides optional_eq exact_optional) x.margin_color y.margin_color sixth.2 i;
          margin_offset = (exact_sides offset.ghosts.eq exact_offset) x.margin_offset y.margin_offset last.0 i;
          missing = eqb-true x.missing y.missing last.1 i;
        };
        horizontal_chars = exact_overrides nat_eq eqb-true x.horizontal_chars y.horizontal_chars fourth.2;
        vertical_chars = exact_overrides nat_eq eqb-true x.vertical_chars y.vertical_chars fifth.0;
        horizontal_colors = exact_overrides color.ghosts.eq exact_color x.horizontal_colors y.horizontal_colors fifth.1;
        vertical_colors = exact_overrides color.ghosts.eq exact_color x.vertical_colors y.vertical_colors fifth.2;
      },
  λ same.
      and_from _ _ (equal_maps (sides_eq indent.ghosts.eq) (same_sides indent.ghosts.eq same_indent) (ap (λ c. c.padding) same.but_overrides))
      (and_from _ _ (equal_maps (sides_eq optional_eq) (same_sides optional_eq same_optional) (ap (λ c. c.padding_color) same.but_overrides))
      (and_from _ _ (equal_maps beq bool_eq_equiv.refl (ap (λ c. c.trim_horizontal) same.but_overrides))
      (and_from _ _ (equal_maps beq bool_eq_equiv.refl (ap (λ c. c.trim_vertical) same.but_overrides))
      (and_from _ _ (equal_maps beq bool_eq_equiv.refl (ap (λ c. c.line_alignment) same.but_overrides))
      (and_from _ _ (equal_maps alignment_horizontal.ghosts.eq same_horizontal (ap (λ c. c.alignment_horizontal) same.but_overrides))
      (and_from _ _ (equal_maps alignment_vertical.ghosts.eq same_vertical (ap (λ c. c.alignment_vertical) same.but_overrides))
      (and_from _ _ (equal_maps nat_eq nat_eq_equiv.refl (ap (λ c. c.justification) same.but_overrides))
      (and_from _ _ (equal_maps optional_eq same_optional (ap (λ c. c.justification_color) same.but_overrides))
      (and_from _ _ (equal_borders nat_eq nat_eq_equiv.refl (ap (λ c. c.characters) same.but_overrides))
      (and_from _ _ (equal_borders color.ghosts.eq same_color (ap (λ c. c.colors) same.but_overrides))
      (and_from _ _ (equal_overrides nat_eq nat_eq_equiv.refl x.horizontal_chars y.horizontal_chars same.horizontal_chars)
      (and_from _ _ (equal_overrides nat_eq nat_eq_equiv.refl x.vertical_chars y.vertical_chars same.vertical_chars)
      (and_from _ _ (equal_overrides color.ghosts.eq same_color x.horizontal_colors y.horizontal_colors same.horizontal_colors)
      (and_from _ _ (equal_overrides color.ghosts.eq same_color x.vertical_colors y.vertical_colors same.vertical_colors)
      (and_from _ _ (equal_spans (ap (λ c. c.spans) same.but_overrides))
      (and_from _ _ (equal_at (sides_eq indent.ghosts.eq) (same_sides indent.ghosts.eq same_indent) (ap (λ c. c.margin) same.but_overrides))
      (and_from _ _ (equal_at (sides_eq optional_eq) (same_sides optional_eq same_optional) (ap (λ c. c.margin_color) same.but_overrides))
      (and_from _ _ (equal_at (sides_eq offset.ghosts.eq) (same_sides offset.ghosts.eq same_offset) (ap (λ c. c.margin_offset) same.but_overrides))
      (equal_at nat_eq nat_eq_equiv.refl (ap (λ c. c.missing) same.but_overrides)))))))))))))))))))),
)
