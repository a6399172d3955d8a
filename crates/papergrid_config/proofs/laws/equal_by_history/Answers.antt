use Rattle.std.proofs.Common.{refl}
use Rattle.std.proofs.Math.Bool.{beq}
use Rattle.std.specs.Prelude.{nat_eq}
use Rattle.std.specs.Cmp.{bool_eq_equiv, nat_eq_equiv}
use Rattle.std.specs.List.{flat_map}
use Rattle.std.proofs.lemmas.Bool.{and_from}
use Rattle.papergrid_values.specs.contracts.alignment.AlignmentHorizontalPartialEq.TheImpl as alignment_horizontal
use Rattle.papergrid_values.specs.contracts.alignment.AlignmentVerticalPartialEq.TheImpl as alignment_vertical
use Rattle.papergrid_values.specs.contracts.ansi_buf.ANSIBufPartialEq.TheImpl as color
use Rattle.papergrid_values.specs.contracts.indent.IndentPartialEq.TheImpl as indent
use Rattle.papergrid_values.specs.contracts.offset.OffsetPartialEq.TheImpl as offset
use Rattle.papergrid_config.specs.Parts.{character_calls, color_calls, horizontal_char_calls, horizontal_color_calls, span_calls, vertical_char_calls, vertical_color_calls}
use Rattle.papergrid_tables.proofs.HistoryEqual.{border_histories_equal, override_histories_equal}
use Rattle.papergrid_maps.proofs.HistoryEqual.{map_histories_equal, span_histories_equal}
use Rattle.papergrid_config.proofs.EqualLemmas.{equal_values, optional_eq, same_color, same_horizontal, same_indent, same_offset, same_optional, same_sides, same_vertical, sides_eq}
use Rattle.papergrid_config.proofs.laws.equal_by_history.Goals as goal

pub returns-clause-told : goal.returns-clause-told
returns-clause-told c settings x y one other =
    let sides = sides_eq indent.ghosts.eq in
    let colors = sides_eq optional_eq in
    let offsets = sides_eq offset.ghosts.eq in
    and_from _ _ (map_histories_equal sides (same_sides indent.ghosts.eq same_indent) _ _ x.padding y.padding one.padding other.padding)
    (and_from _ _ (map_histories_equal colors (same_sides optional_eq same_optional) _ _ x.padding_color y.padding_color one.padding_color other.padding_color)
    (and_from _ _ (map_histories_equal beq bool_eq_equiv.refl _ _ x.trim_horizontal y.trim_horizontal one.trim_horizontal other.trim_horizontal)
    (and_from _ _ (map_histories_equal beq bool_eq_equiv.refl _ _ x.trim_vertical y.trim_vertical one.trim_vertical other.trim_vertical)
    (and_from _ _ (map_histories_equal beq bool_eq_equiv.refl _ _ x.line_alignment y.line_alignment one.line_alignment other.line_alignment)
    (and_from _ _ (map_histories_equal alignment_horizontal.ghosts.eq same_horizontal _ _ x.alignment_horizontal y.alignment_horizontal one.alignment_horizontal other.alignment_horizontal)
    (and_from _ _ (map_histories_equal alignment_vertical.ghosts.eq same_vertical _ _ x.alignment_vertical y.alignment_vertical one.alignment_vertical other.alignment_vertical)
    (and_from _ _ (map_histories_equal nat_eq nat_eq_equiv.refl _ _ x.justification y.justification one.justification other.justification)
    (and_from _ _ (map_histories_equal optional_eq same_optional _ _ x.justification_color y.justification_color one.justification_color other.justification_color)
    (and_from _ _ (border_histories_equal nat_eq nat_eq_equiv.refl (flat_map character_calls settings) x.characters y.characters one.characters other.characters)
    (and_from _ _ (border_histories_equal color.ghosts.eq same_color (flat_map color_calls settings) x.colors y.colors one.colors other.colors)
    (and_from _ _ (override_histories_equal nat_eq nat_eq_equiv.refl (flat_map horizontal_char_calls settings) x.horizontal_chars y.horizontal_chars one.horizontal_chars other.horizontal_chars)
    (and_from _ _ (override_histories_equal nat_eq nat_eq_equiv.refl (flat_map vertical_char_calls settings) x.vertical_chars y.vertical_chars one.vertical_chars other.vertical_chars)
    (and_from _ _ (override_histories_equal color.ghosts.eq same_color (flat_map horizontal_color_calls settings) x.horizontal_colors y.horizontal_colors one.horizontal_colors other.horizontal_colors)
    (and_from _ _ (override_histories_equal color.ghosts.eq same_color (flat_map vertical_color_calls settings) x.vertical_colors y.vertical_colors one.vertical_colors other.vertical_colors)
    (and_from _ _ (span_histories_equal (flat_map span_calls settings) x.spans y.spans one.spans other.spans)
    (and_from _ _ (equal_values sides (same_sides indent.ghosts.eq same_indent) one.margin other.margin)
    (and_from _ _ (equal_values colors (same_sides optional_eq same_optional) one.margin_color other.margin_color)
    (and_from _ _ (equal_values offsets (same_sides offset.ghosts.eq same_offset) one.margin_offset other.margin_offset)
    (equal_values nat_eq nat_eq_equiv.refl one.missing other.missing)))))))))))))))))))
