use Rattle.std.proofs.Common.{◌&&◌, ◌∙◌, sym, eqb}
use Rattle.std.specs.HashMap.{entries_eq}
use Rattle.papergrid_tables.specs.ForProofs.BorderEq.{horizontal_line_eq, vertical_line_eq}
use Rattle.papergrid_tables.proofs.BorderEqual.{frame_by_parts, horizontal_by_parts, vertical_by_parts}
use Rattle.papergrid_values.proofs.EqualLemmas.{numbers_eq-from_entries, positions_eq-from_entries}
use Rattle.papergrid_tables.proofs.border_table.BorderTablePartialEq.eq.Goals as goal

pub returns : goal.returns
returns g c =
    let eq = g.T.PartialEq.eq in
    let s = c.self.inside in
    let t = c.other.inside in
    let frame = c.eq-frame.ensures ∙ frame_by_parts eq s.frame t.frame in
    let horizontal_lines =
    c.eq-horizontal_lines.ensures
    ∙ (λ i. entries_eq eqb (λ p q. horizontal_by_parts eq p.1 q.1 i) s.horizontal_lines.values.entries t.horizontal_lines.values.entries)
    ∙ sym (numbers_eq-from_entries (horizontal_line_eq eq) s.horizontal_lines.values.entries t.horizontal_lines.values.entries) in
    let vertical_lines =
    c.eq-vertical_lines.ensures
    ∙ (λ i. entries_eq eqb (λ p q. vertical_by_parts eq p.1 q.1 i) s.vertical_lines.values.entries t.vertical_lines.values.entries)
    ∙ sym (numbers_eq-from_entries (vertical_line_eq eq) s.vertical_lines.values.entries t.vertical_lines.values.entries) in
    let horizontal_edges = c.eq-horizontal_edges.ensures ∙ sym (positions_eq-from_entries eq s.horizontal_edges.values.entries t.horizontal_edges.values.entries) in
    let vertical_edges = c.eq-vertical_edges.ensures ∙ sym (positions_eq-from_entries eq s.vertical_edges.values.entries t.vertical_edges.values.entries) in
    let corners = c.eq-corners.ensures ∙ sym (positions_eq-from_entries eq s.corners.values.entries t.corners.values.entries) in
    rw (← c.self.view_is, ← c.other.view_is)
    (λ i. c.eq-global.ensures i && (frame i && (horizontal_lines i && (vertical_lines i && (horizontal_edges i && (vertical_edges i && corners i))))))
