use Rattle.std.proofs.Common.{◌≡◌, ◌∙◌, ℕ}
use Rattle.std.specs.contracts.prelude.OptionClone.TheImpl.{by_variants}
use Rattle.std.proofs.lemmas.Map.Entries.{entries_from_clone}
use Rattle.papergrid_values.specs.declared.horizontal_line.HorizontalLine.{HorizontalLine}
use Rattle.papergrid_values.specs.declared.vertical_line.VerticalLine.{VerticalLine}
use Rattle.papergrid_values.specs.declared.position.Position.{Position}
use Rattle.papergrid_tables.proofs.BorderHistory.{table_of}
use Rattle.papergrid_values.specs.declared.direction.Direction.TheVariants.{Columns, Rows}
use Rattle.papergrid_values.proofs.CloneLemmas.{cloned_frame}
use Rattle.papergrid_tables.proofs.PartCopies.{counts_copied, ends_copied, horizontal_line_copy, keys_copied, part_copy, part_set, vertical_line_copy}
use Rattle.papergrid_tables.proofs.border_table.BorderTableClone.clone.Goals as goal

pub returns : goal.returns
returns g c = record {
  cases = λ same.
      let T = g.row.T.Denot in
      let old = c.self.inside in
      let global : c.in_ok-global.global ≡ old.global =
      part_copy (by_variants g.row.T g.T.Clone g.T.Clone-dict g.T.Destruct-dict) (λ x k. k) (λ x k. k) same old.global c.in_ok-global.global c.in_ok-global.ensures.cases in
      let frame : c.in_ok-frame.frame ≡ old.frame =
      cloned_frame (by_variants g.row.T g.T.Clone g.T.Clone-dict g.T.Destruct-dict) (part_copy (by_variants g.row.T g.T.Clone g.T.Clone-dict g.T.Destruct-dict) (λ x k. k) (λ x k. k) same) old.frame c.in_ok-frame.frame c.in_ok-frame.ensures.cases in
      let horizontal_lines = entries_from_clone _ _ (λ (x y : ℕ) k. k) (λ (x y : HorizontalLine T) h. horizontal_line_copy (by_variants g.row.T g.T.Clone g.T.Clone-dict g.T.Destruct-dict) (λ x k. k) (λ x k. k) same x y h.0 h.1.0 h.1.1.0 h.1.1.1) _ _ c.in_ok-horizontal_lines.ensures.cases.0 in
      let vertical_lines = entries_from_clone _ _ (λ (x y : ℕ) k. k) (λ (x y : VerticalLine T) h. vertical_line_copy (by_variants g.row.T g.T.Clone g.T.Clone-dict g.T.Destruct-dict) (λ x k. k) (λ x k. k) same x y h.0 h.1.0 h.1.1.0 h.1.1.1) _ _ c.in_ok-vertical_lines.ensures.cases.0 in
      let horizontal_edges = entries_from_clone _ _ (λ (x y : Position) h. h) same _ _ c.in_ok-horizontal_edges.ensures.cases.0 in
      let vertical_edges = entries_from_clone _ _ (λ (x y : Position) h. h) same _ _ c.in_ok-vertical_edges.ensures.cases.0 in
      let corners = entries_from_clone _ _ (λ (x y : Position) h. h) same _ _ c.in_ok-corners.ensures.cases.0 in
      (λ i. table_of (global i) (frame i) (horizontal_lines i) (vertical_lines i) (horizontal_edges i) (vertical_edges i) (corners i)) ∙ c.self.view_is;
}

pub invariant_of-result : goal.invariant_of-result
invariant_of-result g c =
    let T = g.row.T.Denot in
    let old = c.self.inside in
    record {
      ends_of_horizontal = ends_copied _ _ _ _ old.horizontal_lines c.in_ok-horizontal_lines.horizontal_lines (λ (x y : ℕ) k. k)
          (λ (x y : HorizontalLine T) h. part_set (by_variants g.row.T g.T.Clone g.T.Clone-dict g.T.Destruct-dict) (λ x k. k) (λ x k. k) x.left y.left h.1.1.0) (λ (x y : HorizontalLine T) h. part_set (by_variants g.row.T g.T.Clone g.T.Clone-dict g.T.Destruct-dict) (λ x k. k) (λ x k. k) x.right y.right h.1.1.1)
          c.in_ok-horizontal_lines.ensures.cases.0 c.in_ok-horizontal_lines.ensures.cases.1.0 c.in_ok-horizontal_lines.ensures.cases.1.1 c.self.invariant.ends_of_horizontal;
      ends_of_vertical = ends_copied _ _ _ _ old.vertical_lines c.in_ok-vertical_lines.vertical_lines (λ (x y : ℕ) k. k)
          (λ (x y : VerticalLine T) h. part_set (by_variants g.row.T g.T.Clone g.T.Clone-dict g.T.Destruct-dict) (λ x k. k) (λ x k. k) x.top y.top h.1.1.0) (λ (x y : VerticalLine T) h. part_set (by_variants g.row.T g.T.Clone g.T.Clone-dict g.T.Destruct-dict) (λ x k. k) (λ x k. k) x.bottom y.bottom h.1.1.1)
          c.in_ok-vertical_lines.ensures.cases.0 c.in_ok-vertical_lines.ensures.cases.1.0 c.in_ok-vertical_lines.ensures.cases.1.1 c.self.invariant.ends_of_vertical;
      rows_of_edges = counts_copied _ _ Rows old.horizontal_edges.on_lines.counts c.in_ok-horizontal_edges.horizontal_edges.on_lines.counts _ _ (λ (x y : ℕ) k. k) (λ (x y : ℕ) k. k) c.in_ok-horizontal_edges.ensures.cases.1
          (keys_copied _ _ (λ (x y : Position) h. h) _ _ c.in_ok-horizontal_edges.ensures.cases.0) c.self.invariant.rows_of_edges;
      columns_of_edges = counts_copied _ _ Columns old.vertical_edges.on_lines.counts c.in_ok-vertical_edges.vertical_edges.on_lines.counts _ _ (λ (x y : ℕ) k. k) (λ (x y : ℕ) k. k) c.in_ok-vertical_edges.ensures.cases.1
          (keys_copied _ _ (λ (x y : Position) h. h) _ _ c.in_ok-vertical_edges.ensures.cases.0) c.self.invariant.columns_of_edges;
      lines_of_corners = (
        counts_copied _ _ Rows old.corners.in_rows.counts c.in_ok-corners.corners.in_rows.counts _ _ (λ (x y : ℕ) k. k) (λ (x y : ℕ) k. k) c.in_ok-corners.ensures.cases.1.0
            (keys_copied _ _ (λ (x y : Position) h. h) _ _ c.in_ok-corners.ensures.cases.0) c.self.invariant.lines_of_corners.0,
        counts_copied _ _ Columns old.corners.in_columns.counts c.in_ok-corners.corners.in_columns.counts _ _ (λ (x y : ℕ) k. k) (λ (x y : ℕ) k. k) c.in_ok-corners.ensures.cases.1.1
            (keys_copied _ _ (λ (x y : Position) h. h) _ _ c.in_ok-corners.ensures.cases.0) c.self.invariant.lines_of_corners.1,
      );
    }
