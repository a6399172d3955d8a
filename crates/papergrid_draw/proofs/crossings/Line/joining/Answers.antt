use Rattle.std.proofs.Common.{◌≡◌, ◌∙◌, ◌<◌, ◌≤◌, ◌-◌, ap, arith}
use Rattle.std.specs.Prelude.{not}
use Rattle.std.proofs.lemmas.Bool.{le-ltb, lt-ltb}
use Rattle.papergrid_layout.specs.Places.{TableView}
use Rattle.papergrid_draw.specs.Drawings.{Drawing, layout_of}
use Rattle.papergrid_draw.specs.Crossings.{bare_drawing, is_seen_above, is_seen_across, is_seen_down, is_seen_left, junction}
use Rattle.papergrid_draw.proofs.crossings.Line.joining.Goals as goal
use Rattle.papergrid_draw.proofs.crossings.Line.joining.Goals.{then-self-gt0, else-self-gt0, then-self, else-self, then-column-gt0, else-column-gt0, then-column-self, else-column-self}

pub returns : goal.returns
returns c =
    let line = c.args.self.now in
    let column = c.args.column in
    let row = line.row in
    let d : Drawing = bare_drawing line.config.now line.shape in
    let table : TableView = layout_of d in
    let known = c.requires.line in
    let within : row ≤ line.shape.0 = known.within in
    let inside : column ≤ line.shape.1 = c.requires.inside in
    let above : c.if-self-gt0.above ≡ is_seen_above d row column = elim c.if-self-gt0.branch [
      | then-self-gt0 w ↦ (let begun : 0 < row = w.if-self-gt0.true in
          rw (lt-ltb 0 row begun) (rw (lt-ltb (row - 1) line.shape.0 (omega arith)) (rw c.requires.vertical
          (w.above-is ∙ ap not (w.is_joined.ensures table (row - 1) (known.above begun) known.many_above)))))
      | else-self-gt0 w ↦ rw (le-ltb 0 row w.if-self-gt0.false) (w.above-is ∙ le-ltb 0 row w.if-self-gt0.false)
    ] in
    let below : c.if-self.below ≡ is_seen_down d row column = elim c.if-self.branch [
      | then-self w ↦ rw (lt-ltb row line.shape.0 w.if-self.true) (rw c.requires.vertical
          (w.below-is ∙ ap not (w.is_joined-then-self.ensures table row (known.below w.if-self.true) known.many_below)))
      | else-self w ↦ rw (le-ltb row line.shape.0 w.if-self.false) (w.below-is ∙ le-ltb row line.shape.0 w.if-self.false)
    ] in
    let left : c.if-column-gt0.left ≡ is_seen_left d row column = elim c.if-column-gt0.branch [
      | then-column-gt0 w ↦ (let begun : 0 < column = w.if-column-gt0.true in
          rw (lt-ltb 0 column begun) (rw (lt-ltb (column - 1) line.shape.1 (omega arith)) (rw c.requires.horizontal
          (w.left-is ∙ ap not w.is_under.ensures))))
      | else-column-gt0 w ↦ rw (le-ltb 0 column w.if-column-gt0.false) (w.left-is ∙ le-ltb 0 column w.if-column-gt0.false)
    ] in
    let right : c.if-column-self.right ≡ is_seen_across d row column = elim c.if-column-self.branch [
      | then-column-self w ↦ rw (lt-ltb column line.shape.1 w.if-column-self.true) (rw c.requires.horizontal
          (w.right-is ∙ ap not w.is_under-then-column-self.ensures))
      | else-column-self w ↦ rw (le-ltb column line.shape.1 w.if-column-self.false) (w.right-is ∙ le-ltb column line.shape.1 w.if-column-self.false)
    ] in
    c.joining.ensures ∙ (λ i. junction c.args.junctions.now (above i) (below i) (left i) (right i))
