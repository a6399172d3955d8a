use Rattle.std.proofs.Common.{◌≡◌, ◌∙◌, ◌∷◌, ◌&&◌, [], ap, false, nat_lt, subst, sym}
use Rattle.std.specs.Prelude.{not}
use Rattle.std.proofs.lemmas.Bool.{and_from, and_left, and_right, not_from_false, not_from_true}
use Rattle.std.proofs.lemmas.Result.{on_ok_weaker}
use Rattle.papergrid_draw.specs.Characters.{crossing}
use Rattle.papergrid_draw.specs.Drawn.{OnLine}
use Rattle.papergrid_draw.specs.ForProofs.Pages.{drawing_of}
use Rattle.papergrid_draw.specs.ForProofs.Pens.{AddsStretches}
use Rattle.papergrid_draw.proofs.RuleLemmas.{column-in, crossing-none, crossing-seen, crossing-some}
use Rattle.papergrid_draw.proofs.StretchLemmas.{AddsStretches-nil}
use Rattle.papergrid_draw.proofs.page.Frame.push_crossing.Goals as goal
use Rattle.papergrid_draw.proofs.page.Frame.push_crossing.Goals.{else-is_over, then-is_over, then-not-index-via-else-not-index+then-hidden, then-not-index-via-then-not-index}

pub returns-then-not-index : goal.returns-then-not-index
returns-then-not-index c = λ texts owner.
    let row = c.args.position.row in
    let col = c.args.position.col in
    let seen = crossing-seen c.args.self.now row c.args.owner c.is_over.result c.is_over.ensures texts col (column-in c.args.self.now col c.requires) owner
    c.index.result.now c.if-is_over.hidden c.index.ensures (elim c.if-is_over.branch [
      | then-is_over w ↦ w.hidden-is ∙ ap (λ asked. asked && nat_lt c.args.owner.col col) (sym w.if-is_over.true)
      | else-is_over w ↦ w.hidden-is ∙ w.if-is_over.false ∙ ap (λ asked. asked && nat_lt c.args.owner.col col) (sym w.if-is_over.false)
    ]) in
    let none : (c.index.result.now && not c.if-is_over.hidden) ≡ false = elim c.then-not-index.branch [
      | then-not-index-via-then-not-index w ↦ and_left _ _ w.if-not-index.true
      | then-not-index-via-else-not-index+then-hidden w ↦ and_right _ _ (not_from_true _ w.if-hidden.true)
    ] in
    subst (AddsStretches _ _ _ _) (crossing-none (drawing_of c.args.self.now.table.now texts) row col (seen ∙ none)) (AddsStretches-nil _ _)

pub returns : goal.returns
returns c = on_ok_weaker c.push_crossing.result (λ added texts owner.
    let row = c.args.position.row in
    let col = c.args.position.col in
    let seen = crossing-seen c.args.self.now row c.args.owner c.is_over.result c.is_over.ensures texts col (column-in c.args.self.now col c.requires) owner
    c.index.result.now c.if-is_over.hidden c.index.ensures (elim c.if-is_over.branch [
      | then-is_over w ↦ w.hidden-is ∙ ap (λ asked. asked && nat_lt c.args.owner.col col) (sym w.if-is_over.true)
      | else-is_over w ↦ w.hidden-is ∙ w.if-is_over.false ∙ ap (λ asked. asked && nat_lt c.args.owner.col col) (sym w.if-is_over.false)
    ]) in
    subst (AddsStretches _ _ _ _) ((λ i. OnLine (crossing (c.args.self.now.read.config_is i) (c.args.self.now.read.shape_is i) c.args.position) ∷ [])
    ∙ crossing-some (drawing_of c.args.self.now.table.now texts) row col (seen ∙ and_from _ _ c.if-not-index.false (not_from_false _ c.if-hidden.false))) added)
    c.push_crossing.ensures
