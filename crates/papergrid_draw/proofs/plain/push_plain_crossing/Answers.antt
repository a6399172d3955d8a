use Rattle.std.proofs.Common.{◌≤◌, ◌∷◌, [], ◌∙◌, arith, string_bytes, subst}
use Rattle.std.specs.Prelude.{option_copied}
use Rattle.std.proofs.lemmas.Bool.{and_from, and_left, not_from_false}
use Rattle.std.proofs.lemmas.Result.{on_ok_weaker}
use Rattle.papergrid_draw.specs.Characters.{crossing}
use Rattle.papergrid_draw.specs.Drawn.{OnLine}
use Rattle.papergrid_draw.specs.ForProofs.Pages.{drawing_of}
use Rattle.papergrid_draw.specs.ForProofs.Pens.{AddsStretches}
use Rattle.papergrid_draw.proofs.LineLemmas.{frame-columns, frame-line}
use Rattle.papergrid_draw.proofs.PlainLemmas.{plain-crossing}
use Rattle.papergrid_draw.proofs.RuleLemmas.{crossing-none, crossing-some}
use Rattle.papergrid_draw.proofs.StretchLemmas.{AddsStretches-nil}
use Rattle.papergrid_draw.proofs.plain.push_plain_crossing.Goals as goal

pub returns-then-not-index : goal.returns-then-not-index
returns-then-not-index c = λ texts.
    let d = drawing_of c.args.frame.now.table.now texts in
    let p = c.args.position in
    let within : p.col ≤ c.args.frame.now.shape.1 = (let wide = frame-columns c.args.frame.now in omega (arith, wide, c.requires.col_in)) in
    let none = frame-line c.args.frame.now texts p.col c.index.result.now within c.index.ensures ∙ c.if-not-index.true in
    subst (AddsStretches _ _ _ _) (crossing-none d p.row p.col (and_left _ _ none))
    (AddsStretches-nil (option_copied c.args.rule.now.used) (string_bytes c.args.line.now))

pub returns : goal.returns
returns c = on_ok_weaker c.push_crossing.result (λ added texts.
    let d = drawing_of c.args.frame.now.table.now texts in
    let p = c.args.position in
    let within : p.col ≤ c.args.frame.now.shape.1 = (let wide = frame-columns c.args.frame.now in omega (arith, wide, c.requires.col_in)) in
    let some = frame-line c.args.frame.now texts p.col c.index.result.now within c.index.ensures ∙ c.if-not-index.false in
    subst (AddsStretches _ _ _ _) ((λ i. OnLine (crossing (c.args.frame.now.read.config_is i) (c.args.frame.now.read.shape_is i) p) ∷ [])
    ∙ crossing-some d p.row p.col (and_from _ _ some (not_from_false _ (plain-crossing d c.requires.plain p.row p.col c.requires.col_in)))) added)
    c.push_crossing.ensures
