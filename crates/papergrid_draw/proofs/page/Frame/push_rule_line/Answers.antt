use Rattle.std.proofs.Common.{rules, ◌∙◌, ◌<◌, ◌∷◌, [], ap, length, option_copied, refl, string_bytes, subst, sym}
use Rattle.std.specs.Prelude.{None}
use Rattle.std.proofs.lemmas.Bool.{and_from, and_left, not_from_false}
use Rattle.std.proofs.lemmas.List.{length-set}
use Rattle.std.proofs.lemmas.Result.{on_ok_weaker}
use Rattle.papergrid_draw.specs.Characters.{crossing}
use Rattle.papergrid_draw.specs.Drawn.{OnLine, crossing_stretch}
use borrow.Author.Rules.{scaled_Fits}
use Rattle.papergrid_draw.specs.ForProofs.Pages.{drawing_of, row_start, text_start}
use Rattle.papergrid_draw.specs.ForProofs.Pens.{AddsStretches}
use Rattle.papergrid_draw.specs.declared.characters.Rule.{Rule}
use Rattle.papergrid_draw.proofs.LineLemmas.{frame-columns, slot-waits}
use Rattle.papergrid_draw.proofs.RuleLemmas.{adds-same, column-in, column-there, columns-all, columns-past, crossing-last, crossing-none, crossing-some, last-kept, last-line, rule-done, whole-column-adds}
use Rattle.papergrid_draw.proofs.SlotLemmas.{slots-end, slots-start, slots-step}
use Rattle.papergrid_draw.proofs.StretchLemmas.{AddsStretches-nil}
use Rattle.papergrid_draw.proofs.page.Frame.push_rule_line.Goals as goal
use Rattle.papergrid_draw.proofs.page.Frame.push_rule_line.Goals.{else-index, then-index+in_ok-push_crossing}

pub loop-col-init : goal.loop-col-init
loop-col-init g c = (
  refl,
  (λ texts slots. subst (λ used. AddsStretches None used (string_bytes c.args.line.now) (string_bytes c.args.line.now) [])
      (sym c.new-rule.ensures) (AddsStretches-nil None (string_bytes c.args.line.now))),
  (λ texts below line slots.
      let d = drawing_of c.args.self.now.table.now texts in
      slots-start d c.args.row (row_start d c.args.row) (text_start d c.args.row) c.args.slots.now slots),
)

pub offset_bounds-slots-col : goal.offset_bounds-slots-col
offset_bounds-slots-col g c =
    let within : c.loop-col.col < length c.args.slots.now =
    column-there c.args.self.now c.args.slots.now c.loop-col.col c.requires.1.0 c.loop-col-test.true in
    scaled_Fits _ _ _ within (search rules)

pub bounds-slots-col : goal.bounds-slots-col
bounds-slots-col g c =
    column-there c.args.self.now c.loop-col.slots c.loop-col.col (c.loop-col.invariant.0 ∙ c.requires.1.0) c.loop-col-test.true

pub index-requires : goal.index-requires
index-requires g c = last-kept c.args.self.now

pub push_rule_column-requires : goal.push_rule_column-requires
push_rule_column-requires g c =
    let told = c.requires in
    let d = drawing_of c.args.self.now.table.now told.0 in
    let inside = column-in c.args.self.now c.loop-col.col c.loop-col-test.true in (
      told.0,
      record {
        column = inside;
        drawn = told.1.1;
        kept = λ below. slot-waits d c.args.row c.loop-col.col (row_start d c.args.row) (text_start d c.args.row) c.loop-col.slots
            c.index-slots-col.result inside (c.loop-col.invariant.2 told.0 below told.1.1 (told.1.2 below));
      },
    )

pub loop-col-preserved : goal.loop-col-preserved
loop-col-preserved g c = (
  length-set c.loop-col.slots c.loop-col.col c.push_rule_column.new.slot ∙ c.loop-col.invariant.0,
  (λ texts are.
      let d = drawing_of c.args.self.now.table.now texts in
      let row = c.args.row in
      let col = c.loop-col.col in
      let inside = column-in c.args.self.now col c.loop-col-test.true in
      whole-column-adds d row col (c.loop-col.invariant.1 texts are)
      (c.in_ok-push_rule_column.ensures.adds texts (λ below.
      slot-waits d row col (row_start d row) (text_start d row) c.loop-col.slots c.index-slots-col.result inside
      (c.loop-col.invariant.2 texts below c.requires.1.1 (are below))))),
  (λ texts below line are.
      let d = drawing_of c.args.self.now.table.now texts in
      let row = c.args.row in
      let col = c.loop-col.col in
      let inside = column-in c.args.self.now col c.loop-col-test.true in
      let kept = c.loop-col.invariant.2 texts below line are in
      slots-step d row col (row_start d row) (text_start d row) c.loop-col.slots c.push_rule_column.new.slot inside kept
      (c.in_ok-push_rule_column.ensures.kept texts below line
      (slot-waits d row col (row_start d row) (text_start d row) c.loop-col.slots c.index-slots-col.result inside kept))),
)

pub returns-clause-bytes : goal.returns-clause-bytes
returns-clause-bytes g c = on_ok_weaker c.end.result (λ ended texts within are.
    let d = drawing_of c.args.self.now.table.now texts in
    let row = c.args.row in
    let last = c.args.self.now.shape.1 in
    let wide = frame-columns c.args.self.now in
    let all = columns-all c.args.self.now c.loop-col.col c.loop-col-test.false c.loop-col.auto.col-end in
    let line = last-line c.args.self.now texts c.index.result.now c.index.ensures in
    let crossed : AddsStretches (option_copied c.loop-col.rule.used) (option_copied c.if-index.rule.used) (string_bytes c.loop-col.line)
    (string_bytes c.if-index.line) (crossing_stretch d row last) = elim c.if-index.branch [
      | then-index+in_ok-push_crossing w ↦
          adds-same (ap (λ (rule : Rule). option_copied rule.used) w.rule-is) (ap string_bytes w.line-is)
          (subst (AddsStretches _ _ _ _) ((λ i. OnLine (crossing (c.args.self.now.read.config_is i) (c.args.self.now.read.shape_is i) (record { row = row; col = last })) ∷ [])
          ∙ crossing-some d row last (and_from _ _ (line ∙ w.if-index.true) (not_from_false _ (crossing-last d row last (sym wide)))))
          w.in_ok-push_crossing.ensures)
      | else-index w ↦
          adds-same (ap (λ (rule : Rule). option_copied rule.used) w.rule-is) (ap string_bytes w.line-is)
          (subst (AddsStretches _ _ _ _) (crossing-none d row last (and_left _ _ (line ∙ w.if-index.false)))
          (AddsStretches-nil (option_copied c.loop-col.rule.used) (string_bytes c.loop-col.line)))
    ] in
    rule-done d row c.loop-col.col last all wide (c.loop-col.invariant.1 texts are) crossed ended)
    c.end.ensures.bytes

pub returns-clause-kept : goal.returns-clause-kept
returns-clause-kept g c = on_ok_weaker c.end.result (λ ended texts below line are.
    let d = drawing_of c.args.self.now.table.now texts in
    let row = c.args.row in
    slots-end d row (row_start d row) (text_start d row) c.loop-col.col c.loop-col.slots
    (columns-past c.args.self.now c.loop-col.col c.loop-col-test.false)
    (c.loop-col.invariant.2 texts below line are))
    c.end.ensures.bytes
