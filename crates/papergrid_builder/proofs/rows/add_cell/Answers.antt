use Rattle.std.proofs.Common.{◌≡◌, ◌∙◌, ◌<◌, ◌++◌, ◌∷◌, [], ap, arith, inl, inr, length, length-append, subst, sym, vec_len}
use Rattle.std.proofs.lemmas.Bool.Decides.{nat_tests}
use Rattle.std.proofs.lemmas.List.{nil_from_length}
use Rattle.papergrid_builder.specs.BuilderStates.{in_last_row}
use Rattle.papergrid_builder.specs.ForProofs.Texts.{AreStarts, rows_told}
use Rattle.papergrid_builder.proofs.TextLemmas.{after-push, new-row, rows-go-on, rows-more, starts-after, starts-more}
use Rattle.papergrid_builder.proofs.rows.add_cell.Goals as goal
use Rattle.papergrid_builder.proofs.rows.add_cell.Goals.{else-goes_on-via-then-goes_on+else-not-is_empty, else-goes_on-via-else-goes_on}

pub returns-then-not-is_empty-clause-ok : goal.returns-then-not-is_empty-clause-ok
returns-then-not-is_empty-clause-ok c =
    let some : 0 < vec_len c.args.starts.now = grind (arith, nat_tests, c.if-not-is_empty.true, c.is_empty.ensures) in
    let told = rows-go-on c.args.cells.now c.args.cell.now c.args.starts.now.items c.requires (omega (arith, some, c.args.starts.now.ok.0)) in
    let rows = rows_told c.args.cells.now c.args.starts.now.items in
    rw c.if-goes_on.true (after-push c.args.cells.now c.push.new.self c.args.cell.now c.args.starts.now.items (in_last_row rows c.args.cell.now) told c.push.result c.push.ensures.ok)

pub returns-then-not-is_empty-clause-starts : goal.returns-then-not-is_empty-clause-starts
returns-then-not-is_empty-clause-starts c =
    starts-after c.args.cells.now c.push.new.self c.args.cell.now c.args.starts.now.items c.requires c.push.result c.push.ensures.ok c.push.ensures.err

pub returns-in-Ok-clause-ok : goal.returns-in-Ok-clause-ok
returns-in-Ok-clause-ok c =
    let told = rows-more c.args.cells.now (c.args.cell.now ∷ []) c.args.starts.now.items c.requires in
    let at : rows_told c.push-3.new.self c.push-2.new.self.items ≡ rows_told c.args.cells.now c.args.starts.now.items ++ (c.args.cell.now ∷ []) ∷ [] =
    (λ i. rows_told (c.in-Ok.ensures.ok i) ((c.in_ok-push.ensures.items ∙ ap (λ n. c.args.starts.now.items ++ n ∷ []) c.len.ensures) i)) ∙ told in
    at ∙ sym (new-row c.args.goes_on (rows_told c.args.cells.now c.args.starts.now.items) c.args.cell.now (elim c.else-goes_on.branch [
      | else-goes_on-via-then-goes_on+else-not-is_empty w ↦
          let none : vec_len c.args.starts.now ≡ 0 = grind (arith, nat_tests, w.if-not-is_empty.false, w.is_empty.ensures) in
          inr (ap (rows_told c.args.cells.now) (nil_from_length c.args.starts.now.items (omega (arith, none, c.args.starts.now.ok.0))))
      | else-goes_on-via-else-goes_on w ↦ inl w.if-goes_on.false
    ]))

pub returns-in-Ok-clause-starts : goal.returns-in-Ok-clause-starts
returns-in-Ok-clause-starts c =
    subst (AreStarts (length c.push-3.new.self)) (sym (c.in_ok-push.ensures.items ∙ ap (λ n. c.args.starts.now.items ++ n ∷ []) c.len.ensures))
    (starts-more (length c.args.cells.now) (length c.push-3.new.self) c.args.starts.now.items
    (omega (arith, ap length c.in-Ok.ensures.ok, length-append c.args.cells.now (c.args.cell.now ∷ []))) c.requires)
