use Rattle.std.proofs.Common.{◌∙◌, ap, map}
use Rattle.std.proofs.lemmas.List.{map-append}
use Rattle.csv.specs.Records.{fields_of}
use Rattle.papergrid_csv.specs.Rows.{row_texts}
use Rattle.papergrid_csv.specs.Spelling.{spelled}
use Rattle.papergrid_csv.proofs.ReadLemmas.{field-end, shown-field}
use Rattle.papergrid_csv.proofs.reading.shown_record.Goals as goal

pub loop-field-preserved : goal.loop-field-preserved
loop-field-preserved c =
    let inv = c.loop-field.invariant in
    let s = c.in-Some.ensures.steps in (
      rw s.0 inv.0,
      shown-field c.args.reading (fields_of c.args.fields.now) c.loop-field.field-iterator.at c.next.new.self.at c.in-Some.field.now c.in_ok-spell.field-0.now (row_texts c.loop-field.row) (row_texts c.push.new.self)
          inv.1 (rw inv.0 at s.1) s.2 c.in_ok-spell.ensures
          (ap (map (λ text. text.now)) c.in_ok-push.ensures.items ∙ map-append (λ text. text.now) c.loop-field.row.items _),
    )

pub returns : goal.returns
returns c =
    let inv = c.loop-field.invariant in
    let s = c.in-None.ensures.steps in
    inv.1 ∙ ap (map (spelled c.args.reading)) (field-end (fields_of c.args.fields.now) c.loop-field.field-iterator.at (rw inv.0 at s.1))
