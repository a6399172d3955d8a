use Rattle.std.proofs.Common.{◌∙◌, ap, map}
use Rattle.papergrid_csv.specs.Rows.{greatest_length, row_texts, held_texts}
use Rattle.papergrid_csv.proofs.ReadLemmas.{rows-are}
use Rattle.papergrid_csv.proofs.reading.read_rows.Goals as goal

pub returns-clause-rows : goal.returns-clause-rows
returns-clause-rows c =
    rows-are c.args.reading c.args.input.now c.greatest_length-columns.result (held_texts c.in_ok-shown.shown) (held_texts c.in_ok-rows.rows)
    c.in_default.ensures c.in_ok-shown.ensures.shown
    (c.greatest_length-columns.ensures ∙ ap (λ rows. greatest_length (map row_texts rows)) c.deref.ensures.value) c.in_ok-rows.ensures
