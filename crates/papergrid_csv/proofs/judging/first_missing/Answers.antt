use Rattle.std.proofs.Common.{◌∙◌, map, sym}
use Rattle.papergrid_csv.specs.Requests.{first_row}
use Rattle.papergrid_csv.specs.Rows.{row_texts}
use Rattle.papergrid_csv.proofs.JudgingLemmas.{missing-at, missing-none}
use Rattle.papergrid_csv.proofs.judging.first_missing.Goals as goal

pub returns-then-not-is_found : goal.returns-then-not-is_found
returns-then-not-is_found c =
    let head = first_row (map row_texts c.args.rows.now) in
    missing-at head c.args.entries.now c.loop-index.index c.index-entries-index.result c.loop-index-test.true c.loop-index.invariant
    (sym c.is_found.ensures ∙ c.if-not-is_found.true)

pub returns : goal.returns
returns c = missing-none (first_row (map row_texts c.args.rows.now)) c.args.entries.now c.loop-index.index c.loop-index-test.false c.loop-index.invariant
