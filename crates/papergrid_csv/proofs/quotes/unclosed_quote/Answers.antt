use Rattle.std.proofs.Common.{refl}
use Rattle.papergrid_csv.proofs.QuoteLemmas.{short-unmarked, tells-quoted, tsv-closed, unclosed-from}
use Rattle.papergrid_csv.proofs.quotes.unclosed_quote.Goals as goal

pub overflow_sub-result : goal.overflow_sub-result
overflow_sub-result c = short-unmarked c.args.input.now c.without_bom-text.result.now c.without_bom-text.ensures

pub returns-then-not-ends_quoted : goal.returns-then-not-ends_quoted
returns-then-not-ends_quoted c unclosed =
    let tells = tells-quoted c.args.reading c.in-Csv.delimiter c.args.input.now c.without_bom-text.result.now c.in-Csv.is c.without_bom-text.ensures c.ends_quoted.result c.ends_quoted.ensures in
    let yes = tells.1 unclosed in cc

pub returns-else-not-ends_quoted : goal.returns-else-not-ends_quoted
returns-else-not-ends_quoted c =
    let tells = tells-quoted c.args.reading c.in-Csv.delimiter c.args.input.now c.without_bom-text.result.now c.in-Csv.is c.without_bom-text.ensures c.ends_quoted.result c.ends_quoted.ensures in
    unclosed-from c.args.reading c.in-Csv.delimiter c.args.input.now c.without_bom-text.result.now c.in-Csv.is c.without_bom-text.ensures c.last_outside.result _
    (short-unmarked c.args.input.now c.without_bom-text.result.now c.without_bom-text.ensures) refl (tells.0 c.if-not-ends_quoted.false) c.last_outside.ensures.last

pub returns-in-Tsv : goal.returns-in-Tsv
returns-in-Tsv c = tsv-closed c.args.reading c.args.input.now c.in-Tsv.is
