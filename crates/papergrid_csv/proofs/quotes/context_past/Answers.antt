use Rattle.std.proofs.Common.{◌∙◌, arith, refl}
use Rattle.papergrid_csv.proofs.QuoteLemmas.{past-last, context-kept, quoted-stays}
use Rattle.papergrid_csv.proofs.quotes.context_past.Goals as goal

pub returns-in-Quoted : goal.returns-in-Quoted
returns-in-Quoted c = quoted-stays c.args.delimiter c.args.context c.args.bytes.now c.requires c.in-Quoted.is

pub returns-then-bytes-eq0 : goal.returns-then-bytes-eq0
returns-then-bytes-eq0 c = context-kept c.args.delimiter c.args.context c.args.bytes.now (omega arith)

pub returns : goal.returns
returns c = c.plain_context.ensures ∙ past-last c.args.delimiter c.args.context c.args.bytes.now _ c.requires c.in_default.not-Quoted (omega arith) refl
