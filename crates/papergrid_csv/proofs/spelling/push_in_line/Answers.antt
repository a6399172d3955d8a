use Rattle.papergrid_csv.proofs.SpellingLemmas.{pushed, raw-kept}
use Rattle.papergrid_csv.proofs.spelling.push_in_line.Goals as goal

pub returns-then-raw : goal.returns-then-raw
returns-then-raw c = pushed c.push.result _ _ _ _ c.push.ensures.bytes (raw-kept c.args.raw c.args.c c.if-raw.true)
