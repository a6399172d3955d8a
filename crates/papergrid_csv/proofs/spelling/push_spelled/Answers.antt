use Rattle.std.proofs.Common.{◌≢◌, arith}
use Rattle.papergrid_csv.proofs.SpellingLemmas.{feed-kept, feed-spelled, others-spelled, pushed, same-on_ok, tab-spelled}
use Rattle.papergrid_csv.proofs.spelling.push_spelled.Goals as goal

pub returns-in-10 : goal.returns-in-10
returns-in-10 c = pushed c.push_str.result _ _ _ _ c.push_str.ensures.bytes (feed-spelled c.args.reading c.args.c c.in-10.is c.if-reading.true)

pub returns-in-10-2 : goal.returns-in-10-2
returns-in-10-2 c = pushed c.push.result _ _ _ _ c.push.ensures.bytes (feed-kept c.args.reading c.args.c c.in-10.is c.if-reading.false)

pub returns-in-9 : goal.returns-in-9
returns-in-9 c = same-on_ok c.push_tab.result _ _ _ _ c.push_tab.ensures (tab-spelled c.args.reading c.args.c c.in-9.is)

pub returns-in_default : goal.returns-in_default
returns-in_default c =
    let feed : c.args.c ≢ 10 = omega arith in
    let tab : c.args.c ≢ 9 = omega arith in
    same-on_ok c.push_in_line.result _ _ _ _ c.push_in_line.ensures (others-spelled c.args.reading c.args.c feed tab)
