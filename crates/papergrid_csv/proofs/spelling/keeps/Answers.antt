use Rattle.std.proofs.Common.{◌≢◌, ◌≡◌, arith, false}
use Rattle.papergrid_csv.proofs.SpellingLemmas.{feed-same, other-same, raw-same}
use Rattle.papergrid_csv.proofs.spelling.keeps.Goals as goal

pub returns-in-10 : goal.returns-in-10
returns-in-10 c many =
    let all : c.args.reading.one_line ≡ false = grind arith in
    feed-same c.args.reading c.args.c c.in-10.is all

pub returns-then-reading : goal.returns-then-reading
returns-then-reading c is =
    let feed : c.args.c ≢ 10 = omega arith in
    let tab : c.args.c ≢ 9 = omega arith in
    raw-same c.args.reading c.args.c feed tab is

pub returns-else-reading : goal.returns-else-reading
returns-else-reading c is =
    let feed : c.args.c ≢ 10 = omega arith in
    let tab : c.args.c ≢ 9 = omega arith in
    let back : c.args.c ≢ 13 = omega arith in
    other-same c.args.reading c.args.c feed tab back (c.stays.ensures is)
