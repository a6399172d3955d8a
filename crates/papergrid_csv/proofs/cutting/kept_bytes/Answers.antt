use Rattle.papergrid_csv.proofs.CutLemmas.{front-cut, is-front}
use Rattle.papergrid_csv.proofs.cutting.kept_bytes.Goals as goal

pub returns-then-columns-printable : goal.returns-then-columns-printable
returns-then-columns-printable c =
    front-cut c.args.columns c.saturating_sub.result c.count_printable-printable.result c.args.line.now c.utf8.line
    (is-front c.args.line.now c.count_printable-printable.result c.count_printable-printable.ensures) c.if-columns-printable.true c.saturating_sub.ensures c.requires
