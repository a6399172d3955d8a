use Rattle.std.proofs.Common.{All, map, subst}
use Rattle.papergrid_csv.specs.Rows.{row_texts, held_texts}
use Rattle.papergrid_csv.specs.ForProofs.Cuts.{HasLinesWithin}
use Rattle.papergrid_csv.proofs.WidestLemmas.{first-cut}
use Rattle.papergrid_csv.proofs.within.first_cut.Goals as goal

pub returns : goal.returns
returns c =
    first-cut c.args.width c.widest_line.result c.saturating_sub.result c.max.result c.min.result (held_texts c.args.rows.now.rows)
    (subst (λ rows. All (All (HasLinesWithin c.widest_line.result)) (map row_texts rows)) c.deref.ensures.value c.widest_line.ensures)
    c.saturating_sub.ensures c.max.ensures c.min.ensures
