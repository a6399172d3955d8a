use Rattle.std.proofs.Common.{ap}
use Rattle.papergrid_script.proofs.SeenLemmas.{gives_seen}
use Rattle.papergrid_script.proofs.answer.table_sizes.Goals as goal

pub returns : goal.returns
returns c = gives_seen (λ cell. cell.now) c.args.script c.in_ok-config.config _ _ c.args.sizing c.estimate.result c.in_ok-config.ensures.told
    (ap (λ r. r.iter.items) c.new-records.ensures) (ap (λ r. r.count_columns) c.new-records.ensures) c.estimate.ensures
