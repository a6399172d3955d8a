use Rattle.std.specs.Cmp.{eq_by_cmp_equiv}
use Rattle.std.specs.Ordering.{eq_by_cmp}
use Rattle.papergrid_values.specs.MapKeys.{position_cmp}
use Rattle.papergrid_values.proofs.KeyLemmas.{position_total}
use Rattle.papergrid_values.proofs.EntryLemmas.{empty_where_none}
use Rattle.papergrid_values.proofs.colors.BTreeMapPositionColors.is_empty.Goals as goal

pub returns : goal.returns
returns g c = empty_where_none (eq_by_cmp position_cmp) (eq_by_cmp_equiv position_total) c.args.self.now.entries c.is_empty.ensures
