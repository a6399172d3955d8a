use Rattle.papergrid_values.specs.MapKeys.{position_eq}
use Rattle.papergrid_values.proofs.KeyLemmas.{position_equiv}
use Rattle.papergrid_values.proofs.EntryLemmas.{empty_where_none}
use Rattle.papergrid_values.proofs.colors.HashMapPositionColors.is_empty.Goals as goal

pub returns : goal.returns
returns g c = empty_where_none position_eq position_equiv c.args.self.now.entries c.is_empty.ensures
