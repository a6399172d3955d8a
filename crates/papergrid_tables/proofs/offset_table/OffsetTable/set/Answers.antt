use Rattle.std.proofs.Common.{arith}
use Rattle.papergrid_values.proofs.ResultLemmas.{on_ok_map, on_err_map}
use Rattle.papergrid_values.proofs.EntryLemmas.{same_positions}
use Rattle.papergrid_tables.proofs.OverrideHistory.{either_way, kept_set, kept_unchanged, history_set}
use Rattle.papergrid_tables.proofs.offset_table.OffsetTable.set.Goals as goal

pub invariant_of-self : goal.invariant_of-self
invariant_of-self g c = either_way c.set_override.result
    (kept_set c.self.inside.overrides.entries _ c.args.position c.args.offset c.args.value c.self.invariant)
    (kept_unchanged c.self.inside.overrides.entries _ c.self.invariant)
    c.set_override.ensures.ok c.set_override.ensures.err

pub returns-clause-ok : goal.returns-clause-ok
returns-clause-ok g c = rw (← c.self.view_is)
    (on_ok_map c.set_override.result (history_set c.self.inside.overrides.entries _ c.args.position c.args.offset c.args.value) c.set_override.ensures.ok)

pub returns-clause-err : goal.returns-clause-err
returns-clause-err g c = grind (arith, on_err_map, same_positions)
