use Rattle.std.proofs.Common.{arith}
use Rattle.std.proofs.lemmas.Map.Entries.{entries_from_clone}
use Rattle.papergrid_tables.specs.ForProofs.OverrideScan.{IsCopy}
use Rattle.papergrid_tables.proofs.OverrideHistory.{kept_copied}
use Rattle.papergrid_tables.proofs.offset_table.OffsetTableClone.clone.Goals as goal

pub invariant_of-result : goal.invariant_of-result
invariant_of-result g c =
    kept_copied (λ h k. IsCopy g.T.Clone.is_clone h k) (λ h k copy. copy.offsets) c.self.inside.overrides.entries _ c.self.invariant c.in_ok-clone.ensures.cases

pub returns : goal.returns
returns g c = grind (arith, entries_from_clone)
