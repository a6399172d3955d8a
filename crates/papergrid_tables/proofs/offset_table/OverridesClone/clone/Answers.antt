use Rattle.std.proofs.Common.{◌∙◌, ℕ, ap, is_some}
use Rattle.std.proofs.lemmas.Map.Entries.{entries_from_clone}
use Rattle.papergrid_tables.specs.Overrides.{StoredOffsets, at_offset}
use Rattle.papergrid_tables.proofs.OverrideHistory.{offsets_copied, offsets_of}
use Rattle.papergrid_tables.proofs.offset_table.OverridesClone.clone.Goals as goal

pub returns : goal.returns
returns g c = record {
  cases = record {
    offsets = λ o.
        offsets_copied g.T.Clone.is_clone c.self.inside.from_start.entries c.self.inside.from_end.entries _ _ c.in_ok-clone.ensures.cases c.in_ok-clone-2.ensures.cases o
        ∙ ap (λ (h : StoredOffsets g.row.T.Denot). is_some (at_offset h o)) c.self.view_is;
    same = λ same.
        let from_start = entries_from_clone _ _ (λ (x y : ℕ) h. h) same _ _ c.in_ok-clone.ensures.cases in
        let from_end = entries_from_clone _ _ (λ (x y : ℕ) h. h) same _ _ c.in_ok-clone-2.ensures.cases in
        (λ i. offsets_of (from_start i) (from_end i)) ∙ c.self.view_is;
  };
}
