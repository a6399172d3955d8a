use Rattle.std.proofs.Common.{◌≡◌, ◌∷◌, [], take, map, string_bytes}
use Rattle.papergrid_checks.specs.declared.entries.Entry.{Entry}
use Rattle.papergrid_checks.proofs.entries.rows_of.Given as goal

abbrev pub invariant-loop-entry : goal.invariant-loop-entry
invariant-loop-entry l =
    map (λ row. map (λ text. text.now) row.items) l.rows.items
    ≡ map (λ (entry : Entry). string_bytes entry.name ∷ string_bytes entry.note ∷ []) (take l.entry-index l.entries)
