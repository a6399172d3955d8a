use Rattle.std.proofs.Common.{◌≡◌, ◌++◌, drop, flat_map}
use Rattle.papergrid_csv.specs.Requests.{entry_settings}
use Rattle.papergrid_csv.specs.Rows.{held_texts}
use Rattle.papergrid_csv.proofs.aligned.push_entries.Given as goal

abbrev pub invariant-loop-name : goal.invariant-loop-name
invariant-loop-name l =
    l.settings.items ++ flat_map (entry_settings l.request l.rows.columns (held_texts l.rows.rows)) (drop l.name-index l.name-items)
    ≡ l.initial.settings.items ++ flat_map (entry_settings l.request l.rows.columns (held_texts l.rows.rows)) l.request.columns.items
