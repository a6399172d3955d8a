use Rattle.std.proofs.Common.{◌∙◌, ap, eqb}
use Rattle.papergrid_tables.specs.ForProofs.CountedLines.{is_end_set}
use Rattle.papergrid_tables.proofs.CountLemmas.{taken_counted}
use Rattle.papergrid_tables.proofs.counted_lines.Lines.take.Goals as goal

pub recount-requires-clause-stored_first : goal.recount-requires-clause-stored_first
recount-requires-clause-stored_first g c = (taken_counted g.L.Ended.has_first (eqb c.args.number) c.args.self.now.values.entries c.remove-old.new.self.entries c.remove-old.result _ _ c.remove-old.ensures.entries c.remove-old.ensures.value
    (c.ends_of.ensures.first ∙ ap (is_end_set g.L.Ended.has_first) c.as_ref.ensures.value) c.requires.first).0

pub recount-requires-clause-stored_last : goal.recount-requires-clause-stored_last
recount-requires-clause-stored_last g c = (taken_counted g.L.Ended.has_last (eqb c.args.number) c.args.self.now.values.entries c.remove-old.new.self.entries c.remove-old.result _ _ c.remove-old.ensures.entries c.remove-old.ensures.value
    (c.ends_of.ensures.last ∙ ap (is_end_set g.L.Ended.has_last) c.as_ref.ensures.value) c.requires.last).0

pub returns-clause-counted : goal.returns-clause-counted
returns-clause-counted g c =
    let first =
    taken_counted g.L.Ended.has_first (eqb c.args.number) c.args.self.now.values.entries c.remove-old.new.self.entries c.remove-old.result _ _ c.remove-old.ensures.entries c.remove-old.ensures.value
    (c.ends_of.ensures.first ∙ ap (is_end_set g.L.Ended.has_first) c.as_ref.ensures.value) c.requires.first in
    let last =
    taken_counted g.L.Ended.has_last (eqb c.args.number) c.args.self.now.values.entries c.remove-old.new.self.entries c.remove-old.result _ _ c.remove-old.ensures.entries c.remove-old.ensures.value
    (c.ends_of.ensures.last ∙ ap (is_end_set g.L.Ended.has_last) c.as_ref.ensures.value) c.requires.last in
    rw c.recount.ensures.values (record { first = first.1 _ c.recount.ensures.first; last = last.1 _ c.recount.ensures.last; unique = c.remove-old.ensures.unique })
