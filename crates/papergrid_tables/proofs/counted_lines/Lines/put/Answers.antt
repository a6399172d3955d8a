use Rattle.std.proofs.Common.{◌∙◌, ap}
use Rattle.papergrid_tables.specs.ForProofs.CountedLines.{is_end_set}
use Rattle.papergrid_tables.proofs.CountLemmas.{put_counted}
use Rattle.papergrid_tables.proofs.counted_lines.Lines.put.Goals as goal

pub recount-requires-clause-stored_first : goal.recount-requires-clause-stored_first
recount-requires-clause-stored_first g c = (put_counted g.L.Ended.has_first c.args.self.now.values c.insert.new.self c.args.number c.args.line c.in_ok-old.old _ _ _ c.in_ok-old.ensures.old c.in_ok-old.ensures.entries
    (c.ends_of.ensures.first ∙ ap (is_end_set g.L.Ended.has_first) c.as_ref.ensures.value) c.ends-new.ensures.first c.requires.first).0

pub recount-requires-clause-stored_last : goal.recount-requires-clause-stored_last
recount-requires-clause-stored_last g c = (put_counted g.L.Ended.has_last c.args.self.now.values c.insert.new.self c.args.number c.args.line c.in_ok-old.old _ _ _ c.in_ok-old.ensures.old c.in_ok-old.ensures.entries
    (c.ends_of.ensures.last ∙ ap (is_end_set g.L.Ended.has_last) c.as_ref.ensures.value) c.ends-new.ensures.last c.requires.last).0

pub returns-clause-counted : goal.returns-clause-counted
returns-clause-counted g c =
    let first =
    put_counted g.L.Ended.has_first c.args.self.now.values c.insert.new.self c.args.number c.args.line c.in_ok-old.old _ _ _ c.in_ok-old.ensures.old c.in_ok-old.ensures.entries
    (c.ends_of.ensures.first ∙ ap (is_end_set g.L.Ended.has_first) c.as_ref.ensures.value) c.ends-new.ensures.first c.requires.first in
    let last =
    put_counted g.L.Ended.has_last c.args.self.now.values c.insert.new.self c.args.number c.args.line c.in_ok-old.old _ _ _ c.in_ok-old.ensures.old c.in_ok-old.ensures.entries
    (c.ends_of.ensures.last ∙ ap (is_end_set g.L.Ended.has_last) c.as_ref.ensures.value) c.ends-new.ensures.last c.requires.last in
    rw c.recount.ensures.values (record { first = first.1 _ c.recount.ensures.first; last = last.1 _ c.recount.ensures.last; unique = c.in_ok-old.ensures.unique })
