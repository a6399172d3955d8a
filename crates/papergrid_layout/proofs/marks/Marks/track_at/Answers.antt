use Rattle.std.proofs.Common.{◌∙◌, arith, refl}
use Rattle.std.proofs.lemmas.List.{get_or_read}
use Rattle.papergrid_layout.proofs.MarkLemmas.{none-in-first, track-tested}
use Rattle.papergrid_layout.proofs.marks.Marks.track_at.Goals as goal

pub returns-in_err-track : goal.returns-in_err-track
returns-in_err-track c = grind (arith, none-in-first)

pub returns : goal.returns
returns c = λ size line count are fits.
    let at = c.in_ok-track.ensures size line count are fits in
    let end = get_or_read c.args.self.now.ends.items _ _ (omega (arith, at.0, are.each_end)) c.index.ensures 0 ∙ are.ends c.in_ok-track.track at.0 in
    rw c.then_some.ensures (track-tested size line count c.args.point c.in_ok-track.track c.index.result.now _ at end refl)
