use Rattle.papergrid_tracks.proofs.settled.begin.Goals as goal

pub returns-in-Some-clause-refused : goal.returns-in-Some-clause-refused
returns-in-Some-clause-refused g c = λ sizing. c.in-Some.ensures.refused sizing (g.A.Axis.line c.args.axis.now)
