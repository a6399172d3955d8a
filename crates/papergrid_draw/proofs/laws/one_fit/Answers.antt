use Rattle.papergrid_draw.proofs.OneFitLemmas.{fit-or-fault, one-fit, one-fit-fault}
use Rattle.papergrid_draw.proofs.laws.one_fit.Goals as goal

pub returns-clause-settings : goal.returns-clause-settings
returns-clause-settings c x y shape junctions settings other same = one-fit x y shape same junctions settings other

pub returns-clause-fitted : goal.returns-clause-fitted
returns-clause-fitted c x y shape junctions settings e same = fit-or-fault x y shape same junctions settings e

pub returns-clause-refused : goal.returns-clause-refused
returns-clause-refused c x y shape e f same = one-fit-fault x y shape same e f
