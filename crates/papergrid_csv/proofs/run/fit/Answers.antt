use Rattle.std.proofs.Common.{[], append-nil, refl, subst, sym}
use Rattle.papergrid_config.specs.History.{HasSettingHistory}
use Rattle.papergrid_csv.proofs.run.fit.Goals as goal

pub returns-in-None-clause-ok : goal.returns-in-None-clause-ok
returns-in-None-clause-ok c = ([], rw c.in-None.is refl, λ calls told. subst (λ s. HasSettingHistory s c.args.config.now) (sym (append-nil calls)) told)

pub returns-in-None-clause-err : goal.returns-in-None-clause-err
returns-in-None-clause-err c = tt

pub returns-in-Some-clause-ok : goal.returns-in-Some-clause-ok
returns-in-Some-clause-ok c = rw c.in-Some.is c.fit_crossings.ensures.ok

pub returns-in-Some-clause-err : goal.returns-in-Some-clause-err
returns-in-Some-clause-err c = rw c.in-Some.is c.fit_crossings.ensures.err

pub returns-in-Some-clause-works : goal.returns-in-Some-clause-works
returns-in-Some-clause-works c = c.fit_crossings.ensures.works
