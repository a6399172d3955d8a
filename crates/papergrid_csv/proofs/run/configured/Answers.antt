use Rattle.std.proofs.Common.{[]}
use Rattle.papergrid_csv.proofs.RunLemmas.{fitted-of, unfitted-of}
use Rattle.papergrid_csv.proofs.run.configured.Goals as goal

pub returns-in-Ok-clause-ok : goal.returns-in-Ok-clause-ok
returns-in-Ok-clause-ok c =
    let settings = c.args.settings.items in
    let plain = c.apply_all.new.self in
    let config = c.fit.new.config in
    let told = c.in_default.ensures.ok [] c.new-config.ensures in
    let (fitted, are, appends) = c.in-Ok.ensures.ok in
    record {
      fitted = fitted;
      fit = fitted-of c.args.request.now.junctions settings plain config c.args.shape fitted told are appends;
      told = appends settings told;
    }

pub returns-in-Err-fit-clause-err : goal.returns-in-Err-fit-clause-err
returns-in-Err-fit-clause-err c named =
    let settings = c.args.settings.items in
    let plain = c.apply_all.new.self in
    let told = c.in_default.ensures.ok [] c.new-config.ensures in
    unfitted-of c.args.request.now.junctions settings plain c.args.shape c.in-Err-fit.error told (c.in-Err-fit.ensures.err named)
