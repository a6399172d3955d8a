use Rattle.std.proofs.lemmas.Str.{IsCharBoundary-after_ascii}
use Rattle.papergrid_script.proofs.cut.split_around.Goals as goal

pub range_from-requires : goal.range_from-requires
range_from-requires c = λ some. IsCharBoundary-after_ascii c.args.text.now c.args.at c.utf8.text c.requires.within c.requires.ascii
