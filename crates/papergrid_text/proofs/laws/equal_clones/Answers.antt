-- A clone of rows has, place by place, clones of their cells.
use Rattle.std.proofs.Common.{arith}
use Rattle.papergrid_text.proofs.LineCacheClones.{map_from_zip, same_from_zip}
use Rattle.papergrid_text.proofs.laws.equal_clones.Goals as goal

pub returns-clause-held : goal.returns-clause-held
returns-clause-held g c = grind (arith, map_from_zip, same_from_zip)
