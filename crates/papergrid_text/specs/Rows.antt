-- The type behind the `&mut` that `VecRecords` lends: `Vec<Vec<T>>` as the logic holds it.
use Rattle.std.specs.Borrow.{RattleType}
use Rattle.std.specs.contracts.alloc.Global as global
use Rattle.std.specs.contracts.impls.GlobalAllocator.TheImpl.{ghosts}
use Rattle.std.specs.contracts.vec.Vec as vec

-- the code of that type
abbrev pub rows_row : RattleType → RattleType
rows_row T = vec.the_row (vec.the_row T global.the_row ghosts) global.the_row ghosts
