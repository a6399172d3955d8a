-- Room for several parts is room for one.
use Rattle.std.proofs.Common.{ℕ, ◌+◌, arith}
use Rattle.papergrid_tables.specs.ForProofs.CountedParts.{HasCornerRoom}
use Rattle.papergrid_tables.specs.declared.counted_parts.Corners.{Corners}

pub one_corner : {T : Type 0} (n : ℕ) (corners : Corners T) → HasCornerRoom (n + 1) corners → HasCornerRoom 1 corners
one_corner n corners room = let values = room.0 in let rows = room.1 in let columns = room.2 in (omega (arith, values), omega (arith, rows), omega (arith, columns))
