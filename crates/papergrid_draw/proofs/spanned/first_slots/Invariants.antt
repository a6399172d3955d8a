use Rattle.std.proofs.Common.{◌≡◌, vec_len}
use Rattle.papergrid_draw.proofs.spanned.first_slots.Given as goal

abbrev pub invariant-loop-col : goal.invariant-loop-col
invariant-loop-col g l = vec_len l.slots ≡ l.col
