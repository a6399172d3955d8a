use Rattle.std.proofs.Common.{eqb, ap, ◌∙◌, arith, w8}
use Rattle.std.proofs.lemmas.Simd.{bitmask_splat, length-chunk, ones-mask_l}
use lib.Count.{ones}
use lib.Lanes.{chunk}
use Rattle.papergrid_text.proofs.count.count_in_lanes.Goals as goal

pub returns : goal.returns
returns c =
    let v = chunk c.args.from 32 c.args.bytes.now in
    ap ones (bitmask_splat w8 eqb v 32 c.args.byte (length-chunk c.args.from 32 c.args.bytes.now c.requires) (omega arith)) ∙ ones-mask_l (λ x. eqb x c.args.byte) v
