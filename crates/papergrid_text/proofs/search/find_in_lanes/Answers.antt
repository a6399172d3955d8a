use Rattle.std.proofs.Common.{◌≡◌, ◌||◌, Bool, true, false, not, cond, refl}
use Rattle.std.specs.Prelude.{◌==◌}
use Rattle.std.proofs.lemmas.Simd.{zip2_of_maps, zip2_splat, length-chunk}
use lib.Bits.{bit_or}
use lib.Lanes.{top}
use Rattle.papergrid_text.proofs.Lanes.{all_pass, first_other}
use Rattle.papergrid_text.proofs.search.find_in_lanes.Goals as goal

either_lane : (v w : Bool) → not (top 7 (bit_or (cond v 255 0) (cond w 255 0))) ≡ not (v || w)
either_lane true true = refl
either_lane true false = refl
either_lane false true = refl
either_lane false false = refl

pub returns-then-mask-eq0 : goal.returns-then-mask-eq0
returns-then-mask-eq0 g c =
    let long = length-chunk c.args.from g.row.N c.args.bytes.now c.requires.room in
    all_pass (λ b. not ((b == c.args.one) || (b == c.args.other))) c.args.bytes.now c.args.from g.row.N _ c.requires.room c.requires.few c.type_inv.bytes _
    (zip2_of_maps _ _ _ _ (zip2_splat _ _ g.row.N c.args.one long) (zip2_splat _ _ g.row.N c.args.other long)) (λ b below. either_lane (b == c.args.one) (b == c.args.other)) c.if-mask-eq0.true

pub returns-else-mask-eq0 : goal.returns-else-mask-eq0
returns-else-mask-eq0 g c =
    let long = length-chunk c.args.from g.row.N c.args.bytes.now c.requires.room in
    first_other (λ b. not ((b == c.args.one) || (b == c.args.other))) c.args.bytes.now c.args.from g.row.N _ c.requires.room c.requires.few c.type_inv.bytes _
    (zip2_of_maps _ _ _ _ (zip2_splat _ _ g.row.N c.args.one long) (zip2_splat _ _ g.row.N c.args.other long)) (λ b below. either_lane (b == c.args.one) (b == c.args.other)) c.if-mask-eq0.false
