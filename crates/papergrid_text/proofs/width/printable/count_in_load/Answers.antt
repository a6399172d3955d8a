use Rattle.std.proofs.Common.{leb, cond, refl}
use Rattle.std.proofs.lemmas.Simd.{zip2_of_maps, zip2_splat, zip2_splat_left, length-chunk}
use Rattle.std.specs.Int.{is_in_range}
use Rattle.papergrid_text.proofs.Lanes.{all_pass, by_table, first_other}
use Rattle.papergrid_text.proofs.width.printable.count_in_load.Goals as goal

pub returns-then-mask-eq0 : goal.returns-then-mask-eq0
returns-then-mask-eq0 g c =
    let long = length-chunk c.args.from g.row.N c.args.bytes.now c.requires.room in
    all_pass (is_in_range 0x20 0x7E) c.args.bytes.now c.args.from g.row.N _ c.requires.room c.requires.few c.type_inv.bytes _
    (zip2_of_maps _ _ _ _ (zip2_splat _ _ g.row.N 0x20 long) (zip2_splat_left (λ a b. cond (leb a b) 255 0) 0x7F g.row.N _ long)) (by_table _ _ refl) c.if-mask-eq0.true

pub returns-else-mask-eq0 : goal.returns-else-mask-eq0
returns-else-mask-eq0 g c =
    let long = length-chunk c.args.from g.row.N c.args.bytes.now c.requires.room in
    first_other (is_in_range 0x20 0x7E) c.args.bytes.now c.args.from g.row.N _ c.requires.room c.requires.few c.type_inv.bytes _
    (zip2_of_maps _ _ _ _ (zip2_splat _ _ g.row.N 0x20 long) (zip2_splat_left (λ a b. cond (leb a b) 255 0) 0x7F g.row.N _ long)) (by_table _ _ refl) c.if-mask-eq0.false
