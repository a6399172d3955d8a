use Rattle.std.proofs.Common.{◌≡◌, arith, length}
use Rattle.papergrid_layout.proofs.table.measured.Goals as goal

pub returns : goal.returns
returns g c =
    let sizes = c.args.sizes.now in
    let wide : c.len.result ≡ length sizes.columns.items = omega (arith, c.len.ensures) in
    let high : c.len-2.result ≡ length sizes.rows.items = omega (arith, c.len-2.ensures) in
    let found = rw (c.count_of-count.ensures, wide, high) at c.in-Some.ensures in
    (found.0, found.1, rw (c.count_of-count.ensures, wide, high) at c.in_ok-marks.ensures)
