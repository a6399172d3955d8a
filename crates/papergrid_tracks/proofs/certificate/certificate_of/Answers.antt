use Rattle.std.proofs.Common.{◌≡◌, ◌∙◌, ap, ap₂, sym, refl, subst, length, map}
use Rattle.std.proofs.lemmas.Bool.{false≢true}
use Rattle.papergrid_tracks.specs.Certificates.{certificate_cells}
use Rattle.papergrid_tracks.specs.ForProofs.LastCells.{AreExact, IsLaminarInOrder}
use Rattle.papergrid_tracks.specs.Ranges.{position_of}
use Rattle.papergrid_tracks.proofs.Theorems.{table-by_span, table-growing, Fits-sizes_of}
use Rattle.papergrid_tracks.proofs.CertificateLemmas.{AreChosen-from_laminar, AreExact-settled, NoneCertify-unless_laminar, IsLaminarInOrder-growing_cells}
use Rattle.papergrid_tracks.proofs.certificate.certificate_of.Goals as goal

pub is_laminar_in_order-requires : goal.is_laminar_in_order-requires
is_laminar_in_order-requires c =
    let grown = c.requires.2 in
    let many : length c.args.sizes.now ≡ c.requires.0.count = ap length grown.shares ∙ (Fits-sizes_of c.requires.0 grown.table).one_each in
    rw (many, grown.in_order) (table-by_span c.requires.0 grown.table)

pub returns-then-not-branch-clause-asked : goal.returns-then-not-branch-clause-asked
returns-then-not-branch-clause-asked c = λ problem kept grown asked.
    let none = rw c.if-not-branch.true at c.in_ok-is_laminar_in_order.ensures in
    NoneCertify-unless_laminar problem grown.table grown.total (λ laminar. false≢true (none.1 (subst IsLaminarInOrder (sym grown.in_order) laminar)))

pub certifying_positions-requires-clause-growing_cells : goal.certifying_positions-requires-clause-growing_cells
certifying_positions-requires-clause-growing_cells c =
    let problem = c.requires.0 in
    let grown = c.requires.2 in
    rw (grown.grew, (ap length grown.shares ∙ (Fits-sizes_of problem grown.table).one_each)) (table-growing problem grown.table)

pub certifying_positions-requires-clause-laminar : goal.certifying_positions-requires-clause-laminar
certifying_positions-requires-clause-laminar c =
    let grown = c.requires.2 in
    let laminar = (rw c.if-not-branch.false at c.in_ok-is_laminar_in_order.ensures).0 refl in
    subst IsLaminarInOrder (sym grown.grew) (IsLaminarInOrder-growing_cells c.requires.0 (subst IsLaminarInOrder grown.in_order laminar))

pub returns-clause-asked : goal.returns-clause-asked
returns-clause-asked c = λ problem kept grown asked.
    let many : length c.args.sizes.now ≡ problem.count = ap length grown.shares ∙ (Fits-sizes_of problem grown.table).one_each in
    let exact : AreExact problem.demands c.args.growing_cells.now c.args.sizes.now c.deref.result.now =
    rw (grown.grew, grown.shares, c.deref.ensures.value) (AreExact-settled problem c.args.kept.now kept grown.table grown.total) in
    AreChosen-from_laminar problem grown.table grown.total c.in_ok-positions.positions.items
    (c.in_ok-positions.ensures problem.demands exact
    ∙ ap (map position_of) (ap (λ k. certificate_cells k problem.demands c.args.growing_cells.now c.args.sizes.now) many ∙ ap₂ (certificate_cells problem.count problem.demands) grown.grew grown.shares))
    (subst IsLaminarInOrder grown.in_order ((rw c.if-not-branch.false at c.in_ok-is_laminar_in_order.ensures).0 refl))
