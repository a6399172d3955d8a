use Rattle.std.proofs.Common.{◌≡◌, ◌+◌, ℕ, subst, sym, arith}
use Rattle.std.proofs.lemmas.List.{nil_from_length}
use Rattle.papergrid_text.specs.ForProofs.Simple.{ReadsQuietly}
use Rattle.papergrid_text.proofs.SimpleLemmas.{reads_nothing}
use Rattle.papergrid_text.proofs.width.simple.simple_width.Goals as goal

pub loop-rest-preserved : goal.loop-rest-preserved
loop-rest-preserved g c =
    let piece = c.in_ok-columns.ensures in
    let room = c.loop-rest.invariant.room in
    let sum : (n : ℕ) → c.loop-rest.width + (c.in_ok-columns.columns + n) ≡ c.loop-rest.width + c.in_ok-columns.columns + n = λ n. omega arith in
    record {
      text = c.range_from-rest.utf8;
      reads = λ n quietly. subst (ReadsQuietly c.args.text.now) (sum n) (c.loop-rest.invariant.reads _ (piece.reads n (subst (λ bs. ReadsQuietly bs n) c.range_from-rest.ensures.value quietly)));
      room = omega (arith, piece.boundary.0);
    }

pub returns-clause-value : goal.returns-clause-value
returns-clause-value g c =
    let none = nil_from_length c.loop-rest.rest.now (omega arith) in
    let whole : c.loop-rest.width + 0 ≡ c.loop-rest.width = omega arith in
    subst (ReadsQuietly c.args.text.now) whole (c.loop-rest.invariant.reads 0 (subst (λ bs. ReadsQuietly bs 0) (sym none) reads_nothing))
