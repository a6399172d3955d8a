use Rattle.std.proofs.Common.{arith, refl, sym, ◌∙◌, ℕ, List, Bor}
use Rattle.papergrid_json.proofs.PartLemmas.{named_behind, named_here, none_behind}
use Rattle.papergrid_json.proofs.parts.is_named.Goals as goal

pub loop-other-init : goal.loop-other-init
loop-other-init c = refl

pub returns-then-eq : goal.returns-then-eq
returns-then-eq c =
    sym (named_here (λ (n : Bor (List ℕ)). n.now) c.args.name.now c.args.names.now c.loop-other.other-index _ c.loop-other-test.true (sym c.if-eq.ensures)) ∙ c.loop-other.invariant

pub loop-other-preserved : goal.loop-other-preserved
loop-other-preserved c =
    sym (named_behind (λ (n : Bor (List ℕ)). n.now) c.args.name.now c.args.names.now c.loop-other.other-index _ c.loop-other-test.true (sym c.if-eq.ensures)) ∙ c.loop-other.invariant

pub returns : goal.returns
returns c =
    sym (none_behind (λ (n : Bor (List ℕ)). n.now) c.args.name.now c.args.names.now c.loop-other.other-index (omega (arith, c.loop-other-test.false))) ∙ c.loop-other.invariant
