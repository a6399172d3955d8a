use Rattle.std.proofs.Common.{◌≡◌, ap, sym, ◌∙◌, refl, true}
use Rattle.std.proofs.lemmas.Bool.Decides.{Decides-eqb}
use Rattle.std.proofs.lemmas.Slice.Eq.{slice_eq-Decides}
use Rattle.papergrid_text.specs.LineCache.{cached_lines}
use Rattle.papergrid_text.proofs.LineCacheClones.{same_lines, still_inside}
use Rattle.papergrid_text.proofs.line_cache.LineCache.clone_for.Goals as goal

pub returns-then-eq-clause-inside : goal.returns-then-eq-clause-inside
returns-then-eq-clause-inside c =
    let eq : c.args.new.now ≡ c.args.old.now = (slice_eq-Decides Decides-eqb c.args.new.now c.args.old.now true c.if-eq.ensures).0 refl in
    still_inside c.args.old.now c.args.new.now c.args.self.now c.in_ok-lines.lines c.in_ok-lines.ensures.cases (sym eq) c.requires

pub returns-then-eq-clause-same : goal.returns-then-eq-clause-same
returns-then-eq-clause-same c = λ e. ap (λ t. cached_lines t c.in_ok-lines.lines) e ∙ same_lines c.args.old.now c.args.self.now c.in_ok-lines.lines c.in_ok-lines.ensures.cases
