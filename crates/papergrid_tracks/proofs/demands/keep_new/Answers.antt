use Rattle.std.proofs.Common.{◌≡◌, ◌<◌, ◌^◌, ◌+◌, false, ap, ◌∙◌, rules}
use Rattle.papergrid_tracks.specs.Ranges.{demand_of}
use Rattle.papergrid_tracks.specs.ForProofs.Demands.{is_single}
use Rattle.papergrid_tracks.proofs.DemandLemmas.{Holds-other, Holds-single}
use Rattle.papergrid_tracks.proofs.demands.keep_new.Goals as goal
use Rattle.papergrid_tracks.proofs.demands.keep_new.Goals.{then-span-eq1+then-demand-kept+in_ok-raise, else-span-eq1+in_ok-push}

pub returns-else-is_none : goal.returns-else-is_none
returns-else-is_none c = λ limit demands held.
    let total = c.args.measure + c.args.before + c.args.after in
    let d = demand_of c.args.direction c.args.position c.args.span total in
    let small : total < 2 ^ 64 = search rules in
    elim c.if-span-eq1.branch [
      | then-span-eq1+then-demand-kept+in_ok-raise w ↦
          let is = w.kept-is in
          Holds-single limit c.args.kept.now c.if-span-eq1.kept demands d held c.requires small
          (ap (λ s. s.limit) is) (ap (λ s. s.is_large) is) (search rules) (ap (λ s. s.rest.items) is) (λ k. search rules)
      | else-span-eq1+in_ok-push w ↦
          let is = w.kept-is in
          let other : is_single limit d ≡ false = search rules in
          Holds-other limit c.args.kept.now c.if-span-eq1.kept demands d held c.requires small
          (ap (λ s. s.limit) is) (ap (λ s. s.is_large) is) other (ap (λ s. s.rest.items) is ∙ (search rules)) (ap (λ s. s.single_span.items) is)
    ]
