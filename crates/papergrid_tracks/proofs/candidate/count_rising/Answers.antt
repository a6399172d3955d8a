use Rattle.std.proofs.Common.{◌≡◌, ◌∙◌, ap, Bool, cond, true, false, refl, sym, arith}
use mir.Val.{bool_byte}
use Rattle.papergrid_tracks.proofs.CandidateLemmas.{is_same, listed-at, listed-none}
use Rattle.papergrid_tracks.proofs.candidate.count_rising.Goals as goal

bit_of : (b : Bool) → bool_byte b ≡ cond b 1 0
bit_of true = refl
bit_of false = refl

pub returns-in_default : goal.returns-in_default
returns-in_default c =
    sym (listed-none c.args.direction c.args.positions.now c.args.position c.index_rising-at.result c.requires (rw c.number_of.ensures at c.index_rising-at.ensures) c.in_default.ensures.lookup.3)

pub returns : goal.returns
returns c =
    let listed = c.in-Some.ensures.lookup in
    c.from.ensures ∙ bit_of c.eq.result ∙ ap (λ b. cond b 1 0) (c.eq.ensures ∙ ap (is_same c.args.position) listed.1)
    ∙ sym (listed-at c.args.direction c.args.positions.now c.args.position c.index_rising-at.result c.requires (rw c.number_of.ensures at c.index_rising-at.ensures) c.in-Some.listed.now (omega arith))
