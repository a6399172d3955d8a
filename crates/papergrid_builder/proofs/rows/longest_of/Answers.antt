use Rattle.std.proofs.Common.{Bor, ◌∙◌, [], List, ℕ, ap, get_or, length, max, refl, sym}
use Rattle.std.proofs.lemmas.List.{length-map}
use Rattle.papergrid_builder.specs.ForProofs.Texts.{texts_lent}
use Rattle.papergrid_builder.proofs.TextLemmas.{longest-take, max-of}
use Rattle.papergrid_builder.proofs.rows.longest_of.Goals as goal

pub loop-row-preserved : goal.loop-row-preserved
loop-row-preserved c =
    let none : Bor (List (Bor (List ℕ))) = record { ref_ptr = (0, 0); now = [] } in
    let row = get_or c.args.rows.now c.loop-row.row-index none in
    let count = length row.now in
    c.max-longest.ensures ∙ max-of c.loop-row.longest count count refl ∙ ap (λ n. max n count) c.loop-row.invariant
    ∙ sym (longest-take (λ (r : Bor (List (Bor (List ℕ)))). texts_lent r.now) c.args.rows.now c.loop-row.row-index none count c.loop-row-test.true (length-map row.now (λ (text : Bor (List ℕ)). text.now)))
