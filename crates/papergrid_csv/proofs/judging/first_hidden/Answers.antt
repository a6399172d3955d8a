use Rattle.std.proofs.Common.{map, subst}
use Rattle.std.proofs.lemmas.List.{take_all}
use Rattle.std.specs.Prelude.{MatchOption}
use Rattle.papergrid_values.specs.declared.position.Position.{Position}
use Rattle.papergrid_draw.specs.Tiles.{IsFirstPosition}
use Rattle.papergrid_csv.specs.Judging.{IsFieldHidden}
use Rattle.papergrid_csv.specs.Rows.{row_texts}
use Rattle.papergrid_csv.proofs.JudgingLemmas.{span-next}
use Rattle.papergrid_csv.proofs.judging.first_hidden.Goals as goal

pub loop-span-preserved : goal.loop-span-preserved
loop-span-preserved c =
    span-next c.args.spans.now (map row_texts c.args.rows.now) c.loop-span.span-index _ c.loop-span-test.true c.loop-span.first c.first_under.result c.earlier-first.result
    c.loop-span.invariant c.first_under.ensures c.earlier-first.ensures

pub returns : goal.returns
returns c =
    subst (λ spans. MatchOption c.loop-span.first ((p : Position) → IsFieldHidden spans (map row_texts c.args.rows.now) p → ⊥) (IsFirstPosition (IsFieldHidden spans (map row_texts c.args.rows.now))))
    (take_all c.loop-span.span-index c.args.spans.now c.loop-span-test.false) c.loop-span.invariant
