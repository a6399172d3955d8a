use Rattle.std.proofs.Common.{rules, ◌∙◌, ap, ap₂, length, ◌<◌, ◌^◌}
use Rattle.std.specs.Slice.Iter.{chunks_size, chunks_rest}
use Rattle.papergrid_text.specs.Cut.{cut_rows}
use Rattle.papergrid_checks.proofs.own.RefFlatIntoRecords.iter_rows.Goals as goal

pub returns-clause-finite : goal.returns-clause-finite
returns-clause-finite c = λ _ it made.
    let size = c.chunks.ensures.size in
    let rest = ap length c.chunks.ensures.rest in
    let small : length (chunks_rest c.chunks.result) < 2 ^ 64 = search rules in
    let some : 0 < chunks_size c.chunks.result = search rules in
    c.chunks_tell_rows.ensures.lawful c.chunks.result some small it made

pub returns-clause-told : goal.returns-clause-told
returns-clause-told c = λ cells gave.
    let size = c.chunks.ensures.size in
    let some : 0 < chunks_size c.chunks.result = search rules in
    c.chunks_tell_rows.ensures.told c.chunks.result cells some gave ∙ ap₂ cut_rows size (c.chunks.ensures.rest ∙ c.deref.ensures.value)
