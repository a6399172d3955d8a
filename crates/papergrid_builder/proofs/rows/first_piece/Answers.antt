use Rattle.std.proofs.Common.{◌≡◌, ◌∙◌, ap, arith}
use Rattle.std.specs.Prelude.{◌==◌}
use Rattle.std.specs.List.{position_or_len}
use Rattle.std.proofs.lemmas.Str.{IsCharBoundary-after_ascii, IsCharBoundary-before_ascii}
use Rattle.papergrid_text.proofs.Places.{no_more_than}
use Rattle.papergrid_builder.proofs.TextLemmas.{ascii-at}
use Rattle.papergrid_builder.proofs.rows.first_piece.Goals as goal

pub range-requires-clause-end_boundary : goal.range-requires-clause-end_boundary
range-requires-clause-end_boundary c =
    let at : c.find_byte-at.result ≡ position_or_len (λ byte. byte == c.args.end) c.args.text.now =
    c.find_byte-at.ensures ∙ ap (position_or_len (λ byte. byte == c.args.end)) c.as_bytes.ensures.value in
    IsCharBoundary-before_ascii c.args.text.now c.find_byte-at.result c.if-at-text.true
    (ascii-at c.args.text.now c.args.end c.find_byte-at.result at c.if-at-text.true c.requires)

pub range_from-requires : goal.range_from-requires
range_from-requires c =
    let at : c.find_byte-at.result ≡ position_or_len (λ byte. byte == c.args.end) c.args.text.now =
    c.find_byte-at.ensures ∙ ap (position_or_len (λ byte. byte == c.args.end)) c.as_bytes.ensures.value in
    λ _. IsCharBoundary-after_ascii c.args.text.now c.find_byte-at.result c.utf8.text c.if-at-text.true
    (ascii-at c.args.text.now c.args.end c.find_byte-at.result at c.if-at-text.true c.requires)

pub returns-else-at-text-clause-after : goal.returns-else-at-text-clause-after
returns-else-at-text-clause-after c =
    let at : c.find_byte-at.result ≡ position_or_len (λ byte. byte == c.args.end) c.args.text.now =
    c.find_byte-at.ensures ∙ ap (position_or_len (λ byte. byte == c.args.end)) c.as_bytes.ensures.value in
    omega (arith, no_more_than c.args.text.now c.args.end, at, c.if-at-text.false)
