use Rattle.std.proofs.Common.{ap, ◌∙◌, arith}
use Rattle.std.specs.Prelude.{◌==◌}
use Rattle.std.specs.List.{position_or_len}
use Rattle.papergrid_text.proofs.Places.{is_there}
use Rattle.papergrid_script.proofs.cut.split_at_byte.Goals as goal

pub split_around-requires-clause-within : goal.split_around-requires-clause-within
split_around-requires-clause-within c =
    (is_there c.args.text.now c.args.byte c.find_byte-at.result (c.find_byte-at.ensures ∙ ap (position_or_len (λ b. b == c.args.byte)) c.as_bytes.ensures.value) c.if-at-text.false).0

pub split_around-requires-clause-ascii : goal.split_around-requires-clause-ascii
split_around-requires-clause-ascii c =
    let same = (is_there c.args.text.now c.args.byte c.find_byte-at.result (c.find_byte-at.ensures ∙ ap (position_or_len (λ b. b == c.args.byte)) c.as_bytes.ensures.value) c.if-at-text.false).1 in
    let ascii = c.requires in
    omega arith
