use Rattle.std.proofs.Common.{◌∙◌, ap, get_or, sym}
use Rattle.std.specs.Int.{is_in_range}
use Rattle.papergrid_text.proofs.SimpleLemmas.{starts_letter}
use Rattle.papergrid_text.proofs.width.simple.columns_of_letter.Goals as goal

pub returns : goal.returns
returns c = starts_letter _ c.utf8.text c.requires (ap (λ bytes. is_in_range 0xCC 0xCD (get_or bytes 0 0)) (sym c.as_bytes.ensures.value) ∙ sym c.is_in_range.ensures ∙ c.if-is_in_range.false)
