use Rattle.std.proofs.Common.{◌∙◌, ap, get_or, sym}
use Rattle.papergrid_text.proofs.SimpleLemmas.{starts_tab}
use Rattle.papergrid_text.proofs.width.simple.first_other.Goals as goal

pub returns-then-lead-eq9 : goal.returns-then-lead-eq9
returns-then-lead-eq9 c = starts_tab _ c.utf8.text c.requires (ap (λ bytes. get_or bytes 0 0) (sym c.as_bytes.ensures.value) ∙ c.if-lead-eq9.true)
