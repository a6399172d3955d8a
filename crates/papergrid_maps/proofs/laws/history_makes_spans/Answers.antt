use Rattle.std.proofs.Common.{◌∙◌, sym}
use Rattle.papergrid_maps.proofs.Made.{spans_made}
use Rattle.papergrid_maps.proofs.MadeTables.{spans_made_history, span_history}
use Rattle.papergrid_maps.proofs.laws.history_makes_spans.Goals as goal

pub returns-clause-some : goal.returns-clause-some
returns-clause-some c calls = (spans_made calls, spans_made_history calls)

pub returns-clause-only : goal.returns-clause-only
returns-clause-only c calls s t one other = span_history calls s one ∙ sym (span_history calls t other)
