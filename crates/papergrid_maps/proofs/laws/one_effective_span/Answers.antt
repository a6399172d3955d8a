use Rattle.std.proofs.Common.{◌∙◌, sym}
use Rattle.papergrid_maps.proofs.SpanSearch.{effective_span}
use Rattle.papergrid_maps.proofs.EffectiveSpanLemmas.{IsEffectiveSpan-only, effective_span-IsEffectiveSpan}
use Rattle.papergrid_maps.proofs.laws.one_effective_span.Goals as goal

pub returns-clause-some : goal.returns-clause-some
returns-clause-some c calls d p = (effective_span d p calls, effective_span-IsEffectiveSpan d p calls)

pub returns-clause-only : goal.returns-clause-only
returns-clause-only c calls d p m n one other = IsEffectiveSpan-only d p calls m one ∙ sym (IsEffectiveSpan-only d p calls n other)
