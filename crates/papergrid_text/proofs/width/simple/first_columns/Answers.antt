use Rattle.std.specs.Int.{is_in_range}
use Rattle.papergrid_text.proofs.SimpleLemmas.{passed, starts_ascii}
use Rattle.papergrid_text.proofs.width.simple.first_columns.Goals as goal

pub returns-then-is_in_range : goal.returns-then-is_in_range
returns-then-is_in_range c = starts_ascii _ c.utf8.text c.requires (passed (is_in_range 0x20 0x7E) _ _ _ c.is_in_range.ensures c.if-is_in_range.true c.as_bytes.ensures.value)
