use Rattle.std.proofs.Common.{length}
use Rattle.std.specs.Prelude.{false}
use Rattle.std.specs.Str.Iter.{chars_rest}
use Rattle.papergrid_text.specs.ForProofs.Emoji.{state_of}
use Rattle.unicode_width.proofs.WidthLemmas.{HasRead}
use Rattle.papergrid_text.proofs.width.emoji.emoji_width.Given as goal

abbrev pub invariant-loop-c : goal.invariant-loop-c
invariant-loop-c l = HasRead false l.fn.text (chars_rest l.rest) l.width (state_of l.after)

abbrev pub decreases-loop-c : goal.decreases-loop-c
decreases-loop-c l = length (chars_rest l.rest)
