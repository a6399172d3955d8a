use Rattle.std.proofs.Common.{◌≡◌}
use Rattle.std.specs.Prelude.{Ok}
use Rattle.std.specs.Vec.Iter.{into_iter_items}
use Rattle.papergrid_script.specs.Arguments.{said_by}
use Rattle.papergrid_table.specs.Arguments.{next_said, unsaid}
use Rattle.papergrid_table.specs.ForProofs.Drafts.{said_of}
use Rattle.papergrid_table.proofs.arguments.asked_for.Given as goal

abbrev pub invariant-loop-word : goal.invariant-loop-word
invariant-loop-word l =
    said_by next_said (Ok unsaid) (into_iter_items l.fn.words) ≡ said_by next_said (Ok (said_of l.draft)) (into_iter_items l.word-iterator)
