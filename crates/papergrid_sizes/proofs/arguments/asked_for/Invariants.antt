use Rattle.std.proofs.Common.{◌≡◌}
use Rattle.std.specs.Prelude.{Ok}
use Rattle.std.specs.Vec.Iter.{into_iter_items}
use Rattle.papergrid_script.specs.Arguments.{said_by}
use Rattle.papergrid_sizes.specs.Arguments.{next_requested, nothing_requested}
use Rattle.papergrid_sizes.specs.ForProofs.Drafts.{requested_by}
use Rattle.papergrid_sizes.proofs.arguments.asked_for.Given as goal

abbrev pub invariant-loop-word : goal.invariant-loop-word
invariant-loop-word l =
    said_by next_requested (Ok nothing_requested) (into_iter_items l.fn.words) ≡ said_by next_requested (Ok (requested_by l.draft)) (into_iter_items l.word-iterator)
