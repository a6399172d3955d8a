use Rattle.std.proofs.Common.{◌==◌}
use Rattle.std.proofs.lemmas.List.Splits.{length-slice_split}
use Rattle.papergrid_text.proofs.Splits.{is_split, only_split}
use Rattle.papergrid_text.proofs.laws.lines_join_to_text.Goals as goal

pub returns-clause-is_split : goal.returns-clause-is_split
returns-clause-is_split c = is_split

pub returns-clause-is_only : goal.returns-clause-is_only
returns-clause-is_only c = only_split

pub returns-clause-count : goal.returns-clause-count
returns-clause-count c = λ text. length-slice_split (λ b. b == 10) text
