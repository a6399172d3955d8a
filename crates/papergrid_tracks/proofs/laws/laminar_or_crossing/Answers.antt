use Rattle.papergrid_tracks.proofs.LaminarLemmas.{laminar-or-crossing, not_laminar}
use Rattle.papergrid_tracks.proofs.laws.laminar_or_crossing.Goals as goal

pub returns : goal.returns
returns c = record { either = laminar-or-crossing; never_both = λ demands laminar cross. not_laminar demands cross laminar }
