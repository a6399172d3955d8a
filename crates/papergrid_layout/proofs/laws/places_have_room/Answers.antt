use Rattle.papergrid_layout.proofs.PlaceLaws.{all-have-room, both-fit, never-too-large, totals}
use Rattle.papergrid_layout.proofs.laws.places_have_room.Goals as goal

pub returns-clause-room : goal.returns-clause-room
returns-clause-room g c = all-have-room

pub returns-clause-never_too_large : goal.returns-clause-never_too_large
returns-clause-never_too_large g c = never-too-large

pub returns-clause-fit : goal.returns-clause-fit
returns-clause-fit g c = both-fit

pub returns-clause-totals : goal.returns-clause-totals
returns-clause-totals g c = totals
