-- What drafts say.
use Rattle.papergrid_sizes.specs.declared.arguments.Draft.{Draft}
use Rattle.papergrid_sizes.specs.Arguments.{Requested}

-- what the words of a draft say
abbrev pub requested_by : Draft → Requested
requested_by draft = record { takes_options = draft.takes_options; asked = draft.asked; wanted = draft.wanted }
