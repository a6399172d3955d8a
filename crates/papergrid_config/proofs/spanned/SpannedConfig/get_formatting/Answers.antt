use Rattle.papergrid_config.proofs.spanned.SpannedConfig.get_formatting.Goals as goal

pub returns-clause-horizontal_trim : goal.returns-clause-horizontal_trim
returns-clause-horizontal_trim c settings told = rw c.new.ensures (c.get_trim_horizonal.ensures.effective settings told)

pub returns-clause-vertical_trim : goal.returns-clause-vertical_trim
returns-clause-vertical_trim c settings told = rw c.new.ensures (c.get_trim_vertical.ensures.effective settings told)

pub returns-clause-line_alignment : goal.returns-clause-line_alignment
returns-clause-line_alignment c settings told = rw c.new.ensures (c.get_line_alignment.ensures.effective settings told)
