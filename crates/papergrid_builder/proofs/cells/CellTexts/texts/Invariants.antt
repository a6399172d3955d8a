use Rattle.std.proofs.Common.{◌≡◌, map, string_bytes, take}
use Rattle.papergrid_builder.specs.ForProofs.Texts.{text_in, texts_lent}
use Rattle.papergrid_builder.proofs.cells.CellTexts.texts.Given as goal

-- the texts of the cells before this one
abbrev pub invariant-loop-start : goal.invariant-loop-start
invariant-loop-start l = texts_lent l.texts.items ≡ map (text_in (string_bytes l.self-inside.text)) (take l.start-index l.start-items)
