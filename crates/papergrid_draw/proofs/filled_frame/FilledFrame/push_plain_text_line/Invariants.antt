use Rattle.std.proofs.Common.{◌≡◌, ◌++◌, string_bytes}
use Rattle.std.specs.List.{flat_map, range_with_len}
use Rattle.papergrid_draw.specs.Bytes.{pieces_bytes}
use Rattle.papergrid_draw.specs.Drawn.{column_pieces}
use Rattle.papergrid_draw.specs.ForProofs.FilledFrames.{filled}
use Rattle.papergrid_draw.proofs.filled_frame.FilledFrame.push_plain_text_line.Given as goal

abbrev pub invariant-loop-col : goal.invariant-loop-col
invariant-loop-col g l =
    string_bytes l.line ≡ string_bytes l.fn.line
    ++ pieces_bytes (flat_map (column_pieces (filled g.S.Cells.lines g.S.Cells.color l.self) l.row 0) (range_with_len 0 l.col))
