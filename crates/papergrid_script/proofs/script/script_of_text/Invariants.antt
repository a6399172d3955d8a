use Rattle.std.proofs.Common.{◌≡◌, ◌+◌, length, map}
use Rattle.std.specs.Prelude.{IfSome, IsUtf8}
use Rattle.papergrid_text.specs.LinesLeft.{lines_of_rest}
use Rattle.papergrid_text.specs.Text.{split_lines}
use Rattle.papergrid_script.specs.ForProofs.Read.{without_cr}
use Rattle.papergrid_script.specs.ForProofs.Read.{empty_table, table_after}
use Rattle.papergrid_script.specs.ForProofs.Drafts.{table_so_far}
use Rattle.papergrid_script.proofs.script.script_of_text.Given as goal

-- what the whole text tells is what the rest of it does, after the lines so far
abbrev pub invariant-loop-rest : goal.invariant-loop-rest
invariant-loop-rest l = record {
  text : IfSome l.rest (λ rest. IsUtf8 rest.now);
  counted : l.number + length (lines_of_rest l.rest) ≡ length (split_lines l.input);
  told : table_after 1 empty_table (map without_cr (split_lines l.input))
      ≡ table_after (l.number + 1) (table_so_far l.draft) (map without_cr (lines_of_rest l.rest));
}

abbrev pub decreases-loop-rest : goal.decreases-loop-rest
decreases-loop-rest l = length (lines_of_rest l.rest)
