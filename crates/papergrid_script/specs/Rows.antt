-- Worked scripts: what is written for each, and how its run ends.
use Rattle.std.specs.Prelude.{◌≡◌, codes, List, ℕ}
use Rattle.papergrid_tracks.specs.declared.sizing.Sizing.{Sizing}
use Rattle.papergrid_tracks.specs.declared.sizing.Sizing.TheVariants.{ByShares, Least}
use Rattle.papergrid_script.specs.declared.answer.RunEnd.{RunEnd}
use Rattle.papergrid_script.specs.declared.answer.RunEnd.TheVariants.{Done, Refused, BadScript}
use Rattle.papergrid_script.specs.Outputs.{IsAnswer}

-- the run of a script ends so and writes this, and no other end and no other output are its
pub record GivesBy (sizing : Sizing) (script output : List ℕ) (end : RunEnd) : Type 0 where
  pub answer : IsAnswer sizing script end output
  pub alone : (other : RunEnd) (bytes : List ℕ) → IsAnswer sizing script other bytes → (other ≡ end) × (bytes ≡ output)

-- the scripts that were worked by hand
pub record WorkedScripts : Type 0 where
  pub first_run : GivesBy ByShares (codes "columns 2\npad * 1 1 0 0\npad 0,1 0 3 1 0\nrow\ncell ab\ncell c\\nde\nrow\ncell\ncell xyz\n") (codes "widths 4 5\nheights 3 1\ntotal 9 4\nwitness widths 0,0 0,1\nwitness heights 0,1 1,0\n") Done
  pub short_row : GivesBy ByShares (codes "columns 3\nrow\ncell ab\nrow\n") (codes "widths 2 0 0\nheights 1 0\ntotal 2 1\nwitness widths 0,0\nwitness heights 0,0\n") Done
  pub out_before_too_large : GivesBy ByShares (codes "columns 1\npad * 18446744073709551615 0 0 0\nrow\ncell a\ncell b\n") (codes "refused: out of table at 0,1\n") Refused
  pub row_override_over_column : GivesBy ByShares (codes "pad c0 1 0 0 0\ncolumns 1\nrow\ncell\ncell\ncolumns 2\npad r0 0 5 0 0\n") (codes "widths 5 5\nheights 1\ntotal 10 1\nwitness widths 0,0 0,1\nwitness heights 0,0\n") Done
  pub greatest_size : GivesBy ByShares (codes "columns 1\npad * 18446744073709551615 0 0 0\nrow\ncell\n") (codes "widths 18446744073709551615\nheights 1\ntotal 18446744073709551615 1\nwitness widths 0,0\nwitness heights 0,0\n") Done
  pub greatest_size_and_one : GivesBy ByShares (codes "columns 1\npad * 18446744073709551615 0 0 0\nrow\ncell a\n") (codes "refused: too large\n") Refused
  pub greatest_size_and_borders : GivesBy ByShares (codes "columns 1\npad * 18446744073709551615 0 0 0\nrow\ncell\nborder |\n") (codes "refused: too large\n") Refused
  pub out_of_table : GivesBy ByShares (codes "columns 1\nrow\ncell a\ncell b\n") (codes "refused: out of table at 0,1\n") Refused
  pub nested_column_spans : GivesBy ByShares (codes "columns 3\ncolspan 1,0 3\ncolspan 2,1 2\nrow\ncell a\ncell a\ncell a\nrow\ncell 0123456789\nrow\ncell a\ncell 01234567\n") (codes "widths 2 4 4\nheights 1 1 1\ntotal 10 3\nwitness widths 1,0\nwitness heights 0,0 1,0 2,0\n") Done
  pub equal_ranges : GivesBy ByShares (codes "columns 2\ncolspan 0,0 2\ncolspan 1,0 2\nrow\ncell abc\nrow\ncell abcdef\n") (codes "widths 4 2\nheights 1 1\ntotal 6 2\nwitness widths 1,0\nwitness heights 0,0 1,0\n") Done
  pub out_of_table_by_rows : GivesBy ByShares (codes "columns 1\nrowspan 0,0 2\nrow\ncell a\n") (codes "refused: out of table at 0,0\n") Refused
  pub no_columns : GivesBy ByShares (codes "columns 0\n") (codes "widths\nheights\ntotal 0 0\nwitness widths\nwitness heights\n") Done
  pub empty_input : GivesBy ByShares (codes "") (codes "widths\nheights\ntotal 0 0\nwitness widths\nwitness heights\n") Done
  pub borders_alone : GivesBy ByShares (codes "columns 0\nborder |\n") (codes "widths\nheights\ntotal 1 1\nwitness widths\nwitness heights\n") Done
  pub one_line : GivesBy ByShares (codes "columns 2\nvline 1 |\nhline 7 -\nrow\ncell ab\ncell c\n") (codes "widths 2 1\nheights 1\ntotal 4 1\nwitness widths 0,0 0,1\nwitness heights 0,0\n") Done
  pub no_line : GivesBy ByShares (codes "columns 2\nvline 1 |\nhline 7 -\nrow\ncell ab\ncell c\nnovline 1\n") (codes "widths 2 1\nheights 1\ntotal 3 1\nwitness widths 0,0 0,1\nwitness heights 0,0\n") Done
  pub all_lines : GivesBy ByShares (codes "columns 2\nborder |\nrow\ncell ab\ncell c\n") (codes "widths 2 1\nheights 1\ntotal 6 3\nwitness widths 0,0 0,1\nwitness heights 0,0\n") Done
  pub cell_before_row : GivesBy ByShares (codes "cell a\n") (codes "bad script at line 1\n") BadScript
  pub bad_escape : GivesBy ByShares (codes "columns 2\n\nrow\ncell a\\x\n") (codes "bad script at line 4\n") BadScript
  pub least_nested_column_spans : GivesBy Least (codes "columns 3\ncolspan 1,0 3\ncolspan 2,1 2\nrow\ncell a\ncell a\ncell a\nrow\ncell 0123456789\nrow\ncell a\ncell 01234567\n") (codes "widths 2 4 4\nheights 1 1 1\ntotal 10 3\nwitness widths 1,0\nwitness heights 0,0 1,0 2,0\n") Done
  pub least_crossing_column_spans : GivesBy Least (codes "columns 3\ncolspan 0,0 2\ncolspan 1,1 2\nrow\ncell 0123456789\nrow\ncell\ncell 0123456789\n") (codes "widths 0 10 0\nheights 1 1\ntotal 10 2\nwitness widths 0,0\nwitness heights 0,0 1,0\n") Done
