use Rattle.papergrid_walk.proofs.max_tree.MaxTree.+new.Given as goal

abbrev pub decreases-new : goal.decreases-new
decreases-new l = l.columns
