use Rattle.tree_encode.proofs.names.+fault_of.Given as goal

abbrev pub decreases-fault_of : goal.decreases-fault_of
decreases-fault_of g l = l.levels
