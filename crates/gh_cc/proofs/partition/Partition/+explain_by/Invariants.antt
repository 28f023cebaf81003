use Rattle.gh_cc.proofs.partition.Partition.+explain_by.Given as goal

abbrev pub decreases-explain_by : goal.decreases-explain_by
decreases-explain_by l = l.depth
