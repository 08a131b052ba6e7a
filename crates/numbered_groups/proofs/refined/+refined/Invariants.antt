use Rattle.numbered_groups.proofs.refined.+refined.Given as goal

abbrev pub decreases-refined : goal.decreases-refined
decreases-refined g l = l.bound
