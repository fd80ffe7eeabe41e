use Rattle.orphans.proofs.beside.+meets.Given as goal

abbrev pub decreases-meets : goal.decreases-meets
decreases-meets l = l.levels
