use Rattle.core_parts.proofs.free.+sole_above.Given as goal

abbrev pub decreases-sole_above : goal.decreases-sole_above
decreases-sole_above l = l.levels
