use Rattle.core_parts.proofs.plls.+raisable_above.Given as goal

abbrev pub decreases-raisable_above : goal.decreases-raisable_above
decreases-raisable_above l = l.levels
