use Rattle.core_parts.proofs.plls.+has_loose.Given as goal

abbrev pub decreases-has_loose : goal.decreases-has_loose
decreases-has_loose l = l.levels
