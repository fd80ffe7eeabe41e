use Rattle.core_parts.proofs.plls.+lowerable_above.Given as goal

abbrev pub decreases-lowerable_above : goal.decreases-lowerable_above
decreases-lowerable_above g l = l.levels
