use Rattle.core_parts.proofs.gates.+close_path.Given as goal

abbrev pub decreases-close_path : goal.decreases-close_path
decreases-close_path g l = l.levels
