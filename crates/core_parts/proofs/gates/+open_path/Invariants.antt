use Rattle.core_parts.proofs.gates.+open_path.Given as goal

abbrev pub decreases-open_path : goal.decreases-open_path
decreases-open_path g l = l.levels
