-- Fewer levels with each call.
use Rattle.core_parts.proofs.letting.+let_go_path.Given as goal

abbrev pub decreases-let_go_path : goal.decreases-let_go_path
decreases-let_go_path l = l.levels
