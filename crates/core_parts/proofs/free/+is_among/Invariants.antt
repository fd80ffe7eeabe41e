use Rattle.core_parts.proofs.free.+is_among.Given as goal

abbrev pub decreases-is_among : goal.decreases-is_among
decreases-is_among l = l.many
