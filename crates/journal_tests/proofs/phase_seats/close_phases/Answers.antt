use Rattle.std.proofs.Common.{◌++◌, ◌∷◌, [], ap, ◌∙◌}
use Rattle.journal_tests.proofs.Seats.{one_is_all}
use Rattle.journal_tests.proofs.phase_seats.close_phases.Goals as goal

pub close-requires-clause-all : goal.close-requires-clause-all
close-requires-clause-all c = one_is_all c.args.seat (c.in_ok-push.ensures.items ∙ ap (λ l. l ++ c.args.seat ∷ []) c.in_ok-seats.ensures.items) c.requires.alone.0 c.requires.alone.1
