use Rattle.std.proofs.Common.{◌++◌, ◌∷◌, [], ap, ◌∙◌}
use Rattle.journal_tests.proofs.Seats.{two_are_all}
use Rattle.journal_tests.proofs.reset_seats.close_resets.Goals as goal

pub close-requires-clause-all : goal.close-requires-clause-all
close-requires-clause-all c =
    two_are_all c.args.first c.args.second
    (c.in_ok-push-2.ensures.items ∙ ap (λ l. l ++ c.args.second ∷ []) (c.in_ok-push.ensures.items ∙ ap (λ l. l ++ c.args.first ∷ []) c.in_ok-seats.ensures.items))
    c.requires.first.0 c.requires.first.1 c.requires.second
