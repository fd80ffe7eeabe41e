-- Taken out, and then put in front.
use Rattle.std.proofs.Common.{◌≢◌, ◌∷◌, [], arith}
use Rattle.clk_model.specs.Lists.{without}
use Rattle.clk_tree.proofs.RingLaws.{not_in_without}
use Rattle.clk_tree.proofs.ring.Ring.move_behind.Goals as goal
use Rattle.clk_model.proofs.OnceLaws.{not_in-without}

pub returns-clause-front : goal.returns-clause-front
returns-clause-front c = λ xs out is.
    let number = c.args.number in
    let other : c.args.end ≢ number = (λ same. let below = c.requires.number in omega arith) in
    c.put_behind.ensures.front (without (number ∷ []) xs) (not_in_without c.args.end number xs out) (not_in-without number xs) (c.take_out.ensures.rings c.args.end xs other is)

pub returns-clause-others : goal.returns-clause-others
returns-clause-others c = λ e xs apart other out is.
    let number = c.args.number in
    c.put_behind.ensures.others e (without (number ∷ []) xs) apart other (not_in_without c.args.end number xs out) (not_in-without number xs) (c.take_out.ensures.rings e xs other is)

pub returns-clause-stays : goal.returns-clause-stays
returns-clause-stays c = λ k apart other alone. c.put_behind.ensures.stays k apart other (c.take_out.ensures.stays k other alone)
