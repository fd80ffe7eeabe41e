use Rattle.std.proofs.Common.{◌+◌, ◌∙◌, sym, ap, ℕ}
use Rattle.std.specs.Prelude.{nat_le}
use Rattle.clk_base.specs.declared.event.Errno.TheVariants.{EINVAL}
use Rattle.clk_model.specs.Begin.{most_credits}
use Rattle.clk_machine.specs.Readying.{lacks_room, moves_badly}
use Rattle.clk_machine.proofs.machine.Machine.tell_clocks.Goals as goal

pub returns-then-not-fits-clause-scripts : goal.returns-then-not-fits-clause-scripts
returns-then-not-fits-clause-scripts g c =
    lacks_room (ap (λ (n : ℕ). nat_le (n + c.args.draft.now.script.weight) most_credits) (sym c.used-used.ensures) ∙ ap (λ (n : ℕ). nat_le (c.used-used.result + n) most_credits) (sym c.weight-weight.ensures) ∙ sym c.fits.ensures ∙ c.if-not-fits.true)

pub returns-then-not-moves-clause-scripts : goal.returns-then-not-moves-clause-scripts
returns-then-not-moves-clause-scripts g c =
    moves_badly EINVAL
    (ap (λ (n : ℕ). nat_le (n + c.args.draft.now.script.weight) most_credits) (sym c.used-used.ensures) ∙ ap (λ (n : ℕ). nat_le (c.used-used.result + n) most_credits) (sym c.weight-weight.ensures) ∙ sym c.fits.ensures ∙ c.if-not-fits.false)
    (sym c.can_move-moves.ensures.moves ∙ c.if-not-moves.true)
