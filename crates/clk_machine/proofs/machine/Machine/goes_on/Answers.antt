use Rattle.std.proofs.Common.{◌∙◌, ◌||◌, Bool, not, ap}
use Rattle.clk_base.specs.Places.{places}
use Rattle.clk_machine.proofs.Probing.{empty_is, goes_on_told}
use Rattle.clk_machine.proofs.machine.Machine.goes_on.Goals as goal

pub returns-clause-told : goal.returns-clause-told
returns-clause-told g c = λ s stands sound is.
    c.goes_on.ensures ∙ ap (λ (b : Bool). not b || c.must_raise-raises.result) (c.is_empty.ensures ∙ empty_is c.args.orphans.now)
    ∙ goes_on_told c.args.self.now s c.args.clock.0 (places c.args.orphans.now) c.must_raise-raises.result c.must_raise-raises.ensures.whole stands sound c.requires.place is (c.must_raise-raises.ensures.told s stands)
