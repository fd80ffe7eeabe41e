use Rattle.std.proofs.Common.{◌∙◌, sym, Some, None}
use Rattle.clk_machine.proofs.Asking.{rate_unknown, rate_known}
use Rattle.clk_machine.proofs.Entered.{own_stands}
use Rattle.clk_machine.proofs.machine.Machine.rate_reply.Goals as goal

pub rate_of-requires : goal.rate_of-requires
rate_of-requires g c = c.own.ensures.whole.handled c.args.handle.number c.in-Some.row c.in-Some.ensures.live

pub returns-in-Some-clause-told : goal.returns-in-Some-clause-told
returns-in-Some-clause-told g c = λ s stands sound.
    rate_known s c.args.driver c.args.handle c.in-Some.row c.rate_of.result (own_stands c.args.self.now s c.args.driver c.args.handle.number (Some c.in-Some.row) stands (c.own.ensures.row ∙ c.in-Some.is)) (sym (c.rate_of.ensures s stands))

pub returns-in-None-clause-told : goal.returns-in-None-clause-told
returns-in-None-clause-told g c = λ s stands sound.
    rate_unknown s c.args.driver c.args.handle (own_stands c.args.self.now s c.args.driver c.args.handle.number None stands (c.own.ensures.row ∙ c.in-None.is))
