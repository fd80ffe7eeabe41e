use Rattle.clk_machine.specs.Holding.{stays}
use Rattle.clk_machine.proofs.Asking.{asked_begins, asked_joins}
use Rattle.clk_machine.proofs.Readying.{enters_by, leads_answered, proceeds_answered}
use Rattle.clk_machine.proofs.machine.Machine.asked.Goals as goal

pub returns-clause-enters : goal.returns-clause-enters
returns-clause-enters g c =
    let r = c.asked_reply-reply.result in
    enters_by c.args.self.now c.spend.new.self c.args.driver _ _
    (proceeds_answered c.args.self.now c.spend.new.self c.args.driver c.args.what r stays (λ k. asked_joins c.args.what r k c.requires.asks) c.requires.quiet c.spend.ensures)
    (λ s stands sound. leads_answered c.args.self.now c.spend.new.self s c.args.driver c.args.what r stays c.requires.credit c.requires.quiet c.spend.ensures stands sound
    (asked_begins s c.args.driver c.args.what _ c.requires.asks (c.asked_reply-reply.ensures.told s stands sound)))
