use Rattle.clk_machine.specs.Holding.{stays}
use Rattle.clk_machine.proofs.Beginning.{answered_leaves}
use Rattle.clk_machine.proofs.Readying.{leads_answered, proceeds_at_once}
use Rattle.clk_machine.specs.ChangeCalls.{call_of}
use Rattle.clk_machine.proofs.ChangeCalls.{changes_of}
use Rattle.clk_machine.proofs.machine.Machine.answer_planned.Goals as goal

pub returns-in_default-clause-proceeds : goal.returns-in_default-clause-proceeds
returns-in_default-clause-proceeds g c = proceeds_at_once c.args.self.now c.spend.new.self c.args.driver (call_of c.args.change) c.args.reply stays (changes_of c.args.change) c.requires.quiet c.spend.ensures

pub returns-in_default-clause-leads : goal.returns-in_default-clause-leads
returns-in_default-clause-leads g c = λ s stands sound is.
    leads_answered c.args.self.now c.spend.new.self s c.args.driver (call_of c.args.change) c.args.reply stays c.requires.credit c.requires.quiet c.spend.ensures stands sound
    (answered_leaves s c.args.driver (call_of c.args.change) c.args.reply (changes_of c.args.change) c.in_default.not-Fine is)
