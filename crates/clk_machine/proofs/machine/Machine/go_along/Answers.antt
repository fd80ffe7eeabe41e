use Rattle.std.proofs.Common.{None}
use Rattle.std.proofs.lemmas.Result.{on_ok_weaker}
use Rattle.clk_machine.specs.Readied.{scripted_of}
use Rattle.clk_machine.proofs.Readying.{along_left, leads_along, proceeds_along}
use Rattle.clk_machine.specs.ChangeCalls.{call_of}
use Rattle.clk_machine.proofs.ChangeCalls.{changes_of}
use Rattle.clk_machine.proofs.machine.Machine.go_along.Goals as goal

pub returns-clause-proceeds : goal.returns-clause-proceeds
returns-clause-proceeds g c =
    on_ok_weaker c.start_along.result (λ along. proceeds_along c.args.self.now c.start_along.new.self c.args.driver (call_of c.args.change) (scripted_of c.args.draft.now) (changes_of c.args.change) c.requires.can along) c.start_along.ensures.ok

pub returns-clause-leads : goal.returns-clause-leads
returns-clause-leads g c =
    on_ok_weaker c.start_along.result (λ along. leads_along c.args.self.now c.start_along.new.self c.args.driver (call_of c.args.change) (scripted_of c.args.draft.now) c.requires.credit c.requires.unranged along) c.start_along.ensures.ok

pub returns-clause-left : goal.returns-clause-left
returns-clause-left g c =
    on_ok_weaker c.start_along.result (λ along. along_left c.args.self.now c.start_along.new.self c.args.driver (call_of c.args.change) (scripted_of c.args.draft.now) None c.requires.can along) c.start_along.ensures.ok
