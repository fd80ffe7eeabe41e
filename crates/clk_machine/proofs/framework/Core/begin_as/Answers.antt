use Rattle.std.proofs.Common.{subst}
use Rattle.clk_machine.specs.Copied.{IsDecided}
use Rattle.clk_machine.specs.Run.{now_of}
use Rattle.clk_machine.specs.declared.decision.Decision.{Decision}
use Rattle.clk_machine.proofs.framework.Core.begin_as.Goals as goal

pub begin_replied-requires-clause-decided : goal.begin_replied-requires-clause-decided
begin_replied-requires-clause-decided g c = λ told. subst (λ (made : Decision). IsDecided (now_of c.args.self.now) c.args.driver c.args.what.now made) c.in-Reply.is (c.requires.decided told)

pub begin_scripted-requires-clause-decided : goal.begin_scripted-requires-clause-decided
begin_scripted-requires-clause-decided g c = λ told. subst (λ (made : Decision). IsDecided (now_of c.args.self.now) c.args.driver c.args.what.now made) c.in-Script.is (c.requires.decided told)
