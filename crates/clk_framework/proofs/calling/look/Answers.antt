use Rattle.std.proofs.Common.{◌≡◌, subst}
use Rattle.clk_machine.specs.Run.{Run}
use Rattle.clk_framework.specs.Lawful.{RunsByLaw}
use Rattle.clk_framework.specs.Opening.{opened_of, start_of}
use Rattle.clk_framework.proofs.Looking.{looked}
use Rattle.clk_framework.proofs.calling.look.Goals as goal

pub returns : goal.returns
returns g c =
    looked c.args.driver.now c.take-guard.new.pass c.give_back.new.pass c.take-guard.result.value.value record {
      idle = c.requires.idle;
      took = c.take-guard.ensures.turn;
      continues = c.take-guard.ensures.seen;
      knows = c.take-guard.ensures.fixed;
      mine = c.take-guard.ensures.mine;
      numbers = c.take-guard.ensures.numbers;
      gave = c.give_back.ensures;
      opened = subst (λ (r : Run). r.start ≡ start_of (opened_of r)) c.deref.ensures c.look.ensures.opened;
      lawful = subst RunsByLaw c.deref.ensures c.look.ensures.lawful;
    }
