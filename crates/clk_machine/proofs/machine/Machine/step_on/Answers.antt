use Rattle.std.proofs.Common.{rules, ◌≡◌, true, None, Some, inl, inr, sym}
use Rattle.clk_base.specs.declared.call.Micro.TheVariants as micro
use Rattle.clk_base.specs.declared.event.Turn.TheVariants.{Going}
use Rattle.clk_machine.specs.Making.{only_goes_on}
use Rattle.clk_machine.proofs.Along.{along_step, asks_none}
use Rattle.clk_machine.proofs.machine.Machine.step_on.Goals as goal

pub returns-in-Some-Poll-clause-along : goal.returns-in-Some-Poll-clause-along
returns-in-Some-Poll-clause-along g c = λ d m.
    along_step c.args.self.now c.poll_as.new.self (micro.Poll c.in-Some-Poll.pll) (Some c.is_yes-yes.result) Going c.poll_as.ensures d m c.args.answer Going (inr (sym c.is_yes-yes.ensures))

pub returns-in-Some : goal.returns-in-Some
returns-in-Some g c =
    let on : only_goes_on c.in-Some.step ≡ true = search rules in
    record {
      along = λ d m. along_step c.args.self.now c.make.new.self c.in-Some.step None Going c.make.ensures.enters d m c.args.answer Going (inl (asks_none c.in-Some.step on));
      going = c.make.ensures.enters.going;
      same = (c.make.ensures.enters.remains.desc, c.make.ensures.enters.remains.size);
    }

pub returns-in-Some-End-clause-along : goal.returns-in-Some-End-clause-along
returns-in-Some-End-clause-along g c = λ d m. c.stay.ensures d m c.args.answer
