use Rattle.std.proofs.Common.{rules, ◌≡◌, false, None, inl, refl}
use Rattle.clk_base.specs.declared.call.Micro.TheVariants as micro
use Rattle.clk_base.specs.declared.event.Turn.TheVariants.{Done}
use Rattle.clk_model.specs.Step.{is_end}
use Rattle.clk_machine.proofs.Along.{along_step, along_unended, comes_first}
use Rattle.clk_machine.proofs.machine.Machine.step_out.Goals as goal

pub returns-in-Some-End-clause-along : goal.returns-in-Some-End-clause-along
returns-in-Some-End-clause-along g c = λ d m a r. along_step c.args.self.now c.end-reply.new.self micro.End None (Done c.end-reply.result) c.end-reply.ensures.enters d m a (Done r) (inl refl)

pub returns-in-Some : goal.returns-in-Some
returns-in-Some g c =
    let other : is_end c.in-Some._step ≡ false = search rules in
    record {
      along = λ d m a r. along_unended c.args.self.now c.halt.new.self c.in-Some._step d m a r c.requires (comes_first c.args.self.now c.in-Some._step c.in-Some.ensures.next) other;
      quiet = c.halt.ensures.quiet;
      same = c.halt.ensures.same;
    }
