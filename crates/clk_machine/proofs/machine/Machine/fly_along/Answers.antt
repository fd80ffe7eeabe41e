use Rattle.std.proofs.Common.{◌∙◌, refl, ap}
use Rattle.change_walk.specs.Given.{Script}
use Rattle.clk_flight.specs.Begun.{begun}
use Rattle.clk_flight.specs.declared.start.Start.{Start}
use Rattle.clk_model.specs.Script.{plls}
use Rattle.clk_machine.specs.Parts.{Parts}
use Rattle.clk_machine.proofs.machine.Machine.fly_along.Goals as goal

pub returns-clause-ok : goal.returns-clause-ok
returns-clause-ok g c =
    let start : Start = record { driver = c.args.driver; call = c.call.result; script = c.take_steps.result; range = c.range_of.result; extra = c.extra.result; vetoed = c.vetoed.result } in
    record {
      start = start;
      is = record {
        driver_ = refl;
        call = c.call.ensures;
        script = c.take_steps.ensures.steps;
        range_ = c.range_of.ensures;
        extra = c.extra.ensures ∙ ap (λ (s : Script). s.extra) c.take_steps.ensures.rest;
        vetoed = c.vetoed.ensures ∙ ap (λ (s : Script). s.vetoed) c.take_steps.ensures.rest;
      };
      flight = c.in_ok-before.ensures.begun ∙ ap (begun start) (c.plls.ensures.plls ∙ ap plls c.self.invariant.tied.defs ∙ ap (λ (q : Parts). plls q.desc.defs) c.self.view_is);
      change = c.in_ok-before.ensures.change;
    }
