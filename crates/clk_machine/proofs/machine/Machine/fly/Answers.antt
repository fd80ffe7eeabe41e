use Rattle.std.proofs.Common.{◌∙◌, false, None, refl, ap}
use Rattle.clk_flight.specs.Begun.{begun}
use Rattle.clk_flight.specs.declared.start.Start.{Start}
use Rattle.clk_model.specs.Script.{plls}
use Rattle.clk_machine.specs.Parts.{Parts}
use Rattle.clk_machine.proofs.machine.Machine.fly.Goals as goal

pub returns-clause-ok : goal.returns-clause-ok
returns-clause-ok g c =
    let start : Start = record { driver = c.args.driver; call = c.args.what; script = c.args.script; range = None; extra = 0; vetoed = false } in
    record {
      start = start;
      flight = c.in_ok-_before.ensures.begun ∙ ap (begun start) (c.plls.ensures.plls ∙ ap plls c.self.invariant.tied.defs ∙ ap (λ (q : Parts). plls q.desc.defs) c.self.view_is);
      change = c.in_ok-_before.ensures.change;
      driver = refl;
      call_ = refl;
      script = refl;
      range = refl;
      extra = refl;
      vetoed = refl;
    }
