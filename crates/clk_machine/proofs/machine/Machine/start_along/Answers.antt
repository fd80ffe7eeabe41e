use Rattle.std.proofs.Common.{◌∙◌, ap, refl}
use Rattle.std.proofs.lemmas.Result.{on_ok_weaker}
use Rattle.change_walk.specs.Given.{Script}
use Rattle.clk_machine.specs.Readied.{scripted_of}
use Rattle.clk_machine.proofs.Readying.{room_to_start}
use Rattle.clk_machine.specs.ChangeCalls.{call_of}
use Rattle.clk_machine.proofs.machine.Machine.start_along.Goals as goal

pub start_change-requires-clause-room : goal.start_change-requires-clause-room
start_change-requires-clause-room g c =
    room_to_start c.args.self.now c.args.driver (call_of c.args.change) (scripted_of c.args.draft.now) c.take_steps.result.items c.extra.result c.requires.can c.take_steps.ensures.steps
    (c.extra.ensures ∙ ap (λ (s : Script). s.extra) c.take_steps.ensures.rest)

pub returns-clause-ok : goal.returns-clause-ok
returns-clause-ok g c =
    on_ok_weaker c.start_change.result
    (λ starts. record {
      start = record { driver = c.args.driver; call = c.call.result; script = c.take_steps.result; range = c.args.range; extra = c.extra.result; vetoed = c.vetoed.result };
      is = record {
        driver_ = refl;
        call = c.call.ensures;
        script = c.take_steps.ensures.steps;
        range_ = refl;
        extra = c.extra.ensures ∙ ap (λ (s : Script). s.extra) c.take_steps.ensures.rest;
        vetoed = c.vetoed.ensures ∙ ap (λ (s : Script). s.vetoed) c.take_steps.ensures.rest;
      };
      starts = starts;
    }) c.start_change.ensures.ok
