use Rattle.std.proofs.Common.{◌≡◌, Option, Some, refl, sym, ap, ◌∙◌}
use Rattle.std.specs.Option.{option_map}
use Rattle.clk_base.specs.declared.event.Event.{Event}
use Rattle.clk_base.specs.declared.event.Event.TheVariants.{Enable, Disable, Running}
use Rattle.driver_runs.specs.Called.{event_of}
use Rattle.driver_runs.specs.declared.called.Called.{Called}
use Rattle.driver_threads.proofs.Whole.{answers_at_once}
use Rattle.driver_threads.proofs.Choosing.{may_begin}
use Rattle.driver_threads.proofs.Going.{answers_same}
use Rattle.driver_threads.proofs.command.make_call.Goals as goal

-- the event of a call that is made
made : (called : Option Called) (one : Called) (event : Option Event) → called ≡ Some one → option_map event_of called ≡ event → event ≡ Some (event_of one)
made called one event is same = sym same ∙ ap (option_map event_of) is

pub make_sleeping-requires-after_bounds : goal.make_sleeping-requires-after_bounds
make_sleeping-requires-after_bounds g c κs within =
    may_begin _ c.args.driver.now c.args.held c.args.act c.in-Sleeping.what (made c.call_of.result c.in-Some.called _ c.in-Some.is c.call_of.ensures ∙ ap (λ (x : Called). Some (event_of x)) c.in-Sleeping.is) c.requires

pub returns-in-Enable-clause-ok : goal.returns-in-Enable-clause-ok
returns-in-Enable-clause-ok g c = (
  Enable c.in-Enable.handle.number,
  made c.call_of.result c.in-Some.called _ c.in-Some.is c.call_of.ensures ∙ ap (λ (x : Called). Some (event_of x)) c.in-Enable.is,
  answers_at_once c.args.driver.now c.enable.new.driver (Enable c.in-Enable.handle.number) c.enable.result refl c.enable.ensures,
)

pub returns-in-Disable-clause-ok : goal.returns-in-Disable-clause-ok
returns-in-Disable-clause-ok g c = (
  Disable c.in-Disable.handle.number,
  made c.call_of.result c.in-Some.called _ c.in-Some.is c.call_of.ensures ∙ ap (λ (x : Called). Some (event_of x)) c.in-Disable.is,
  answers_at_once c.args.driver.now c.disable.new.driver (Disable c.in-Disable.handle.number) c.disable.result refl c.disable.ensures,
)

pub returns-in-Running-clause-ok : goal.returns-in-Running-clause-ok
returns-in-Running-clause-ok g c = (
  Running c.in-Running.handle.number,
  made c.call_of.result c.in-Some.called _ c.in-Some.is c.call_of.ensures ∙ ap (λ (x : Called). Some (event_of x)) c.in-Running.is,
  answers_at_once c.args.driver.now c.running.new.driver (Running c.in-Running.handle.number) c.running.result refl c.running.ensures,
)

pub returns-in-Enable-clause-same : goal.returns-in-Enable-clause-same
returns-in-Enable-clause-same g c =
    answers_same c.args.driver.now c.enable.new.driver (Enable c.in-Enable.handle.number) c.enable.result
    (answers_at_once c.args.driver.now c.enable.new.driver (Enable c.in-Enable.handle.number) c.enable.result refl c.enable.ensures)

pub returns-in-Disable-clause-same : goal.returns-in-Disable-clause-same
returns-in-Disable-clause-same g c =
    answers_same c.args.driver.now c.disable.new.driver (Disable c.in-Disable.handle.number) c.disable.result
    (answers_at_once c.args.driver.now c.disable.new.driver (Disable c.in-Disable.handle.number) c.disable.result refl c.disable.ensures)

pub returns-in-Running-clause-same : goal.returns-in-Running-clause-same
returns-in-Running-clause-same g c =
    answers_same c.args.driver.now c.running.new.driver (Running c.in-Running.handle.number) c.running.result
    (answers_at_once c.args.driver.now c.running.new.driver (Running c.in-Running.handle.number) c.running.result refl c.running.ensures)
